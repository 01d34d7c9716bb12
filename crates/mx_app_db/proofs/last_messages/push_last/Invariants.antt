use Rattle.std.proofs.Common.{◌≡◌, ◌++◌, drop}
use Rattle.std.specs.Prelude.{string_bytes}
use Rattle.std.specs.List.{flat_map}
use Rattle.mx_machine.specs.History.{replay}
use Rattle.mx_app_db.specs.LastMessages.{kept_line, last_of, recorded}
use Rattle.mx_app_db.proofs.last_messages.push_last.Given as goal

-- with the lines that are left it would be the whole text
abbrev pub invariant-loop-index : goal.invariant-loop-index
invariant-loop-index l =
    let all = (replay l.kernel).table.deliveries in
    string_bytes l.out ++ flat_map (kept_line l.glance) (drop l.index (recorded all)) ≡ string_bytes l.fn.out ++ last_of l.glance all l.most
