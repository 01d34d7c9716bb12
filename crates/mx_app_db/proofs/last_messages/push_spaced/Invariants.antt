use Rattle.std.proofs.Common.{◌≡◌, ◌++◌, take}
use Rattle.std.specs.Prelude.{string_bytes}
use Rattle.mx_app_db.specs.LastMessages.{spaced}
use Rattle.mx_app_db.proofs.last_messages.push_spaced.Given as goal

abbrev pub invariant-loop-number : goal.invariant-loop-number
invariant-loop-number l = string_bytes l.out ≡ string_bytes l.initial.out ++ spaced (take l.number-index l.numbers)
