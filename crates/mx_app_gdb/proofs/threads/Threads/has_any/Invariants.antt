use Rattle.std.proofs.Common.{◌≡◌, ◌-◌}
use Rattle.std.specs.List.{list_any, range_with_len}
use Rattle.mx_app_gdb.specs.Replied.{has_any}
use Rattle.mx_app_gdb.specs.Threads.{is_seen}
use Rattle.mx_app_gdb.proofs.threads.Threads.has_any.Given as goal

-- if gdb has one, it is among the slots that are left
abbrev pub invariant-loop-slot : goal.invariant-loop-slot
invariant-loop-slot l = list_any (is_seen l.self) (range_with_len l.slot (32 - l.slot)) ≡ has_any l.self
