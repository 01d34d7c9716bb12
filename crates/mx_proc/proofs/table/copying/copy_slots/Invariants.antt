use Rattle.std.proofs.Common.{◌≡◌, take}
use Rattle.mx_proc.proofs.table.copying.copy_slots.Given as goal

-- the processes so far are copied
abbrev pub invariant-loop-process : goal.invariant-loop-process
invariant-loop-process l = l.copies.items ≡ take l.process-index l.slots
