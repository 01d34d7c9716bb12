use Rattle.std.proofs.Common.{◌≡◌, ◌-◌, length}
use Rattle.mx_proc.specs.Waits.{walk}
use Rattle.mx_proc.proofs.waits.Waits.reaches.Given as goal

-- the walk from here decides
abbrev pub invariant-loop-step : goal.invariant-loop-step
invariant-loop-step l = walk (l._step-end - l._step) l.self l.at l.to ≡ walk (length l.self) l.self l.from l.to
