use Rattle.std.proofs.Common.{◌≡◌}
use Rattle.std.specs.Prelude.{All}
use Rattle.mx_cpus.specs.Calls.{StandsIn}
use Rattle.mx_cpus.proofs.shared.Shared.into_kernel.Given as goal

abbrev pub invariant-loop-seat : goal.invariant-loop-seat
invariant-loop-seat g l = (l.locked ≡ l.initial.locked) × All (λ s. StandsIn l.locked.history s) l.yielded
