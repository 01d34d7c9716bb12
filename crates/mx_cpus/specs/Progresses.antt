-- How a round of the respawner ended, by what its loop does then.
use Rattle.std.specs.Prelude.{ℕ}
use Rattle.mx_machine.specs.World.{World}
use Rattle.mx_cpus.specs.Seats.{SeatView}
use Rattle.mx_cpus.specs.Courses.{IsRound, IsRoundToFull, IsSweep, IsSweepToFull}
use Rattle.mx_cpus.specs.declared.progress.Progress.{Progress}
use Rattle.mx_cpus.specs.declared.progress.Progress.TheVariants.{GoesOn, Full}

abbrev pub IsSweepTo : World → SeatView → SeatView → Progress → Type 0
IsSweepTo boot s t GoesOn = IsSweep boot s t
IsSweepTo boot s t Full = IsSweepToFull boot s t

abbrev pub IsRoundTo : World → ℕ → SeatView → SeatView → Progress → Type 0
IsRoundTo boot left s t GoesOn = IsRound boot left s t
IsRoundTo boot left s t Full = IsRoundToFull boot left s t
