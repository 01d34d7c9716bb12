use Rattle.std.proofs.Common.{length}
use Rattle.mx_cpus.proofs.threads.+drive_all.Given as goal

abbrev pub decreases-drive_all : goal.decreases-drive_all
decreases-drive_all g l = length l.seats.now.items
