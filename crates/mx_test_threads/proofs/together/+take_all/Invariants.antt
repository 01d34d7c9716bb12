use Rattle.std.proofs.Common.{length}
use Rattle.mx_test_threads.proofs.together.+take_all.Given as goal

abbrev pub decreases-take_all : goal.decreases-take_all
decreases-take_all g l = length l.seats.now.items
