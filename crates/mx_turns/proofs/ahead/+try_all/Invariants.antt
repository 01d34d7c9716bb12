use Rattle.std.proofs.Common.{◌+◌, ◌*◌, length}
use Rattle.mx_turns.proofs.ahead.+try_all.Given as goal

abbrev pub decreases-try_all : goal.decreases-try_all
decreases-try_all g l = 2 * length l.pairs.items

abbrev pub decreases-front : goal.decreases-front
decreases-front g l = 2 * length l.lower.items + 1

abbrev pub decreases-back : goal.decreases-back
decreases-back g l = 2 * length l.upper.items + 1
