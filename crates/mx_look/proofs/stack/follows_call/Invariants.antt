use Rattle.std.proofs.Common.{◌≡◌, false}
use Rattle.mx_look.specs.Stack.{shorter_call_ends}
use Rattle.mx_look.proofs.stack.follows_call.Given as goal

-- no call of the sizes so far ends there
abbrev pub invariant-loop-size : goal.invariant-loop-size
invariant-loop-size l = shorter_call_ends l.image l.at l.size ≡ false
