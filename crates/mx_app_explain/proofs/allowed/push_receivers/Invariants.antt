use Rattle.std.proofs.Common.{◌≡◌, ◌++◌, drop}
use Rattle.mx_app_explain.specs.ServiceWords.{receiver_words}
use Rattle.mx_app_explain.proofs.allowed.push_receivers.Given as goal

-- with those that are left, all are there
abbrev pub invariant-loop-slot : goal.invariant-loop-slot
invariant-loop-slot l = l.out.items ++ receiver_words l.sends l.slot (drop l.slot l.lines) ≡ l.fn.out.items ++ receiver_words l.sends 0 l.lines
