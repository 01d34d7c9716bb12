use Rattle.std.proofs.Common.{inl, inr}
use Rattle.mx_debug.proofs.Halting.{not_any}
use Rattle.mx_debug.proofs.points.Debugger.resume.Goals as goal
use Rattle.mx_debug.proofs.points.Debugger.resume.Goals.{then-k-eq0, else-k-eq0}

pub returns-then-not-has_any-clause-halts : goal.returns-then-not-has_any-clause-halts
returns-then-not-has_any-clause-halts g c =
    c.run_on.ensures.halts c.args.self.now c.args.slot (elim c.if-k-eq0.branch [ then-k-eq0 w ↦ inl w.if-k-eq0.true | else-k-eq0 w ↦ inr (not_any _ _ _ w.has_any.ensures w.value-is c.if-not-has_any.true) ])
