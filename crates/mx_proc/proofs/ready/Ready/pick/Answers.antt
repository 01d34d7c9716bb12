use Rattle.std.proofs.Common.{◌<◌, ap, sym, subst, ◌∙◌, arith, w16}
use Rattle.std.proofs.lemmas.Nat.Bits.{bit_at-trailing_zeros}
use Rattle.mx_proc.specs.Queues.{first_ready, AreFilled}
use Rattle.mx_proc.proofs.ReadyLemmas.{nobody_picked, lowest_picked}
use Rattle.mx_proc.proofs.ready.Ready.pick.Goals as goal

pub returns-then-filled-eq0 : goal.returns-then-filled-eq0
returns-then-filled-eq0 c = sym (nobody_picked c.self.inside.lists (subst (λ f. AreFilled f c.self.inside.lists) c.if-filled-eq0.true c.self.invariant)) ∙ ap first_ready c.self.view_is

pub returns : goal.returns
returns c =
    let fits : c.self.inside.filled < 65536 = omega arith in
    let some : 0 < c.self.inside.filled = omega (arith, c.if-filled-eq0.false) in
    let low = bit_at-trailing_zeros w16 c.self.inside.filled some fits in
    c.first.ensures ∙ sym (lowest_picked c.self.inside.filled _ c.self.inside.lists c.self.invariant low.0 low.1 low.2) ∙ ap first_ready c.self.view_is
