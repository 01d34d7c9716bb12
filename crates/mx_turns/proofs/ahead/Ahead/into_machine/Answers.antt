use Rattle.std.proofs.Common.{◌≡◌, ◌∙◌, ◌+◌, ◌-◌, ap, arith, length, subst}
use Rattle.mx_turns.specs.Ahead.{IsAfter, LastIs, boot_of, untried}
use Rattle.mx_turns.specs.Swept.{run_in}
use Rattle.mx_turns.proofs.AheadLemmas.{last_popped}
use Rattle.mx_turns.proofs.ahead.Ahead.into_machine.Goals as goal

-- no position is left, so the last pair made the last run
pub returns : goal.returns
returns c s ahead at some =
    let a = c.args.self in
    let all : a.position + length a.told.items ≡ s.range.end = omega (arith, ahead.within, at) in
    let is = IsAfter s (boot_of a) (untried a) in
    last_popped is c.pop.new.self.items c.in-Some.last (subst (LastIs is) c.in-Some.ensures.items (ahead.last (omega (arith, some, all))))
    ∙ ap (λ k. (run_in s (boot_of a) s.fault.now (k - 1)).kernel) all
