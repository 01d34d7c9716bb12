use Rattle.std.proofs.Common.{◌∙◌, arith, refl, sym}
use Rattle.mx_explore.proofs.CountLemmas.{one_counted, other_part, shows_none, shows_one}
use Rattle.mx_explore.proofs.exploring.Explorer.count.Goals as goal

pub returns-then-not-is_in_part-clause-counted : goal.returns-then-not-is_in_part-clause-counted
returns-then-not-is_in_part-clause-counted g c = other_part c.args.self.now c.args.self.now refl (sym c.is_in_part.ensures ∙ c.if-not-is_in_part.true)

pub returns-then-not-is_in_part-clause-shown : goal.returns-then-not-is_in_part-clause-shown
returns-then-not-is_in_part-clause-shown g c = shows_none _ _ _ _ refl refl

pub returns-in_err-outcome-clause-shown : goal.returns-in_err-outcome-clause-shown
returns-in_err-outcome-clause-shown g c = shows_none _ _ _ _ refl refl

pub returns-in_err-count-clause-shown : goal.returns-in_err-count-clause-shown
returns-in_err-count-clause-shown g c = shows_none _ _ _ _ refl c.in_err-count.ensures.none

pub returns-clause-counted : goal.returns-clause-counted
returns-clause-counted g c =
    one_counted c.args.self.now (record c.args.self.now { tally = c.count.new.self }) c.args.ran.now c.in_ok-outcome.outcome c.as_slice.result.now c.requires c.as_slice.ensures.value c.in_ok-outcome.ensures.found c.in_ok-count.ensures.counted (sym c.is_in_part.ensures ∙ c.if-not-is_in_part.false)

pub returns-clause-shown : goal.returns-clause-shown
returns-clause-shown g c = shows_one _ _ _ _ _ c.show.ensures c.in_ok-count.ensures.more refl (omega (arith, c.max-all.ensures))
