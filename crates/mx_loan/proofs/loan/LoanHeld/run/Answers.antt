use Rattle.std.proofs.Common.{ap, sym}
use Rattle.mx_machine.proofs.LentLemmas.{run_more}
use Rattle.mx_loan.proofs.loan.LoanHeld.run.Goals as goal

pub invariant_of-self : goal.invariant_of-self
invariant_of-self c = (
  run_more c.self.inside.lent.value c.self.inside.out c.run.new.self c.args.k c.self.invariant.0 (ap (λ x. x.1) (sym c.run.ensures.ran)),
  c.self.invariant.1,
)
