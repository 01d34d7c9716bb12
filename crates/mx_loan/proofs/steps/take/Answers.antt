use Rattle.std.proofs.Common.{sym, subst, arith}
use Rattle.mx_loan.proofs.Moves.{allows_at}
use Rattle.mx_loan.proofs.SixSteps.{takes}
use Rattle.mx_loan.specs.Rule.{JoinedFacts, view_after_take}
use Rattle.mx_loan.proofs.Changes.{StepFacts}
use Rattle.mx_loan.specs.declared.knowledge.Announcement.{Announcement}
use Rattle.mx_loan.proofs.steps.take.Goals as goal

pub compare_exchange_with-requires : goal.compare_exchange_with-requires
compare_exchange_with-requires c =
    let v = c.args.both.now.me.0 in
    let x = c.args.said.now in
    let y = c.of-told.result in
    let r = c.requires in
    (r.table, omega arith, allows_at view_after_take _ _ v _ 1 2 y _ r.own_record r.joined (subst (λ (z : Announcement). JoinedFacts v → StepFacts v z (view_after_take v z) 1 2) (sym c.of-told.ensures) (takes v x r.joined r.own_record r.last.0 r.last.1 r.lent r.offered)))
