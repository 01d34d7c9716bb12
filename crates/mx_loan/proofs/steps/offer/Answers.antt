use Rattle.std.proofs.Common.{sym, subst, arith}
use Rattle.mx_loan.proofs.Moves.{allows_at}
use Rattle.mx_loan.proofs.SixSteps.{offers}
use Rattle.mx_loan.specs.Rule.{JoinedFacts, view_after_offer}
use Rattle.mx_loan.proofs.Changes.{StepFacts}
use Rattle.mx_loan.specs.declared.knowledge.Announcement.{Announcement}
use Rattle.mx_loan.proofs.steps.offer.Goals as goal

pub compare_exchange_with-requires : goal.compare_exchange_with-requires
compare_exchange_with-requires c =
    let v = c.args.both.now.me.0 in
    let x = c.args.said.now in
    let y = c.of-told.result in
    let r = c.requires in
    (r.table, omega arith, allows_at view_after_offer _ _ v _ 0 1 y _ r.own_record r.joined (subst (λ (z : Announcement). JoinedFacts v → StepFacts v z (view_after_offer v z) 0 1) (sym c.of-told.ensures) (offers v x r.joined r.own_record r.own_take r.lends.0 r.lends.1 r.room r.home)))
