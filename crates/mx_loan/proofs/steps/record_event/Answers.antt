use Rattle.std.proofs.Common.{◌+◌, sym, subst, refl, arith}
use Rattle.mx_loan.proofs.Moves.{allows_at}
use Rattle.mx_loan.proofs.SixSteps.{records}
use Rattle.mx_loan.specs.Rule.{JoinedFacts, view_after_record}
use Rattle.mx_loan.proofs.Changes.{StepFacts}
use Rattle.mx_loan.specs.declared.knowledge.Announcement.{Announcement}
use Rattle.mx_loan.proofs.steps.record_event.Goals as goal

pub compare_exchange_with-requires : goal.compare_exchange_with-requires
compare_exchange_with-requires c =
    let v = c.args.both.now.me.0 in
    let x = c.args.said.now in
    let y = c.of-told.result in
    let r = c.requires in
    (r.table, omega arith, allows_at view_after_record _ _ v _ c.args.at (c.args.at + 4) y _ r.own_record r.joined (subst (λ (z : Announcement). JoinedFacts v → StepFacts v z (view_after_record v z) c.args.at (c.args.at + 4)) (sym c.of-told.ensures) (records v x r.joined r.own_record c.args.at (c.args.at + 4) r.at.0 refl r.rest)))
