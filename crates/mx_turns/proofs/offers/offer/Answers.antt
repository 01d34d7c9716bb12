use Rattle.std.proofs.Common.{[], ◌∷◌, Bool, subst, sym}
use Rattle.mx_machine.specs.Machine.{world_of}
use Rattle.mx_turns.specs.Made.{HasOffered}
use Rattle.mx_turns.specs.Turns.{offered}
use Rattle.mx_turns.proofs.MadeLemmas.{offer_done}
use Rattle.mx_turns.proofs.offers.offer.Goals as goal

pub returns-clause-offered : goal.returns-clause-offered
returns-clause-offered c =
    let m = c.args.machine.now in
    let n = c.apply-answer.new.self in
    subst (λ (b : Bool). HasOffered m (offered (world_of m) ((c.args.actor, c.args.event) ∷ [])) b n) (sym c.is_full.ensures)
    (offer_done m n c.args.actor c.args.event c.apply-answer.result c.apply-answer.ensures.moved c.apply-answer.ensures.recorded)
