use Rattle.std.proofs.Common.{◌++◌, [], ◌∷◌, Bool, Option, false, refl, subst, sym}
use Rattle.mx_machine.specs.declared.events.Event.{Event}
use Rattle.mx_machine.specs.Machine.{world_of}
use Rattle.mx_turns.specs.Made.{HasOffered}
use Rattle.mx_turns.specs.Turns.{offered, outside, respawns}
use Rattle.mx_turns.proofs.MadeLemmas.{more_done}
use Rattle.mx_turns.proofs.offers.offer_others.Goals as goal

pub returns-clause-offered : goal.returns-clause-offered
returns-clause-offered c =
    let m = c.args.machine.now in
    let n = c.offer.new.machine in
    let p = c.offer_respawns-2.new.machine in
    let r = c.offer_respawns-2.result in
    let other = c.args.other in
    let rest = respawns other c.args.slots in
    let event = c.in-Some.event in
    let made : HasOffered m (offered (world_of m) ((other, event) ∷ [])) false n =
    subst (λ (b : Bool). HasOffered m (offered (world_of m) ((other, event) ∷ [])) b n) c.if-offer.false c.offer.ensures.offered in
    subst (λ (x : Option Event). HasOffered m (offered (world_of m) (outside other x ++ rest)) r p) (sym c.in-Some.is)
    (more_done m n p ((other, event) ∷ []) rest ((other, event) ∷ rest) r refl made c.offer_respawns-2.ensures.offered)
