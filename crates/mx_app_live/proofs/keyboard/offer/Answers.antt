use Rattle.std.proofs.Common.{◌∙◌, ℕ, Bool, [], ◌∷◌, ap, length, subst, sym}
use Rattle.mx_machine.specs.Machine.{world_of}
use Rattle.mx_machine.specs.World.{World}
use Rattle.mx_turns.specs.Made.{HasOffered}
use Rattle.mx_turns.specs.Turns.{offered}
use Rattle.mx_turns.proofs.MadeLemmas.{offer_done}
use Rattle.mx_turns.proofs.TurnLemmas.{cpus_stay, other_stays}
use Rattle.mx_app_live.proofs.keyboard.offer.Goals as goal

pub returns-clause-offered : goal.returns-clause-offered
returns-clause-offered c =
    let m = c.args.machine.now in
    let n = c.apply-answer.new.self in
    let made = offer_done m n c.cpus_of-actor.result c.args.event c.apply-answer.result c.apply-answer.ensures.moved c.apply-answer.ensures.recorded in
    subst (λ (a : ℕ). HasOffered m (offered (world_of m) ((a, c.args.event) ∷ [])) c.is_full.result n) c.cpus_of-actor.ensures
    (subst (λ (b : Bool). HasOffered m (offered (world_of m) ((c.cpus_of-actor.result, c.args.event) ∷ [])) b n) (sym c.is_full.ensures) made)

pub returns-clause-cpus : goal.returns-clause-cpus
returns-clause-cpus c =
    let m = c.args.machine.now in
    let n = c.apply-answer.new.self in
    let made = offer_done m n c.cpus_of-actor.result c.args.event c.apply-answer.result c.apply-answer.ensures.moved c.apply-answer.ensures.recorded in
    ap (λ (w : World). length w.cpus) made.made.world ∙ cpus_stay (world_of m) (offered (world_of m) ((c.cpus_of-actor.result, c.args.event) ∷ [])).made

pub returns-clause-other : goal.returns-clause-other
returns-clause-other c =
    let m = c.args.machine.now in
    let n = c.apply-answer.new.self in
    let made = offer_done m n c.cpus_of-actor.result c.args.event c.apply-answer.result c.apply-answer.ensures.moved c.apply-answer.ensures.recorded in
    other_stays m n (offered (world_of m) ((c.cpus_of-actor.result, c.args.event) ∷ [])).made made.made c.requires
