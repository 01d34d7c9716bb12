use Rattle.std.proofs.Common.{[], ◌∷◌, false, subst, sym}
use Rattle.mx_machine.specs.declared.events.Event.TheVariants.{Respawn}
use Rattle.mx_machine.specs.Machine.{world_of}
use Rattle.mx_turns.specs.Made.{HasOffered}
use Rattle.mx_turns.specs.Turns.{offered}
use Rattle.mx_explore.specs.Passages.{standing}
use Rattle.mx_explore.specs.Passing.{NewIn}
use Rattle.mx_explore.proofs.PassageLemmas.{respawns_at, stays_at}
use Rattle.mx_explore.proofs.RunLemmas.{cpus_kept}
use Rattle.mx_explore.proofs.passing.pass_respawn.Goals as goal

pub returns-then-to_make-clause-passed : goal.returns-then-to_make-clause-passed
returns-then-to_make-clause-passed c coming =
    sym (respawns_at c.args.machine.now coming c.args.start (standing c.args.schedule.now) (standing c.is_made.new.schedule) c.args.slot c.open_respawn-opened.result c.in_ok-to_make.to_make c.offer.result c.offer.new.machine
    c.open_respawn-opened.ensures c.in_ok-to_make.ensures c.if-to_make.true
    (subst (λ k. HasOffered c.args.machine.now (offered (world_of c.args.machine.now) ((c.args.start.other, Respawn k) ∷ [])) c.offer.result c.offer.new.machine) c.from.ensures c.offer.ensures.offered))

pub returns-else-to_make-clause-passed : goal.returns-else-to_make-clause-passed
returns-else-to_make-clause-passed c coming =
    sym (stays_at c.args.machine.now coming c.args.start (standing c.args.schedule.now) (standing c.is_made.new.schedule) false (NewIn c.args.slot) c.open_respawn-opened.result c.in_ok-to_make.to_make
    c.open_respawn-opened.ensures c.in_ok-to_make.ensures c.if-to_make.false)

pub returns-then-to_make-clause-cpus : goal.returns-then-to_make-clause-cpus
returns-then-to_make-clause-cpus c = cpus_kept c.args.machine.now c.offer.new.machine _ _ c.offer.ensures.offered
