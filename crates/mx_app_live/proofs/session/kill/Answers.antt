use Rattle.std.proofs.Common.{◌∙◌, ℕ, Option, false, subst, sym}
use Rattle.mx_machine.specs.Machine.{world_of}
use Rattle.mx_turns.specs.Made.{HasOffered}
use Rattle.mx_turns.proofs.MadeLemmas.{none_offered}
use Rattle.mx_app_live.specs.Session.{killed_at}
use Rattle.mx_app_live.proofs.session.kill.Goals as goal

pub returns-in-Some-clause-offered : goal.returns-in-Some-clause-offered
returns-in-Some-clause-offered c =
    let m = c.args.machine.now in
    subst (λ (e : Option ℕ). HasOffered m (killed_at (world_of m) e) c.offer.result c.offer.new.machine) (sym c.in-Some.is ∙ c.endpoint_at.ensures) c.offer.ensures.offered

pub returns-in-None-clause-offered : goal.returns-in-None-clause-offered
returns-in-None-clause-offered c =
    let m = c.args.machine.now in
    subst (λ (e : Option ℕ). HasOffered m (killed_at (world_of m) e) false m) (sym c.in-None.is ∙ c.endpoint_at.ensures) (none_offered m)
