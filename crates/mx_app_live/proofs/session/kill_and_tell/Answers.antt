use Rattle.std.proofs.Common.{◌∙◌, ◌++◌, ◌∷◌, [], ℕ, ap}
use Rattle.mx_machine.specs.Machine.{world_of}
use Rattle.mx_machine.specs.World.{World}
use Rattle.mx_app_live.specs.declared.outside.Note.{Note}
use Rattle.mx_app_live.specs.Session.{kill_note}
use Rattle.mx_app_live.proofs.session.kill_and_tell.Goals as goal

pub returns-clause-told : goal.returns-clause-told
returns-clause-told g c =
    let slot = c.args.slot in
    let had = (world_of c.args.machine.now).records in
    let after = c.records_of-records.ensures ∙ ap (λ (w : World). w.records) c.kill-is_full.ensures.offered.made.world in
    c.tell.ensures.told
    ∙ ap (λ (x : Note). g.O.Outside.told c.args.outside.now ++ x ∷ [])
    (c.kill_note.ensures ∙ ap (λ (n : ℕ). kill_note slot n c.records_of-records.result) c.records_of-before.ensures ∙ ap (λ (n : ℕ). kill_note slot had n) after)
