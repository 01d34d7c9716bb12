use Rattle.std.proofs.Common.{◌≡◌, ◌∙◌, refl, ap, sym, subst, length, false, ◌<◌}
use Rattle.mx_proc.specs.declared.process.Process.{Process}
use Rattle.mx_proc.specs.States.{IsAlone, is_ready}
use Rattle.mx_proc.specs.Sound.{IsProcess}
use Rattle.mx_proc.specs.Frame.{frame, frame_with_process}
use Rattle.mx_proc.specs.TableState.{TableState, process_at, process_after}
use Rattle.mx_proc.proofs.TableLemmas.{down_alone, the_process}
use Rattle.mx_proc.proofs.SoundLemmas.{alone_listed, begun, placed}
use Rattle.mx_proc.proofs.ListLemmas.{times-push}
use Rattle.mx_proc.proofs.FrameLemmas.{put_new}
use Rattle.mx_proc.proofs.table.Table.revive.Goals as goal

pub push_back-requires-clause-absent : goal.push_back-requires-clause-absent
push_back-requires-clause-absent c = alone_listed _ c.args.slot c.self.invariant (subst (λ (x : TableState). is_ready (process_at x c.args.slot).state ≡ false) (sym c.self.view_is) (down_alone _ c.requires.down).0)

-- the process is that after the dead one of the slot
the_next : (c : goal.After-push_back) → c.after-process.result ≡ process_after (process_at c.args.self.now c.args.slot) c.args.image c.args.terms
the_next c = c.after-process.ensures ∙ ap (λ (p : Process). process_after p c.args.image c.args.terms) (the_process _ _ c.args.slot c.index-dead.result.now c.self.view_is c.requires.slot c.index-dead.ensures)

pub invariant_of-self : goal.invariant_of-self
invariant_of-self c =
    placed _ _ c.args.slot c.args.terms.level _ c.after-process.result c.self.invariant (subst (λ (x : TableState). c.args.slot < length x.slots) (sym c.self.view_is) c.requires.slot)
    (subst (λ (x : TableState). IsAlone (process_at x c.args.slot).state) (sym c.self.view_is) (down_alone _ c.requires.down)) c.args.terms.lowest
    (ap (λ (p : Process). p.schedule.level) c.after-process.ensures) (ap (λ (p : Process). p.state) c.after-process.ensures)
    (subst (IsProcess c.self.inside.uptime) (sym (the_next c)) (begun c.self.inside.uptime _ _ c.args.image c.args.terms c.requires.generation))
    refl c.push_back.ensures refl refl refl (λ t. times-push t c.args.slot _)

pub returns-clause-frame : goal.returns-clause-frame
returns-clause-frame c = put_new _ _ c.args.slot c.after-process.result _ c.self.view_is ∙ ap (frame_with_process (frame c.args.self.now) c.args.slot) (the_next c)
