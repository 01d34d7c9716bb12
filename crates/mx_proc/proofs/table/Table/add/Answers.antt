use Rattle.std.proofs.Common.{◌∙◌, ◌<◌, [], ◌∷◌, ◌++◌, length, slice_set, refl, ap, sym, subst}
use Rattle.std.proofs.Common.{lit<}
use Rattle.mx_proc.specs.declared.process.Process.{Process}
use Rattle.mx_proc.specs.TableState.{TableState}
use Rattle.mx_proc.specs.Queues.{list_at, InNoList}
use Rattle.mx_proc.proofs.SoundLemmas.{begun, grown, nobody_listed}
use Rattle.mx_proc.proofs.table.Table.add.Goals as goal

pub push_back-requires-clause-absent : goal.push_back-requires-clause-absent
push_back-requires-clause-absent c = subst (InNoList c.self.inside.ready) (sym (ap length c.as_slice.ensures.value)) (nobody_listed _ c.self.invariant)

pub invariant_of-self : goal.invariant_of-self
invariant_of-self c = grown _ _ c.args.terms.level _ c.self.invariant (subst (λ (w : TableState). length w.slots < 32) (sym c.self.view_is) c.requires.room) c.args.terms.lowest refl refl
    (begun c.self.inside.uptime 0 0 c.replace.result c.args.terms (lit< tt))
    (c.in-Ok.ensures.items ∙ ap (λ (p : Process). c.self.inside.slots.items ++ p ∷ []) c.new-process.ensures)
    (c.push_back.ensures ∙ ap (λ s. slice_set c.self.inside.ready c.args.terms.level (list_at c.self.inside.ready c.args.terms.level ++ s ∷ [])) (ap length c.as_slice.ensures.value)) refl refl refl

pub returns-in-Ok-clause-ok : goal.returns-in-Ok-clause-ok
returns-in-Ok-clause-ok c = (rw (← c.self.view_is, c.in-Ok.ensures.items, c.new-process.ensures, c.push_back.ensures, c.replace.ensures.value, c.as_slice.ensures.value) refl, c.replace.ensures.after ∙ c.blank.ensures)
