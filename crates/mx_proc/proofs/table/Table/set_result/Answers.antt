use Rattle.std.proofs.Common.{refl, ap}
use Rattle.mx_regs.specs.RegisterValues.{RegisterValues}
use Rattle.mx_proc.proofs.TableLemmas.{alike, kept_at}
use Rattle.mx_proc.proofs.FrameLemmas.{framed}
use Rattle.mx_proc.proofs.table.Table.set_result.Goals as goal

pub invariant_of-self : goal.invariant_of-self
invariant_of-self c = alike _ _ c.args.slot c.index_mut-process.result.now _ c.self.view_is c.self.invariant c.requires.slot c.index_mut-process.ensures.value (record {
  state = refl;
  level = refl;
  generation = refl;
  pending = refl;
  windows = refl;
  alarm = refl;
  buffer = ap (λ (r : RegisterValues). r.ebx) c.set.ensures;
  memory = refl;
})

pub returns-clause-frame : goal.returns-clause-frame
returns-clause-frame c = framed _ _ c.args.slot c.index_mut-process.result.now _ _ _ _ _ c.self.view_is c.index_mut-process.ensures.value refl refl

pub returns-clause-states : goal.returns-clause-states
returns-clause-states c = kept_at _ _ c.args.slot c.index_mut-process.result.now _ c.self.view_is c.requires.slot c.index_mut-process.ensures.value refl
