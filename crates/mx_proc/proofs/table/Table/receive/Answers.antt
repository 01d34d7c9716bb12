use Rattle.std.proofs.Common.{ℕ, refl, ap}
use Rattle.mx_proc.specs.Frame.{fixed_of}
use Rattle.mx_proc.proofs.TableLemmas.{alike}
use Rattle.mx_proc.proofs.FrameLemmas.{framed}
use Rattle.mx_proc.proofs.table.Table.receive.Goals as goal

pub invariant_of-self : goal.invariant_of-self
invariant_of-self c = alike _ _ c.args.slot c.index_mut-process.result.now _ c.self.view_is c.self.invariant c.requires.slot c.index_mut-process.ensures.value (record {
  state = refl;
  level = refl;
  generation = refl;
  pending = refl;
  windows = refl;
  alarm = refl;
  buffer = refl;
  memory = c.put.ensures.limit;
})

pub returns-clause-frame : goal.returns-clause-frame
returns-clause-frame c = framed _ _ c.args.slot c.index_mut-process.result.now _ _ _ _ _ c.self.view_is c.index_mut-process.ensures.value (ap (λ (n : ℕ). record (fixed_of c.index_mut-process.result.now) { lasting = (c.index_mut-process.result.now.image.code, n) }) c.put.ensures.limit) refl
