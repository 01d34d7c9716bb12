use Rattle.std.proofs.Common.{◌∙◌, sym, subst, arith}
use Rattle.mx_proc.specs.TableState.{TableState}
use Rattle.mx_proc.specs.Waits.{Reaches}
use Rattle.mx_proc.proofs.WaitLemmas.{reaches_walk, walk_reaches}
use Rattle.mx_proc.proofs.SoundLemmas.{sends_once}
use Rattle.mx_proc.proofs.table.Table.reaches.Goals as goal

pub returns-clause-law : goal.returns-clause-law
returns-clause-law c = (
  λ t. subst (λ (w : TableState). Reaches w.waits c.args.from c.args.to) c.self.view_is (reaches_walk _ c.self.inside.waits c.args.from c.args.to (sym c.reaches.ensures ∙ t)),
  λ r. c.reaches.ensures ∙ walk_reaches _ c.self.inside.waits (sends_once _ c.self.invariant) c.self.invariant.acyclic (omega arith) c.args.from c.args.to (subst (λ (w : TableState). Reaches w.waits c.args.from c.args.to) (sym c.self.view_is) r),
)
