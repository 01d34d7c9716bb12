use Rattle.std.proofs.Common.{◌+◌, ◌∙◌, ap, arith}
use Rattle.mx_proc.specs.Frame.{Frame, frame}
use Rattle.mx_proc.specs.TableState.{TableState}
use Rattle.mx_proc.proofs.ServingLemmas.{clocked, reclocked}
use Rattle.mx_proc.proofs.table.Table.advance.Goals as goal

pub invariant_of-self : goal.invariant_of-self
invariant_of-self c = reclocked _ _ (omega arith) c.self.invariant

pub returns-clause-frame : goal.returns-clause-frame
returns-clause-frame c = clocked _ _ _ c.self.view_is ∙ ap (λ (w : TableState). let f : Frame = record (frame c.args.self.now) { uptime = w.uptime + 1 } in f) c.self.view_is
