use Rattle.std.proofs.Common.{◌≡◌, ◌<◌, ℕ, true, length, sym, subst, Option, Some, None, IfSome}
use Rattle.mx_proc.specs.Queues.{first_ready}
use Rattle.mx_proc.specs.States.{is_ready}
use Rattle.mx_proc.specs.Sound.{Sound}
use Rattle.mx_proc.specs.TableState.{TableState, process_at}
use Rattle.mx_proc.proofs.SoundLemmas.{picked_ready}
use Rattle.mx_proc.proofs.table.Table.pick.Goals as goal

known : (w : TableState) (o : Option ℕ) → Sound w → o ≡ first_ready w.ready → IfSome o (λ s. (s < length w.slots)) × IfSome o (λ s. is_ready (process_at w s).state ≡ true)
known w None h e = (_, _)
known w (Some s) h e = picked_ready w s h (sym e)

all_known : (c : goal.After-pick) → IfSome c.pick.result (λ s. (s < length c.args.self.now.slots)) × IfSome c.pick.result (λ s. is_ready (process_at c.args.self.now s).state ≡ true)
all_known c = subst (λ (w : TableState). IfSome c.pick.result (λ s. (s < length w.slots)) × IfSome c.pick.result (λ s. is_ready (process_at w s).state ≡ true)) c.self.view_is (known _ c.pick.result c.self.invariant c.pick.ensures)

pub returns-clause-used : goal.returns-clause-used
returns-clause-used c = (all_known c).0

pub returns-clause-ready : goal.returns-clause-ready
returns-clause-ready c = (all_known c).1
