use Rattle.std.proofs.Common.{◌≡◌, ℕ, true, ◌<◌, length, Some, None, sym, subst}
use Rattle.std.proofs.Common.{Option, IfSome}
use Rattle.mx_proc.specs.TableState.{TableState, process_at}
use Rattle.mx_proc.specs.States.{is_sending}
use Rattle.mx_proc.specs.declared.process.Partner.{Partner}
use Rattle.mx_proc.specs.Waits.{caller_of}
use Rattle.mx_proc.specs.Sound.{Sound, HasBuffer}
use Rattle.mx_proc.proofs.WaitLemmas.{sends-pair, pair_caller}
use Rattle.mx_proc.proofs.SoundLemmas.{sender_known, sending_blocked}
use Rattle.mx_proc.proofs.table.Table.caller.Goals as goal

known : (w : TableState) (s : ℕ) (partner : Partner) (o : Option ℕ) → Sound w → o ≡ caller_of s partner w.waits → IfSome o (λ p. (p < length w.slots) × (is_sending (process_at w p).state ≡ true) × HasBuffer (process_at w p))
known w s partner None h e = _
known w s partner (Some p) h e =
    let k = sender_known w p h (sends-pair w.waits p s (pair_caller w.waits s p partner (sym e))) in
    (k.0, k.1, (h.each p).process.buffer (sending_blocked (process_at w p).state k.1))

all_known : (c : goal.After-caller) → IfSome c.caller.result (λ p. (p < length c.args.self.now.slots) × (is_sending (process_at c.args.self.now p).state ≡ true) × HasBuffer (process_at c.args.self.now p))
all_known c = subst (λ (w : TableState). IfSome c.caller.result (λ p. (p < length w.slots) × (is_sending (process_at w p).state ≡ true) × HasBuffer (process_at w p))) c.self.view_is
    (known _ c.args.to c.args.partner c.caller.result c.self.invariant c.caller.ensures)

part : (o : Option ℕ) (A B D : ℕ → Type 0) → IfSome o (λ p. A p × B p × D p) → IfSome o A × IfSome o B × IfSome o D
part None A B D h = (_, _, _)
part (Some p) A B D h = h

pub returns-clause-used : goal.returns-clause-used
returns-clause-used c = (part c.caller.result _ _ _ (all_known c)).0

pub returns-clause-sending : goal.returns-clause-sending
returns-clause-sending c = (part c.caller.result _ _ _ (all_known c)).1

pub returns-clause-buffer : goal.returns-clause-buffer
returns-clause-buffer c = (part c.caller.result _ _ _ (all_known c)).2
