-- What the record before did.
use Rattle.std.proofs.Common.{◌≡◌, ◌∙◌, ◌-◌, ℕ, suc, List, Option, Some, slice_get, ap, arith}
use Rattle.mx_machine.specs.declared.history.Record.{Record}
use Rattle.mx_look.specs.Trace.{record_text}
use Rattle.mx_walk.specs.Walks.{Walk}
use Rattle.mx_app_look.specs.Before.{record_before, step_before, why_by, why_text}

above_is : (records : List Record) (n m : ℕ) (x : Record) → n ≡ suc m → slice_get records m ≡ Some x → record_before records n ≡ Some x
above_is records n m x e h = ap (record_before records) e ∙ h

pub why_is : (k : Walk) (m : ℕ) (x : Record) → k.here.records ≡ suc m → slice_get k.records m ≡ Some x → why_text k ≡ record_text (step_before k.boot k.records m x)
why_is k m x e h =
    let less : k.here.records - 1 ≡ m = omega (arith, e) in
    ap (λ (o : Option Record). why_by k (k.here.records - 1) o) (above_is k.records k.here.records m x e h)
    ∙ ap (λ i. record_text (step_before k.boot k.records i x)) less
