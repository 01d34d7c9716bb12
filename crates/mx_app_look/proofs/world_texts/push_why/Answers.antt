use Rattle.std.proofs.Common.{◌≡◌, ◌∙◌, ◌-◌, ◌++◌, ◌≤◌, ◌<◌, ℕ, suc, List, length, get_or, Some, OnOk, slice_get, ap, subst, sym, arith}
use Rattle.mx_machine.specs.declared.history.Record.{Record}
use Rattle.mx_look.specs.Trace.{record_text}
use Rattle.mx_app_look.specs.Before.{step_before, why_text}
use Rattle.mx_walk.specs.declared.progress.Part.{Part}
use Rattle.mx_walk.specs.Walks.{Walk}
use Rattle.mx_app_look.proofs.Moving.{read_is}
use Rattle.mx_app_look.proofs.WhyTexts.{why_is}
use Rattle.mx_app_look.proofs.ShownMore.{shown_is_read}
use Rattle.mx_app_look.proofs.world_texts.push_why.Goals as goal

-- what was read at this index of these records
text_is : (k : Walk) (records : List Record) (n : ℕ) (x : Record) → records ≡ k.records → (n ≡ 0 → ⊥) → n ≡ k.here.records → k.here.records ≤ length k.records
    → why_text k ≡ record_text (step_before k.boot k.records (n - 1) (get_or records (n - 1) x))
text_is k records n x same some here few =
    let one : k.here.records ≡ suc (n - 1) = omega (arith, some, here) in
    let lt : n - 1 < length k.records = omega (arith, few, one) in
    let read : slice_get k.records (n - 1) ≡ Some (get_or records (n - 1) x) = read_is k.records (n - 1) x lt ∙ ap (λ (rs : List Record). Some (get_or rs (n - 1) x)) (sym same) in
    why_is k (n - 1) (get_or records (n - 1) x) one read

pub returns-clause-text : goal.returns-clause-text
returns-clause-text g c =
    let k = c.args.walker in
    let n = c.here-here.result.records in
    let here : n ≡ k.here.records = ap (λ p. p.records) c.here-here.ensures.here in
    let few : n ≤ length k.records = c.here-here.ensures.position.earlier in
    subst (λ t. OnOk c.push_record_before.result (c.push_record_before.new.out.items ≡ c.args.out.now.items ++ t))
    (sym (text_is k c.records.result.now n _ c.records.ensures c.if-here-eq0.false here (omega (arith, here, few)))) c.push_record_before.ensures.text

pub push_record_before-requires-clause-there : goal.push_record_before-requires-clause-there
push_record_before-requires-clause-there g c =
    let n = c.here-here.result.records in
    let here : n ≡ c.args.walker.here.records = ap (λ p. p.records) c.here-here.ensures.here in
    let some = c.if-here-eq0.false in
    omega (arith, here, some)

pub returns-clause-shown : goal.returns-clause-shown
returns-clause-shown g c =
    let k = c.args.walker in
    let n = c.here-here.result.records in
    let here : n ≡ k.here.records = ap (λ p. p.records) c.here-here.ensures.here in
    let few : n ≤ length k.records = c.here-here.ensures.position.earlier in
    let before = g.P.Progress.shown c.args.progress.now in
    subst (λ (ps : List Part). OnOk c.push_record_before.result (g.P.Progress.shown c.push_record_before.new.progress ≡ before ++ ps))
    (sym (shown_is_read k c.records.result.now n _ c.records.ensures c.if-here-eq0.false here (omega (arith, here, few)))) c.push_record_before.ensures.shown
