use Rattle.std.proofs.Common.{◌≡◌, ◌∙◌, ◌++◌, append_assoc, ℕ, List, Result, Ok, Err, OnOk, ap, subst}
use Rattle.std.specs.Fmt.{decimal}
use Rattle.std.specs.Prelude.{codes, if◌then◌else◌, is_ok}
use Rattle.mx_app_look.proofs.going_until.push_is_decimal.Goals as goal

-- the text, if it was put there
extended : {E : Type 0} (r : Result (Unit {0}) E) (new longer old : List ℕ) → new ≡ (if is_ok r then longer else old) → OnOk r (new ≡ longer)
extended (Ok done) new longer old is = is
extended (Err e) new longer old is = tt

pub returns : goal.returns
returns c =
    let out = c.args.out.now.items in
    let number = decimal c.args.kind in
    let front = codes "type " in
    let end = codes " is decimal: " in
    let before = c.push_decimal.new.out.items in
    subst (λ (t : List ℕ). OnOk c.extend_from_slice-2.result (c.extend_from_slice-2.new.self.items ≡ t))
    (ap (λ (t : List ℕ). t ++ end) (c.in_ok-push_decimal.ensures ∙ ap (λ (t : List ℕ). t ++ number) c.in_ok-extend_from_slice.ensures.items)
    ∙ append_assoc (out ++ front) number end ∙ append_assoc out front (number ++ end))
    (extended c.extend_from_slice-2.result c.extend_from_slice-2.new.self.items (before ++ end) before c.extend_from_slice-2.ensures.items)
