-- The text of a ring, one slot more.
use Rattle.std.proofs.Common.{◌≡◌, ◌∙◌, ◌<◌, ◌≤◌, ◌+◌, ℕ, Bool, true, false, cond, codes, List, [], ◌∷◌, ◌++◌, append_assoc, length, get_or, drop, ap, sym}
use Rattle.std.specs.Prelude.{◌==◌}
use Rattle.std.proofs.lemmas.List.{append-nil, at_drop_more, at_drop_all}
use Rattle.mx_why.specs.declared.seats.End.{End}
use Rattle.mx_why.specs.Lines.{ring_rest}
use Rattle.mx_why.specs.Reasons.{waiting_text}

text_from : (e : End) (s : ℕ) (chain : List ℕ) (i x : ℕ) (same : Bool) → x ≡ get_or chain i x → i < length chain → (x == s) ≡ same
    → ring_rest e s (drop i chain) ≡ cond same [] (codes ", " ++ waiting_text e x ++ ring_rest e s (drop (i + 1) chain))
text_from e s chain i x same here within e' =
    at_drop_more (λ (v : List ℕ). ring_rest e s v) chain i x within
    ∙ ap (λ (y : ℕ). ring_rest e s (y ∷ drop (i + 1) chain)) (sym here)
    ∙ ap (λ b. cond b [] (codes ", " ++ waiting_text e x ++ ring_rest e s (drop (i + 1) chain))) e'

-- it ends at the slot
pub text_ends : (e : End) (s : ℕ) (chain out total : List ℕ) (i x : ℕ) → out ++ ring_rest e s (drop i chain) ≡ total → x ≡ get_or chain i x → i < length chain → (x == s) ≡ true
    → out ≡ total
text_ends e s chain out total i x so_far here within same =
    sym (append-nil out) ∙ sym (ap (λ (t : List ℕ). out ++ t) (text_from e s chain i x true here within same)) ∙ so_far

-- it goes on
pub text_more : (e : End) (s : ℕ) (chain out mid new total : List ℕ) (i x : ℕ) → out ++ ring_rest e s (drop i chain) ≡ total → x ≡ get_or chain i x → i < length chain
    → (x == s) ≡ false → mid ≡ out ++ codes ", " → new ≡ mid ++ waiting_text e x → new ++ ring_rest e s (drop (i + 1) chain) ≡ total
text_more e s chain out mid new total i x so_far here within other comma who =
    let rest = ring_rest e s (drop (i + 1) chain) in
    ap (λ (t : List ℕ). t ++ rest) (who ∙ ap (λ (t : List ℕ). t ++ waiting_text e x) comma)
    ∙ append_assoc (out ++ codes ", ") (waiting_text e x) rest
    ∙ append_assoc out (codes ", ") (waiting_text e x ++ rest)
    ∙ sym (ap (λ (t : List ℕ). out ++ t) (text_from e s chain i x false here within other)) ∙ so_far

pub text_over : (e : End) (s : ℕ) (chain out total : List ℕ) (i : ℕ) → out ++ ring_rest e s (drop i chain) ≡ total → length chain ≤ i → out ≡ total
text_over e s chain out total i so_far over =
    sym (append-nil out) ∙ sym (ap (λ (t : List ℕ). out ++ t) (at_drop_all (λ (v : List ℕ). ring_rest e s v) chain i over)) ∙ so_far
