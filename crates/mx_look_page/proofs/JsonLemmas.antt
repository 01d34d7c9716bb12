-- A text that is printed is read as it was.
use Rattle.std.proofs.Common.{◌≡◌, ◌∙◌, ◌++◌, suc, get_or, ◌<◌, ◌≤◌, ◌≢◌, ◌||◌, ℕ, Bool, true, false, cond, List, [], ◌∷◌, inl, inr, refl, sym, ap, subst}
use Rattle.std.specs.Prelude.{codes, nat_lt}
use Rattle.std.specs.List.{flat_map}
use Rattle.std.proofs.lemmas.Bool.{cases_eq, cases_lt, ne_eqb, lt-ltb}
use Rattle.mx_print_report.specs.Numbers.{two_digits}
use Rattle.mx_look_page.specs.Json.{Reads, at_end, as_it_is, quote, backslash, line_feed, by_number, escaped, is_coded}

or_left : (p q : Bool) → p ≡ true → (p || q) ≡ true
or_left p q e = ap (λ b. b || q) e

-- a byte that isn't coded is no control
plain : (b : ℕ) → is_coded b ≡ false → 32 ≤ b
plain b e = elim (cases_lt b 32) [
  | inl less ↦ absurd (let t : is_coded b ≡ true = or_left (nat_lt b 32) _ (lt-ltb b 32 less) in let f : true ≡ false = sym t ∙ e in cc)
  | inr more ↦ more
]

module _ (b : ℕ) (t bytes : List ℕ) (small : b < 256) (h : Reads t bytes) where
  other : (c : Bool) → is_coded b ≡ c → b ≢ 34 → b ≢ 92 → Reads (cond c (codes "\\u00" ++ two_digits b) (b ∷ []) ++ t) (b ∷ bytes)
  other true e n m = by_number b t bytes small h
  other false e n m = as_it_is b t bytes (plain b e) n m h

  one : Reads (escaped b ++ t) (b ∷ bytes)
  unfolding escaped
  one = elim (cases_eq b 34) [
    | inl e ↦ subst (λ x. Reads (escaped x ++ t) (x ∷ bytes)) (sym e) (quote t bytes h)
    | inr n ↦ elim (cases_eq b 92) [
      | inl e ↦ subst (λ x. Reads (escaped x ++ t) (x ∷ bytes)) (sym e) (backslash t bytes h)
      | inr m ↦ elim (cases_eq b 10) [
        | inl e ↦ subst (λ x. Reads (escaped x ++ t) (x ∷ bytes)) (sym e) (line_feed t bytes h)
        | inr k ↦ rw (ne_eqb b 34 n, ne_eqb b 92 m, ne_eqb b 10 k) (other (is_coded b) refl n m)
      ]
    ]
  ]

pub read_again : (bytes : List ℕ) → ((i : ℕ) → get_or bytes i 0 < 256) → Reads (flat_map escaped bytes) bytes
read_again [] small = at_end
read_again (b ∷ bytes) small = one b (flat_map escaped bytes) bytes (small 0) (read_again bytes (λ i. small (suc i)))
