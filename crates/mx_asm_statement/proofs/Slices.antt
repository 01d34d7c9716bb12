-- What is after the first tokens.
use Rattle.std.proofs.Common.{◌≡◌, ℕ, suc, Bool, true, false, cond, List, [], ◌∷◌, All, sym, subst, arith}
use Rattle.mx_lex.specs.declared.kinds.Token.{Token}
use Rattle.mx_lex.specs.Tokens.{IsSlice}
use Rattle.mx_asm_statement.specs.Opening.{is_label, after_label, after_first}

after_label_all : (t : List ℕ) (ks : List Token) → All (IsSlice t) ks → All (IsSlice t) (after_label t ks)
after_label_all t [] all = all
after_label_all t (k ∷ []) all = all
after_label_all t (k ∷ c ∷ ks) all = both (is_label t k c)
  where
    both : (b : Bool) → All (IsSlice t) (cond b ks (k ∷ c ∷ ks))
    both true = λ i d lt. all (suc (suc i)) d (omega (arith, lt))
    both false = all

pub slices_after_label : (t : List ℕ) (ks xs : List Token) → xs ≡ after_label t ks → All (IsSlice t) ks → All (IsSlice t) xs
slices_after_label t ks xs e all = subst (λ ys. All (IsSlice t) ys) (sym e) (after_label_all t ks all)

after_first_all : (t : List ℕ) (ks : List Token) → All (IsSlice t) ks → All (IsSlice t) (after_first ks)
after_first_all t [] all = all
after_first_all t (k ∷ ks) all = λ i d lt. all (suc i) d (omega (arith, lt))

pub slices_after_first : (t : List ℕ) (ks xs : List Token) → xs ≡ after_first ks → All (IsSlice t) ks → All (IsSlice t) xs
slices_after_first t ks xs e all = subst (λ ys. All (IsSlice t) ys) (sym e) (after_first_all t ks all)
