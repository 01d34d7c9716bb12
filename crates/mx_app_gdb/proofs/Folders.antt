-- The folder of a name, a byte more.
use Rattle.std.proofs.Common.{◌≡◌, ◌≢◌, ◌∙◌, ◌+◌, ◌<◌, ◌≤◌, ◌++◌, ℕ, zero, suc, Bool, true, false, cond, List, [], ◌∷◌, get_or, length, take, refl, sym, ap, arith}
use Rattle.std.specs.Prelude.{◌==◌}
use Rattle.std.proofs.lemmas.Bool.{eq-eqb, ne_eqb}
use Rattle.std.proofs.lemmas.List.{take_more, take_all}
use Rattle.mx_app_gdb.specs.SymbolFiles.{folder_length}
use Rattle.mx_app_gdb.proofs.Lists.{passed, taken}

-- by how many bytes of the rest come up to its last stroke
by_rest : ℕ → ℕ → ℕ
by_rest x n = cond (n == 0) (cond (x == 47) 1 0) (n + 1)

-- a byte more after a list, by what a byte more after its rest makes of it
after_first : (x : ℕ) (xs : List ℕ) (b : ℕ) (c : Bool) → (b == 47) ≡ c → folder_length (xs ++ b ∷ []) ≡ cond (b == 47) (length xs + 1) (folder_length xs)
    → folder_length (x ∷ xs ++ b ∷ []) ≡ cond c (length (x ∷ xs) + 1) (folder_length (x ∷ xs))
unfolding by_rest
after_first x xs b true e more =
    let h : folder_length (xs ++ b ∷ []) ≡ length xs + 1 = more ∙ taken (b == 47) (length xs + 1) (folder_length xs) e in
    let some : ((length xs + 1) == 0) ≡ false = ne_eqb (length xs + 1) 0 (λ z. omega (arith, z)) in
    let next : length xs + 1 + 1 ≡ suc (length xs) + 1 = omega arith in
    ap (by_rest x) h ∙ passed ((length xs + 1) == 0) (cond (x == 47) 1 0) (length xs + 1 + 1) some ∙ next
after_first x xs b false e more = ap (by_rest x) (more ∙ passed (b == 47) (length xs + 1) (folder_length xs) e)

folder_more : (xs : List ℕ) (b : ℕ) → folder_length (xs ++ b ∷ []) ≡ cond (b == 47) (length xs + 1) (folder_length xs)
folder_more [] b = refl
folder_more (x ∷ xs) b = after_first x xs b (b == 47) refl (folder_more xs b)

length_taken : (xs : List ℕ) (i : ℕ) → i ≤ length xs → length (take i xs) ≡ i
length_taken xs zero h = refl
length_taken [] (suc i) h = absurd (omega (arith, h))
length_taken (x ∷ xs) (suc i) h = ap suc (length_taken xs i (omega (arith, h)))

module _ (file : List ℕ) (i : ℕ) (lt : i < length file) where
  one_taken : folder_length (take (i + 1) file) ≡ cond (get_or file i 0 == 47) (i + 1) (folder_length (take i file))
  one_taken =
      ap folder_length (take_more file i 0 lt) ∙ folder_more (take i file) (get_or file i 0)
      ∙ ap (λ n. cond (get_or file i 0 == 47) (n + 1) (folder_length (take i file))) (length_taken file i (omega (arith, lt)))

  pub stroke : get_or file i 0 ≡ 47 → i + 1 ≡ folder_length (take (i + 1) file)
  stroke is = sym (one_taken ∙ taken (get_or file i 0 == 47) (i + 1) (folder_length (take i file)) (eq-eqb (get_or file i 0) 47 is))

  pub no_stroke : get_or file i 0 ≢ 47 → folder_length (take i file) ≡ folder_length (take (i + 1) file)
  no_stroke is = sym (one_taken ∙ passed (get_or file i 0 == 47) (i + 1) (folder_length (take i file)) (ne_eqb (get_or file i 0) 47 is))

pub whole_folder : (file : List ℕ) (i : ℕ) → length file ≤ i → folder_length (take i file) ≡ folder_length file
whole_folder file i ge = ap folder_length (take_all i file ge)
