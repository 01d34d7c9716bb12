-- The last bytes of a console.
use Rattle.std.proofs.Common.{◌≡◌, ◌∙◌, ◌⊎◌, ℕ, zero, suc, ◌+◌, ◌-◌, ◌≤◌, List, [], ◌∷◌, Some, None, drop, length, slice_get, inl, inr, refl, ap, arith, length-drop}
use Rattle.std.proofs.lemmas.List.{drop-drop, drop_all}
use Rattle.mx_machine.specs.History.{replay}
use Rattle.mx_machine.specs.Machine.{MachineState, world_of}
use Rattle.mx_proc.specs.Console.{ConsoleState}
use Rattle.mx_spool.specs.Written.{grown}

-- the last `more` of those from an index on are the last of all
pub tail_of : (kept bytes : List ℕ) (first more : ℕ) → bytes ≡ drop first kept → (first ≡ 0) ⊎ (first + more ≤ length kept) → drop (length bytes - more) bytes ≡ drop (length kept - more) kept
tail_of kept bytes first more is (inl none) =
    let same : bytes ≡ kept = is ∙ ap (λ (n : ℕ). drop n kept) none in
    ap (λ (l : List ℕ). drop (length l - more) l) same
tail_of kept bytes first more is (inr within) =
    let long : length (drop first kept) ≡ length kept - first = length-drop first kept in
    let at : first + (length (drop first kept) - more) ≡ length kept - more = omega (arith, long, within) in
    ap (λ (l : List ℕ). drop (length l - more) l) is ∙ drop-drop (length (drop first kept) - more) first kept ∙ ap (λ (n : ℕ). drop n kept) at

-- what is printed is what the console has more
pub text_is : (c : ConsoleState) (shown count more first : ℕ) (bytes text : List ℕ) → count ≡ c.count → more ≡ count - shown → bytes ≡ drop first c.kept → (first ≡ 0) ⊎ (first + more ≤ length c.kept)
    → text ≡ drop (length bytes - more) bytes → text ≡ grown shown c
text_is c shown count more first bytes text counted is from there last =
    last ∙ tail_of c.kept bytes first more from there ∙ ap (λ (n : ℕ). drop (length c.kept - n) c.kept) (is ∙ ap (λ (n : ℕ). n - shown) counted)

-- a machine's console is its kernel's
pub console_now : (m : MachineState) → (replay m.kernel).table.devices.console ≡ (world_of m).table.devices.console
unfolding world_of
console_now m = refl

-- ---- one byte after another

pub kept_more : (kept : List ℕ) (i b : ℕ) → slice_get kept i ≡ Some b → drop i kept ≡ b ∷ drop (i + 1) kept
kept_more [] i b h = absurd cc
kept_more (x ∷ xs) zero b h = ap (λ (y : ℕ). y ∷ xs) (some_is x b h)
  where
    some_is : (x b : ℕ) → Some x ≡ Some b → x ≡ b
    some_is x b h = cc
kept_more (x ∷ xs) (suc i) b h =
    let next : suc (i + 1) ≡ suc i + 1 = omega arith in
    kept_more xs i b h ∙ ap (λ (n : ℕ). b ∷ drop n (x ∷ xs)) next

past : (kept : List ℕ) (i : ℕ) → slice_get kept i ≡ None → length kept ≤ i
past [] i h = omega arith
past (x ∷ xs) zero h = absurd cc
past (x ∷ xs) (suc i) h = let further = past xs i h in omega (arith, further)

pub kept_none : (kept : List ℕ) (i : ℕ) → slice_get kept i ≡ None → drop i kept ≡ []
kept_none kept i h = drop_all i kept (past kept i h)
