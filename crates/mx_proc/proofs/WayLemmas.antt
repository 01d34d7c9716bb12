-- What a cell is to a way's firsts and nexts, and what a change of one does to them.
use Rattle.std.proofs.Common.{ℕ, ◌≡◌, ◌<◌, ◌≤◌, ◌+◌, List, slice_index, slice_set, replicate, ap, sym, arith, ◌∙◌}
use Rattle.std.proofs.lemmas.List.{get_or-take, get_or-drop, take-set-le, drop-set-lt, drop-set-add, take-replicate}
use Rattle.std.proofs.lemmas.Bool.{ne_eqb}
use Rattle.std.proofs.Math.Seq.{take-set-lt}
use Rattle.mx_proc.specs.Chains.{WayState, way_of, firsts_with, nexts_with}

pub first_at : (count : ℕ) (cells : List ℕ) (l : ℕ) (w : WayState) → way_of count cells ≡ w → l < count → slice_index cells l ≡ slice_index w.firsts l
first_at count cells l w h n = sym (get_or-take count cells l 0 n) ∙ ap (λ (v : WayState). slice_index v.firsts l) h

pub next_at : (count : ℕ) (cells : List ℕ) (s : ℕ) (w : WayState) → way_of count cells ≡ w → slice_index cells (32 + s) ≡ slice_index w.nexts s
next_at count cells s w h = sym (get_or-drop 32 cells s 0) ∙ ap (λ (v : WayState). slice_index v.nexts s) h

pub first_set : (count : ℕ) (cells : List ℕ) (l x : ℕ) (w : WayState) → way_of count cells ≡ w → l < count → (way_of count (slice_set cells l x)).firsts ≡ slice_set w.firsts l x
first_set count cells l x w h n = take-set-lt count cells l x n ∙ ap (λ (v : WayState). slice_set v.firsts l x) h

pub nexts_stay : (count : ℕ) (cells : List ℕ) (l x : ℕ) (w : WayState) → way_of count cells ≡ w → l < 32 → (way_of count (slice_set cells l x)).nexts ≡ w.nexts
nexts_stay count cells l x w h n = drop-set-lt 32 cells l x n ∙ ap (λ (v : WayState). v.nexts) h

pub next_set : (count : ℕ) (cells : List ℕ) (s x : ℕ) (w : WayState) → way_of count cells ≡ w → (way_of count (slice_set cells (32 + s) x)).nexts ≡ slice_set w.nexts s x
next_set count cells s x w h = drop-set-add 32 cells s x ∙ ap (λ (v : WayState). slice_set v.nexts s x) h

pub firsts_stay : (count : ℕ) (cells : List ℕ) (s x : ℕ) (w : WayState) → way_of count cells ≡ w → count ≤ 32 → (way_of count (slice_set cells (32 + s) x)).firsts ≡ w.firsts
firsts_stay count cells s x w h n = take-set-le count cells (32 + s) x (omega (arith, n)) ∙ ap (λ (v : WayState). v.firsts) h

pub none_first : (count : ℕ) → count ≤ 32 → (way_of count (replicate 64 255)).firsts ≡ replicate count 255
none_first count n = take-replicate count 64 255 (omega (arith, n))

pub nexts_led : (count : ℕ) (cells : List ℕ) (l before after at : ℕ) (w : WayState) → way_of count cells ≡ w → l < 32 → before ≡ 255 → at ≡ l → (way_of count (slice_set cells at after)).nexts ≡ nexts_with w.nexts before after
nexts_led count cells l before after at w h n e f = rw (e, f) (nexts_stay count cells l after w h n)

pub nexts_linked : (count : ℕ) (cells : List ℕ) (before after at : ℕ) (w : WayState) → way_of count cells ≡ w → (before ≡ 255 → ⊥) → at ≡ 32 + before → (way_of count (slice_set cells at after)).nexts ≡ nexts_with w.nexts before after
nexts_linked count cells before after at w h e f = rw (ne_eqb before 255 e, f) (next_set count cells before after w h)

-- ---- the same by equal numbers

pub led_nexts : (ns os : List ℕ) (b a b' a' : ℕ) → ns ≡ nexts_with os b a → b ≡ b' → a ≡ a' → ns ≡ nexts_with os b' a'
led_nexts ns os b a b' a' h e f = h ∙ ap (nexts_with os b) f ∙ ap (λ (x : ℕ). nexts_with os x a') e

pub led_firsts : (fs os : List ℕ) (l b a b' a' : ℕ) → fs ≡ firsts_with os l b a → b ≡ b' → a ≡ a' → fs ≡ firsts_with os l b' a'
led_firsts fs os l b a b' a' h e f = h ∙ ap (firsts_with os l b) f ∙ ap (λ (x : ℕ). firsts_with os l x a') e
