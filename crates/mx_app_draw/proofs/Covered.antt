-- Each column of a strip is in just one run of a slot, and shows what the run's first column shows.
use Rattle.std.proofs.Common.{◌≡◌, ℕ, zero, suc, ◌+◌, ◌-◌, ◌<◌, ◌≤◌, ◌==◌, not, true, false, Option, refl, subst, arith}
use Rattle.std.proofs.lemmas.Bool.{or_parts, not-false}
use Rattle.mx_app_draw.specs.declared.scene_values.Scene.{Scene}
use Rattle.mx_app_draw.specs.declared.scene_values.Standing.{Standing}
use Rattle.mx_app_draw.specs.declared.layout.Strip.{Strip}
use Rattle.mx_app_draw.specs.Scene.{same_seen}
use Rattle.mx_app_draw.specs.Bars.{seen_at, begins, next_run, run_end, EachIsCovered}
use Rattle.mx_app_draw.proofs.Runs.{last, last_within, last_passes, none_after_last, last_covers, only_last}
use Rattle.mx_app_draw.proofs.Same.{seen_alike, seen_on}

-- what is like the one before, all along, is like the first
alike_along : (see : ℕ → Option Standing) (b m : ℕ)
    → ((k : ℕ) → b < k → k ≤ b + m → same_seen (see (k - 1)) (see k) ≡ true) → same_seen (see b) (see (b + m)) ≡ true
alike_along see b zero h = let same : b ≡ b + 0 = omega arith in subst (λ (k : ℕ). same_seen (see b) (see k) ≡ true) same (seen_alike (see b))
alike_along see b (suc m) h =
    let before : same_seen (see b) (see (b + m)) ≡ true = alike_along see b m (λ k low high. h k low (omega arith)) in
    let here : same_seen (see (b + suc m - 1)) (see (b + suc m)) ≡ true = h (b + suc m) (omega arith) (omega arith) in
    let one : b + suc m - 1 ≡ b + m = omega arith in
    let next : same_seen (see (b + m)) (see (b + suc m)) ≡ true = subst (λ (k : ℕ). same_seen (see k) (see (b + suc m)) ≡ true) one here in
    seen_on (see b) (see (b + m)) (see (b + suc m)) before next

goes_on : (v : Scene) (strip : Strip) (s k : ℕ) → begins v strip s k ≡ false → same_seen (seen_at v strip s (k - 1)) (seen_at v strip s k) ≡ true
unfolding begins
goes_on v strip s k h =
    let same = same_seen (seen_at v strip s (k - 1)) (seen_at v strip s k) in
    not-false same ((or_parts (k == 0) (not same) h).1)

alike_in_run : (v : Scene) (strip : Strip) (s c : ℕ) → same_seen (seen_at v strip s (last (begins v strip s) c)) (seen_at v strip s c) ≡ true
alike_in_run v strip s c =
    let b = last (begins v strip s) c in
    let low : b ≤ c = last_within (begins v strip s) c in
    let along : same_seen (seen_at v strip s b) (seen_at v strip s (b + (c - b))) ≡ true =
    alike_along (seen_at v strip s) b (c - b) (λ k above below. goes_on v strip s k (none_after_last (begins v strip s) c k above (omega arith))) in
    let end : b + (c - b) ≡ c = omega arith in
    subst (λ (k : ℕ). same_seen (seen_at v strip s b) (seen_at v strip s k) ≡ true) end along

pub each_is_covered : (v : Scene) (strip : Strip) (s : ℕ) → EachIsCovered v strip s
unfolding begins next_run run_end
each_is_covered v strip s c high =
    let p = begins v strip s in (
      last p c,
      (last_passes p c refl, last_within p c, last_covers p strip.count c high),
      alike_in_run v strip s c,
      λ d h. only_last p strip.count c d refl high h.0 h.1 h.2,
    )
