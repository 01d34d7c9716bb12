-- Watched bytes as they were seen.
use Rattle.std.proofs.Common.{◌≡◌, ◌∙◌, ℕ, List, [], ◌∷◌, None, ap, map, refl}
use Rattle.std.proofs.lemmas.Slice.Eq.{bytes_eq-Decides}
use Rattle.mx_machine.specs.World.{World}
use Rattle.mx_walk.specs.Walks.{Walk, world_here}
use Rattle.mx_app_look.specs.Changes.{as_seen, bytes_of, first_change, seen_in}
use Rattle.mx_app_look.specs.declared.changes.Seen.{Seen}
use Rattle.mx_app_look.specs.declared.watches.Watch.{Watch}
use Rattle.mx_app_gdb.specs.declared.halts.Halts.{Halts}
use Rattle.mx_app_gdb.specs.Halts.{IsUnchanged}

-- which watches were seen
names : (ss : List Seen) → map (λ (s : Seen). s.watch) ss ≡ map (λ (s : Watch × List ℕ). s.0) (map as_seen ss)
names [] = refl
names (s ∷ ss) = ap (λ xs. s.watch ∷ xs) (names ss)

named : (w : World) (xs : List Watch) → map (λ (s : Watch × List ℕ). s.0) (map (seen_in w) xs) ≡ xs
named w [] = refl
named w (x ∷ xs) = ap (λ ys. x ∷ ys) (named w xs)

-- what is seen now has not changed
none_changed : (w : World) (xs : List Watch) → first_change w (map (seen_in w) xs) ≡ None
none_changed w [] = refl
none_changed w (x ∷ xs) = rw ((bytes_eq-Decides (bytes_of w x) (bytes_of w x)).1 refl) (none_changed w xs)

pub seen_here : (k : Walk) (h : Halts) → map as_seen h.seen.items ≡ map (seen_in (world_here k)) h.points.watches → IsUnchanged k h
seen_here k h e = record {
  watched = names h.seen.items ∙ ap (λ (ss : List (Watch × List ℕ)). map (λ (s : Watch × List ℕ). s.0) ss) e ∙ named (world_here k) h.points.watches;
  same = ap (λ (ss : List (Watch × List ℕ)). first_change (world_here k) ss) e ∙ none_changed (world_here k) h.points.watches;
}
