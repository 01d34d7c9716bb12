-- The marks that are built are those that are defined.
use Rattle.std.proofs.Common.{◌≡◌, ◌∙◌, ℕ, Bool, ◌||◌, List, map, refl, ap}
use Rattle.mx_machine.specs.declared.events.Event.{Event}
use Rattle.mx_machine.specs.World.{World}
use Rattle.mx_walk.specs.declared.either.Either.{Either}
use Rattle.mx_walk.specs.declared.several.Several.{Several}
use Rattle.mx_walk.specs.declared.stopping.CodePlace.{CodePlace}
use Rattle.mx_walk.specs.declared.stopping.Coming.{Coming}
use Rattle.mx_walk.specs.declared.stopping.Leaving.{Leaving}
use Rattle.mx_walk.specs.Several.{any_marks}
use Rattle.mx_walk.specs.Stopping.{comes_any, leaves}
use Rattle.mx_app_look.specs.declared.points.Points.{Points}
use Rattle.mx_app_look.specs.Marks.{changes_bytes, changes_watched, code_place, is_looked_for, leaves_breakpoint, leaving}
use Rattle.mx_app_look.specs.Ranges.{Kept}
use Rattle.mx_app_look.proofs.Lists.{map_both}

-- what marks an event
abbrev pub Marks : Type 0
Marks = World → ℕ × Event → World → Bool

abbrev pub by_change : Kept → Marks
by_change m w x u = changes_bytes m.watch w x u

abbrev pub by_leaving : Leaving → Marks
by_leaving m w x u = leaves m.place w x

pub bytes_are : (s : Points) (ms : List Kept) → map (λ (m : Kept). m.watch) ms ≡ s.watches
    → (λ w x u. any_marks (map by_change ms) w x u) ≡ changes_watched s
bytes_are s ms e =
    ap (λ (fs : List Marks). λ w x u. any_marks fs w x u) (map_both (λ (m : Kept). m.watch) changes_bytes by_change ms (λ m. refl) ∙ ap (map changes_bytes) e)

-- what a search on is told of
abbrev pub told_by : Either (Several Kept) Coming → Marks
told_by m w x u = any_marks (map by_change m.one.marks.items) w x u || comes_any m.other.places.items w x u

pub told_is : (s : Points) (m : Either (Several Kept) Coming) → map (λ (m : Kept). m.watch) m.one.marks.items ≡ s.watches → m.other.places.items ≡ map code_place s.breakpoints
    → told_by m ≡ (λ w x u. changes_watched s w x u || comes_any (map code_place s.breakpoints) w x u)
told_is s m e f =
    ap (λ (g : Marks). λ w x u. g w x u || comes_any m.other.places.items w x u) (bytes_are s m.one.marks.items e)
    ∙ ap (λ (ps : List CodePlace). λ w x u. changes_watched s w x u || comes_any ps w x u) f

pub breaks_are : (s : Points) (ms : List Leaving) → map (λ (m : Leaving). m.place) ms ≡ map code_place s.breakpoints
    → (λ w x u. any_marks (map by_leaving ms) w x u) ≡ leaves_breakpoint s
breaks_are s ms e =
    ap (λ (fs : List Marks). λ w x u. any_marks fs w x u) (map_both (λ (m : Leaving). m.place) leaving by_leaving ms (λ m. refl) ∙ ap (map leaving) e)

pub both_are : (s : Points) (ms : List Kept) (ns : List Leaving) → map (λ (m : Kept). m.watch) ms ≡ s.watches → map (λ (m : Leaving). m.place) ns ≡ map code_place s.breakpoints
    → (λ w x u. any_marks (map by_change ms) w x u || any_marks (map by_leaving ns) w x u) ≡ is_looked_for s
both_are s ms ns e f =
    ap (λ (g : Marks). λ w x u. g w x u || any_marks (map by_leaving ns) w x u) (bytes_are s ms e)
    ∙ ap (λ (g : Marks). λ w x u. changes_watched s w x u || g w x u) (breaks_are s ns f)
