-- The progress that each request shows (our own).
use Rattle.std.specs.Prelude.{◌≡◌, ◌⊎◌, ℕ, ◌-◌, Bool, true, false, List, [], ◌++◌, Option, Some, None}
use Rattle.mx_machine.specs.declared.events.Event.{Event}
use Rattle.mx_machine.specs.declared.history.Record.{Record}
use Rattle.mx_machine.specs.World.{World}
use Rattle.mx_walk.specs.declared.positions.Position.{Position}
use Rattle.mx_walk.specs.declared.progress.Part.{Part}
use Rattle.mx_walk.specs.Walks.{Walk, shown_to, shown_way, world_here}
use Rattle.mx_walk.specs.Parts.{walk_between, walk_shown}
use Rattle.mx_walk.specs.Positions.{IsPosition, first, next_position, steps_in}
use Rattle.mx_walk.specs.Seeking.{IsLastMarked, IsPassed}
use Rattle.mx_app_look.specs.declared.points.Points.{Points}
use Rattle.mx_app_look.specs.declared.request.Request.{Request}
use Rattle.mx_app_look.specs.declared.request.Request.TheVariants.{Continue, Reverse, UntilBack, Why}
use Rattle.mx_app_look.specs.declared.sight.Sight.{Sight}
use Rattle.mx_app_look.specs.Before.{record_before}
use Rattle.mx_app_look.specs.Answers.{to_of}
use Rattle.mx_app_look.specs.Marks.{is_looked_for}
use Rattle.mx_app_look.specs.Requests.{request_of}
use Rattle.mx_app_look.specs.Searches.{IsNextHalt}
use Rattle.mx_app_look.specs.Happenings.{is_happening}
use Rattle.mx_app_look.specs.Seeking.{has_points}
use Rattle.mx_app_look.specs.Until.{has_slots, past}

-- ---- why: back to where the steps of the record before are made, and past its own event

abbrev pub steps_made : ℕ → Record → Position
steps_made n x = record { records = n; steps = steps_in x.event }

abbrev pub record_shown : Walk → ℕ → Record → List Part
record_shown k n x = shown_to k (steps_made n x) ++ shown_way k (steps_made n x) (past n)

abbrev pub why_shown_by : Walk → ℕ → Option Record → List Part
why_shown_by k n None = []
why_shown_by k n (Some x) = record_shown k n x

abbrev pub why_shown : Walk → List Part
why_shown k = why_shown_by k (k.here.records - 1) (record_before k.records k.here.records)

-- ---- a search on: each record from here to where it halts, once

abbrev pub IsNextShown : Walk → Points → List Part → Type 0
IsNextShown k s ps = (h : Position × List ℕ) × IsNextHalt k s h × (ps ≡ walk_between k.records k.here h.0)

-- ---- a search back: from the first position to here, then to the halt; and if an event is met, past it and back
-- again, so that changed bytes are seen

abbrev pub return_shown : Walk → Position → Position → List Part
return_shown k p q = shown_way k p q ++ shown_way k q p

abbrev pub IsLastShown : (World → ℕ × Event → World → Bool) → Walk → List Part → Type 0
IsLastShown f k ps =
    ((p : Position) × IsPosition k.records p × IsLastMarked f k.boot k.records p k.here
    × (ps ≡ (walk_shown k.records k.here ++ shown_to k p) ++ return_shown k p (next_position k.records p)))
    ⊎ (IsPassed f k.boot k.records first k.here × (ps ≡ walk_shown k.records k.here ++ shown_to k first))

-- a search is shown that is made
abbrev pub IsShownIf : Bool → (List Part → Type 0) → List Part → Type 0
IsShownIf true IsSearch ps = IsSearch ps
IsShownIf false IsSearch ps = ps ≡ []

-- ---- REQUESTS

-- one that moves shows the way to where one is after it; one that does neither shows nothing, as it stays here
abbrev pub IsRequestShown : Sight → Request → List Part → Type 0
IsRequestShown s Why ps = ps ≡ why_shown s.walker
IsRequestShown s Continue ps = IsShownIf (has_points s.points) (IsNextShown s.walker s.points) ps
IsRequestShown s Reverse ps = IsShownIf (has_points s.points) (IsLastShown (is_looked_for s.points) s.walker) ps
IsRequestShown s (UntilBack h) ps = IsShownIf (has_slots s.walker h) (IsLastShown (is_happening h) s.walker) ps
IsRequestShown s r ps = ps ≡ shown_to s.walker (to_of s.walker r)

-- a line that asks for nothing known shows nothing
abbrev pub IsShownBy : Sight → Option Request → List Part → Type 0
IsShownBy s None ps = ps ≡ []
IsShownBy s (Some r) ps = IsRequestShown s r ps

abbrev pub IsShown : Sight → List ℕ → List Part → Type 0
IsShown s line ps = IsShownBy s (request_of (world_here s.walker).services line) ps
