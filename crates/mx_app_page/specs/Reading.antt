-- WHAT A READER OF THE PAGE KNOWS (our own): what the first line shows, and in its place what rows tell.
use Rattle.std.specs.Prelude.{◌≡◌, ℕ, ◌<◌, ◌+◌, if◌then◌else◌, List, [], ◌∷◌, Option, Some, None, unwrap_or}
use Rattle.std.specs.Str.{bytes_eq}
use Rattle.mx_machine.specs.declared.history.Record.{Record}
use Rattle.mx_machine.specs.History.{world_after_events, events_of, events_of_history}
use Rattle.mx_machine.specs.World.{World}
use Rattle.mx_app_step.specs.Traces.{transition_of}
use Rattle.mx_look.specs.Going.{gone_on}
use Rattle.mx_look.specs.declared.transition.Transition.{Transition}
use Rattle.mx_look_page.specs.declared.shown.SlotState.{SlotState}
use Rattle.mx_look_page.specs.Rows.{told_state}
use Rattle.mx_look_page.specs.Shown.{ShownWorld, state_in}
use Rattle.mx_app_page.specs.Pages.{shown_in}

-- what a row tells of a slot, and of the two orders: what is shown after the record, if the row has it
abbrev pub tells_state : ℕ → Transition → ShownWorld → ShownWorld → Option SlotState
tells_state s x p q = told_state (state_in p s) (state_in q s) (gone_on x s)

abbrev pub told_order : List ℕ → List ℕ → Option (List ℕ)
told_order p q = if bytes_eq p q then None else Some q

abbrev pub tells_ready : Transition → ShownWorld → ShownWorld → Option (List ℕ)
tells_ready x p q = told_order p.ready q.ready

abbrev pub tells_waiting : Transition → ShownWorld → ShownWorld → Option (List ℕ)
tells_waiting x p q = told_order p.waiting q.waiting

-- WHAT IS KNOWN after the rows of records: what was told last; where nothing was, what was known before
abbrev pub known_after : {X : Type 0} → (Transition → ShownWorld → ShownWorld → Option X) → World → ℕ → List Record → X → X
known_after {X} tells w n [] known = known
known_after {X} tells w n (x ∷ xs) known = let v = world_after_events w (events_of x.actor x.event) in
    known_after tells v (n + 1) xs (unwrap_or (tells (transition_of w n x) (shown_in w) (shown_in v)) known)

-- ROWS TELL ENOUGH: whoever knows what is shown of a world, and reads the rows of records from there on, knows what is
-- shown after them
abbrev pub RowsTellEnough : World → ℕ → List Record → Type 0
RowsTellEnough w n xs = let p = shown_in w in let q = shown_in (world_after_events w (events_of_history xs)) in
    ((s : ℕ) (v : SlotState) → s < 32 → state_in p s ≡ Some v → state_in q s ≡ Some (known_after (tells_state s) w n xs v))
    × (q.ready ≡ known_after tells_ready w n xs p.ready)
    × (q.waiting ≡ known_after tells_waiting w n xs p.waiting)
