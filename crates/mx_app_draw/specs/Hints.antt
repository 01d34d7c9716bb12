-- What a viewer shows when it is asked about a value (our own): a line of the trace, or what a process does after a
-- record.
use Rattle.std.specs.Prelude.{ℕ, nat_lt, if◌then◌else◌, List, [], ◌++◌, codes, Option, Some, None, slice_get}
use Rattle.std.specs.Fmt.{decimal}
use Rattle.mx_look.specs.declared.slot_glances.SlotGlance.{SlotGlance}
use Rattle.mx_look.specs.declared.transition.Transition.{Transition}
use Rattle.mx_look.specs.Transition.{slot_in}
use Rattle.mx_look.specs.FaultLines.{fault_line}
use Rattle.mx_look.specs.Trace.{head_line, change_line, delivery_line, kept_line, console_line}
use Rattle.mx_app_draw.specs.declared.scene_values.Scene.{Scene}
use Rattle.mx_app_draw.specs.declared.scene_values.Standing.{Standing}
use Rattle.mx_app_draw.specs.declared.values.Hint.{Hint}
use Rattle.mx_app_draw.specs.declared.values.Hint.TheVariants.{Nothing, Record, Change, Delivery, Kept, Console, Standing as StandingHint}
use Rattle.mx_app_draw.specs.Shown.{shown}
use Rattle.mx_app_draw.specs.Texts.{standing_text}

abbrev pub kept_by : Transition → ℕ → Option SlotGlance → Option SlotGlance → List ℕ
kept_by x place (Some v) (Some u) = kept_line x v u place
kept_by x place _ _ = []

unfoldable pub kept_hint : Transition → ℕ → ℕ → List ℕ
kept_hint x s place = kept_by x place (slot_in x.before s) (slot_in x.after s)

-- a line of the trace
unfoldable pub transition_line : Transition → Hint → List ℕ
transition_line x (Record i) = head_line x ++ fault_line x
transition_line x (Change i s) = change_line x s
transition_line x (Delivery i s) = if nat_lt s 32 then delivery_line x s else []
transition_line x (Kept i s place) = kept_hint x s place
transition_line x (Console i) = console_line x
transition_line x _ = []

abbrev pub transition_line_if : Hint → Option Transition → List ℕ
transition_line_if h None = []
transition_line_if h (Some x) = transition_line x h

unfoldable pub placed_line : Scene → ℕ → Hint → List ℕ
placed_line v i h = transition_line_if h (slice_get v.transitions.items i)

abbrev pub on_processor : Option ℕ → List ℕ
on_processor None = []
on_processor (Some a) = codes " on processor " ++ decimal a

unfoldable pub standing_hint : Standing → ℕ → List ℕ
standing_hint a n = standing_text a ++ on_processor a.cpu ++ codes " after record " ++ decimal n

unfoldable pub hint_line : Scene → Hint → List ℕ
hint_line v Nothing = []
hint_line v (StandingHint a n) = standing_hint a n
hint_line v (Record i) = placed_line v i (Record i)
hint_line v (Change i s) = placed_line v i (Change i s)
hint_line v (Delivery i s) = placed_line v i (Delivery i s)
hint_line v (Kept i s place) = placed_line v i (Kept i s place)
hint_line v (Console i) = placed_line v i (Console i)

abbrev pub hint_title : Scene → Hint → List ℕ
hint_title v h = codes "<title>" ++ shown (hint_line v h) ++ codes "</title>"

-- A HINT, if it has any text
unfoldable pub hint_text : Scene → Hint → List ℕ
hint_text v Nothing = []
hint_text v h = hint_title v h

-- the end of a figure that has nothing in it but a hint
unfoldable pub end_text : Scene → List ℕ → Hint → List ℕ
end_text v tag Nothing = codes "/>\n"
end_text v tag h = codes ">" ++ hint_title v h ++ codes "</" ++ tag ++ codes ">\n"
