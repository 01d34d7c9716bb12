-- The bars of a strip (our own). As long as what a service does, its endpoint and its processor don't change, it
-- has one bar; when one of these changes, a new bar begins. A dead process has no bar.
use Rattle.std.specs.Prelude.{ℕ, IsTrue, find, ◌≡◌, ◌+◌, ◌-◌, ◌*◌, ◌<◌, ◌≤◌, ◌==◌, ◌||◌, not, unwrap_or, if◌then◌else◌, Bool, List, [], ◌∷◌, Option, Some, None}
use Rattle.std.specs.List.{flat_map, range_with_len}
use Rattle.mx_print_report.specs.declared.doing.Doing.{Doing}
use Rattle.mx_print_report.specs.declared.doing.Doing.TheVariants as doing
use Rattle.mx_app_draw.specs.declared.values.Hint.{Hint}
use Rattle.mx_app_draw.specs.declared.values.Hint.TheVariants as hint
use Rattle.mx_app_draw.specs.declared.values.BarKind.{BarKind}
use Rattle.mx_app_draw.specs.declared.values.BarKind.TheVariants as kind
use Rattle.mx_app_draw.specs.declared.values.LabelKind.TheVariants as written
use Rattle.mx_app_draw.specs.declared.values.Anchor.TheVariants as anchor
use Rattle.mx_app_draw.specs.declared.values.Text.TheVariants as text
use Rattle.mx_app_draw.specs.declared.values.Value.{Value}
use Rattle.mx_app_draw.specs.declared.scene_values.Scene.{Scene}
use Rattle.mx_app_draw.specs.declared.scene_values.Standing.{Standing}
use Rattle.mx_app_draw.specs.declared.layout.Strip.{Strip}
use Rattle.mx_app_draw.specs.declared.bars.Span.{Span}
use Rattle.mx_app_draw.specs.FourFigures.{bar_at, label_at}
use Rattle.mx_app_draw.specs.Layout.{column, row}
use Rattle.mx_app_draw.specs.Scene.{world_at, number_at, standing_of, same_seen}

-- strips as they are in a picture of at most 1,000 records
abbrev pub IsWithin : Strip → Type 0
IsWithin strip = (strip.place ≤ 960) × (strip.count ≤ 40) × (strip.top ≤ 30000)

-- ---- the shape of a bar, and its colour too, shows what its process does

-- its top is `above` pixels above the middle of its row, and it is `height` pixels high
abbrev pub part : Span → BarKind → ℕ → ℕ → Hint → Value
part at k above height t = bar_at k at.x (at.y - above) at.width height t

-- the processor's number, in the middle of the first column
unfoldable pub cpu_label : Span → Option ℕ → List Value
cpu_label at None = []
cpu_label at (Some a) = label_at written.Cpu (at.x + 14) (at.y + 4) anchor.Middle (text.Number a) hint.Nothing ∷ []

abbrev pub state_bar_by : Span → Option ℕ → Hint → Doing → List Value
state_bar_by at cpu t doing.Out = part at kind.Out 6 12 t ∷ cpu_label at cpu
state_bar_by at cpu t doing.Doomed = part at kind.Doomed 6 12 t ∷ cpu_label at cpu
state_bar_by at cpu t doing.Ready = part at kind.Ready 3 6 t ∷ []
state_bar_by at cpu t (doing.Sending e) = part at kind.Sending 3 6 t ∷ []
state_bar_by at cpu t (doing.Awaiting e) = part at kind.Awaiting 3 6 t ∷ []
state_bar_by at cpu t (doing.Calling e) = part at kind.Sending 3 3 t ∷ part at kind.Awaiting 0 3 t ∷ []
state_bar_by at cpu t (doing.Receiving p) = part at kind.Receiving 1 2 t ∷ []
state_bar_by at cpu t _ = []

unfoldable pub state_bar : Span → Standing → Hint → List Value
state_bar at a t = state_bar_by at a.cpu t a.doing

-- ---- a run of columns: the slot shows one thing in all of them. It ends where the next run begins

unfoldable pub seen_at : Scene → Strip → ℕ → ℕ → Option Standing
seen_at v strip s c = standing_of (world_at v strip.place c) s

unfoldable pub begins : Scene → Strip → ℕ → ℕ → Bool
begins v strip s c = (c == 0) || not (same_seen (seen_at v strip s (c - 1)) (seen_at v strip s c))

unfoldable pub next_run : Scene → Strip → ℕ → ℕ → Option ℕ
next_run v strip s c = find (begins v strip s) (range_with_len (c + 1) (strip.count + 1 - (c + 1)))

unfoldable pub run_end : Scene → Strip → ℕ → ℕ → ℕ
run_end v strip s c = unwrap_or (next_run v strip s c) (strip.count + 1)

abbrev pub span_of : Scene → Strip → ℕ → ℕ → Span
span_of v strip s c = record { x = column c; width = 28 * (run_end v strip s c - c); y = row strip.top (1 + s) }

abbrev pub run_bar : Scene → Strip → ℕ → ℕ → Option Standing → List Value
run_bar v strip s c None = []
run_bar v strip s c (Some a) = state_bar (span_of v strip s c) a (hint.Standing a (number_at v strip.place c))

unfoldable pub bar_here : Scene → Strip → ℕ → ℕ → List Value
bar_here v strip s c = if begins v strip s c then run_bar v strip s c (seen_at v strip s c) else []

unfoldable pub bars_of_slot : Scene → Strip → ℕ → List Value
bars_of_slot v strip s = flat_map (bar_here v strip s) (range_with_len 0 (strip.count + 1))

unfoldable pub bars : Scene → Strip → List Value
bars v strip = flat_map (bars_of_slot v strip) (range_with_len 0 v.services)

-- ---- the law: EACH COLUMN IS IN EXACTLY ONE RUN, and shows what the run's first column shows

abbrev pub Covers : Scene → Strip → ℕ → ℕ → ℕ → Type 0
Covers v strip s b c = IsTrue (begins v strip s b) × (b ≤ c) × (c < run_end v strip s b)

abbrev pub EachIsCovered : Scene → Strip → ℕ → Type 0
EachIsCovered v strip s = (c : ℕ) → c ≤ strip.count →
    (b : ℕ) × Covers v strip s b c × IsTrue (same_seen (seen_at v strip s b) (seen_at v strip s c))
    × ((d : ℕ) → Covers v strip s d c → d ≡ b)
