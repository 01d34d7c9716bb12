-- A STRIP (our own): bands, axis, names, bars, and what each record changed.
use Rattle.std.specs.Prelude.{ℕ, ◌+◌, ◌-◌, ◌*◌, ◌%◌, ◌==◌, ◌&&◌, ◌||◌, not, if◌then◌else◌, Bool, List, [], ◌∷◌, ◌++◌, Option, Some, None, slice_get}
use Rattle.std.specs.List.{flat_map, range_with_len}
use Rattle.mx_look.specs.declared.transition.Transition.{Transition}
use Rattle.mx_app_draw.specs.declared.values.Hint.TheVariants as hint
use Rattle.mx_app_draw.specs.declared.values.BarKind.TheVariants as kind
use Rattle.mx_app_draw.specs.declared.values.LabelKind.TheVariants as written
use Rattle.mx_app_draw.specs.declared.values.Anchor.TheVariants as anchor
use Rattle.mx_app_draw.specs.declared.values.Text.{Text}
use Rattle.mx_app_draw.specs.declared.values.Text.TheVariants as text
use Rattle.mx_app_draw.specs.declared.values.Value.{Value}
use Rattle.mx_app_draw.specs.declared.layout.Strip.{Strip}
use Rattle.mx_app_draw.specs.declared.scene_values.Scene.{Scene}
use Rattle.mx_app_draw.specs.declared.scene_values.Standing.{Standing}
use Rattle.mx_app_draw.specs.FourFigures.{bar_at, label_at}
use Rattle.mx_app_draw.specs.Layout.{column, row, rows}
use Rattle.mx_app_draw.specs.Scene.{world_at}
use Rattle.mx_app_draw.specs.Bars.{seen_at, bars}
use Rattle.mx_app_draw.specs.Record.{record_values}

-- a band of colour under each second row
unfoldable pub band : ℕ → ℕ → ℕ → List Value
band top width r = if r % 2 == 1 then bar_at kind.Band 0 (row top r - 16) width 32 hint.Nothing ∷ [] else []

unfoldable pub bands : ℕ → ℕ → ℕ → List Value
bands top width services = flat_map (band top width) (range_with_len 0 (rows services))

-- the transition of a column
abbrev pub transition_at : Scene → Strip → ℕ → Option Transition
transition_at v strip i = slice_get v.transitions.items (strip.place + i)

-- every fifth record shows its number; so does a strip's first record, but not if the one after it does
abbrev pub is_marked : ℕ → ℕ → Bool
is_marked i number = (number % 5 == 0) || ((i == 0) && not (number % 5 == 4))

unfoldable pub axis_values : Strip → ℕ → ℕ → ℕ → List Value
axis_values strip services i number =
    if is_marked i number then
    bar_at kind.Grid (column (i + 1)) (strip.top + 16) 1 (32 * rows services + 8) hint.Nothing
    ∷ label_at written.Axis (column (i + 1)) (strip.top + 12) anchor.Middle (text.Number number) hint.Nothing ∷ []
    else []

abbrev pub axis_by : Scene → Strip → ℕ → Option Transition → List Value
axis_by v strip i None = []
axis_by v strip i (Some x) = axis_values strip v.services i x.number

unfoldable pub axis_at : Scene → Strip → ℕ → List Value
axis_at v strip i = axis_by v strip i (transition_at v strip i)

unfoldable pub axis : Scene → Strip → List Value
axis v strip = flat_map (axis_at v strip) (range_with_len 0 strip.count)

-- left of a row: the service's name in the strip's first world. Right of it: what it does in the last world
abbrev pub name_label : Strip → ℕ → Text → Value
name_label strip r what = label_at written.Name 8 (row strip.top r + 4) anchor.Start what hint.Nothing

abbrev pub end_label : Strip → ℕ → Text → Value
end_label strip r what =
    label_at written.End (column (strip.count + 1) + 8) (row strip.top r + 4) anchor.Start what hint.Nothing

abbrev pub name_if : Strip → ℕ → Option Standing → List Value
name_if strip s None = []
name_if strip s (Some a) = name_label strip (1 + s) (text.Who a) ∷ []

abbrev pub end_if : Strip → ℕ → Option Standing → List Value
end_if strip s None = []
end_if strip s (Some a) = end_label strip (1 + s) (text.Standing a) ∷ []

unfoldable pub name_values : Scene → Strip → ℕ → List Value
name_values v strip s = name_if strip s (seen_at v strip s 0) ++ end_if strip s (seen_at v strip s strip.count)

unfoldable pub service_names : Scene → Strip → List Value
service_names v strip = flat_map (name_values v strip) (range_with_len 0 v.services)

unfoldable pub names : Scene → Strip → List Value
names v strip =
    name_label strip 0 text.Outside ∷ service_names v strip
    ++ name_label strip (v.services + 1) text.Console
    ∷ end_label strip (v.services + 1) (text.Bytes (world_at v strip.place strip.count).written) ∷ []

-- what each record changed
abbrev pub came_by : Scene → Strip → ℕ → Option Transition → List Value
came_by v strip i None = []
came_by v strip i (Some x) =
    record_values x (record { place = strip.place + i; x = column (i + 1); top = strip.top; services = v.services })

unfoldable pub came_at : Scene → Strip → ℕ → List Value
came_at v strip i = came_by v strip i (transition_at v strip i)

unfoldable pub came : Scene → Strip → List Value
came v strip = flat_map (came_at v strip) (range_with_len 0 strip.count)

unfoldable pub strip_values : Scene → ℕ → Strip → List Value
strip_values v width strip =
    bands strip.top width v.services ++ axis v strip ++ names v strip ++ bars v strip ++ came v strip
