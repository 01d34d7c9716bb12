-- THE LEGEND, below the last strip (our own).
use Rattle.std.specs.Prelude.{ℕ, ◌+◌, ◌-◌, ◌*◌, ◌/◌, ◌%◌, ◌≤◌, ◌==◌, if◌then◌else◌, List, [], ◌∷◌, ◌++◌}
use Rattle.std.specs.List.{flat_map, range_with_len}
use Rattle.mx_app_draw.specs.declared.values.Hint.TheVariants as hint
use Rattle.mx_app_draw.specs.declared.values.BarKind.{BarKind}
use Rattle.mx_app_draw.specs.declared.values.BarKind.TheVariants as kind
use Rattle.mx_app_draw.specs.declared.values.ArrowKind.{ArrowKind}
use Rattle.mx_app_draw.specs.declared.values.ArrowKind.TheVariants as drawn
use Rattle.mx_app_draw.specs.declared.values.GlyphKind.{GlyphKind}
use Rattle.mx_app_draw.specs.declared.values.GlyphKind.TheVariants as glyphs
use Rattle.mx_app_draw.specs.declared.values.LabelKind.{LabelKind}
use Rattle.mx_app_draw.specs.declared.values.LabelKind.TheVariants as written
use Rattle.mx_app_draw.specs.declared.values.Anchor.TheVariants as anchor
use Rattle.mx_app_draw.specs.declared.values.Deed.TheVariants as deed
use Rattle.mx_app_draw.specs.declared.values.Manner.TheVariants as manner
use Rattle.mx_app_draw.specs.declared.values.Item.{Item}
use Rattle.mx_app_draw.specs.declared.values.Item.TheVariants as item
use Rattle.mx_app_draw.specs.declared.values.Text.{Text}
use Rattle.mx_app_draw.specs.declared.values.Text.TheVariants as text
use Rattle.mx_app_draw.specs.declared.values.Value.{Value}
use Rattle.mx_app_draw.specs.declared.four_figures.Point.{Point}
use Rattle.mx_app_draw.specs.FourFigures.{bar_at, arrow_at, glyph_at, label_at}
use Rattle.mx_app_draw.specs.Layout.{items_abreast, legend_top}

-- where an item can be: the left end, and the middle of its height
abbrev pub IsCorner : Point → Type 0
IsCorner at = (at.x ≤ 60000) × (8 ≤ at.y) × (at.y ≤ 60000)

unfoldable pub item_at : ℕ → Item
item_at j =
    if j == 0 then item.Out else if j == 1 then item.Doomed else if j == 2 then item.Ready
    else if j == 3 then item.Sending else
    if j == 4 then item.Calling else if j == 5 then item.Awaiting else if j == 6 then item.Receiving else
    if j == 7 then item.Message else if j == 8 then item.Notification else if j == 9 then item.Pending else
    if j == 10 then item.Tick else if j == 11 then item.Line else if j == 12 then item.Death
    else if j == 13 then item.Birth else
    if j == 14 then item.Wrong else item.Unmade

-- ---- the sample of an item

abbrev pub sample_bar : Point → BarKind → ℕ → ℕ → Value
sample_bar at k above height = bar_at k at.x (at.y - above) 24 height hint.Nothing

abbrev pub sample_cpu : Point → Value
sample_cpu at = label_at written.Cpu (at.x + 12) (at.y + 4) anchor.Middle (text.Number 0) hint.Nothing

abbrev pub sample_arrow : Point → ArrowKind → Value
sample_arrow at k = arrow_at k (at.x + 12) (at.y - 8) (at.y + 6) hint.Nothing

abbrev pub sample_glyph : Point → GlyphKind → Value
sample_glyph at k = glyph_at k (at.x + 12) at.y hint.Nothing

abbrev pub sample_text : Point → LabelKind → Text → Value
sample_text at k what = label_at k (at.x + 12) (at.y + 4) anchor.Middle what hint.Nothing

unfoldable pub sample : Point → Item → Value
sample at item.Out = sample_bar at kind.Out 6 12
sample at item.Doomed = sample_bar at kind.Doomed 6 12
sample at item.Ready = sample_bar at kind.Ready 3 6
sample at item.Sending = sample_bar at kind.Sending 3 6
sample at item.Calling = sample_bar at kind.Sending 3 3
sample at item.Awaiting = sample_bar at kind.Awaiting 3 6
sample at item.Receiving = sample_bar at kind.Receiving 1 2
sample at item.Message = sample_arrow at drawn.Message
sample at item.Notification = sample_arrow at drawn.Notification
sample at item.Pending = sample_arrow at drawn.Pending
sample at item.Tick = sample_glyph at glyphs.Tick
sample at item.Line = sample_glyph at glyphs.Line
sample at item.Death = sample_glyph at glyphs.Death
sample at item.Birth = sample_glyph at glyphs.Birth
sample at item.Wrong = sample_text at written.Bad (text.Deed (deed.Call 1) manner.Wrong)
sample at item.Unmade = sample_text at written.Call (text.Deed (deed.Call 1) manner.Unmade)

-- some samples have a second value: the number of a processor, or the lower half of a bar of two colours
abbrev pub second_sample : Point → Item → List Value
second_sample at item.Out = sample_cpu at ∷ []
second_sample at item.Doomed = sample_cpu at ∷ []
second_sample at item.Calling = sample_bar at kind.Awaiting 0 3 ∷ []
second_sample at _ = []

unfoldable pub item_values : Point → Item → List Value
item_values at i =
    sample at i ∷ second_sample at i
    ++ label_at written.Key (at.x + 32) (at.y + 4) anchor.Start (text.Key i) hint.Nothing ∷ []

-- ---- the paper has room for some items in a row; the others come below

abbrev pub corner_of : ℕ → ℕ → ℕ → Point
corner_of services n j =
    record { x = 8 + 136 * (j % items_abreast n); y = legend_top services n + 12 + 24 * (j / items_abreast n) }

unfoldable pub legend_item : ℕ → ℕ → ℕ → List Value
legend_item services n j = item_values (corner_of services n j) (item_at j)

unfoldable pub legend : ℕ → ℕ → List Value
legend services n = flat_map (legend_item services n) (range_with_len 0 16)
