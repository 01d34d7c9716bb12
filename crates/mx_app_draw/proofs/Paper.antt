-- Strips and the legend lie on the paper.
use Rattle.std.proofs.Common.{ℕ, ◌+◌, ◌-◌, ◌*◌, ◌/◌, ◌%◌, ◌<◌, ◌≤◌, Option, Some, None, [], ◌∷◌, length, arith}
use Rattle.std.specs.Prelude.{◌==◌, is_some}
use Rattle.mx_print_report.specs.declared.doing.Doing.{Doing}
use Rattle.mx_print_report.specs.declared.doing.Doing.TheVariants as doing
use Rattle.mx_look.specs.declared.transition.Transition.{Transition}
use Rattle.mx_app_draw.specs.declared.values.Hint.{Hint}
use Rattle.mx_app_draw.specs.declared.values.Hint.TheVariants as hint
use Rattle.mx_app_draw.specs.declared.values.BarKind.TheVariants as kind
use Rattle.mx_app_draw.specs.declared.values.LabelKind.TheVariants as written
use Rattle.mx_app_draw.specs.declared.values.Anchor.TheVariants as anchor
use Rattle.mx_app_draw.specs.declared.values.Text.TheVariants as text
use Rattle.mx_app_draw.specs.declared.values.Item.{Item}
use Rattle.mx_app_draw.specs.declared.values.Item.TheVariants as item
use Rattle.mx_app_draw.specs.declared.scene_values.Scene.{Scene}
use Rattle.mx_app_draw.specs.declared.scene_values.Standing.{Standing}
use Rattle.mx_app_draw.specs.declared.layout.Strip.{Strip}
use Rattle.mx_app_draw.specs.declared.layout.Origin.{Origin}
use Rattle.mx_app_draw.specs.declared.bars.Span.{Span}
use Rattle.mx_app_draw.specs.declared.four_figures.Point.{Point}
use Rattle.mx_app_draw.specs.FourFigures.{bar_at, label_at}
use Rattle.mx_app_draw.specs.Inside.{IsInside}
use Rattle.mx_app_draw.specs.Layout.{column, row, rows, strip_height, strip_top, strip_count, strip_at, paper_width, items_abreast, legend_top, paper_height}
use Rattle.mx_app_draw.specs.Bars.{cpu_label, state_bar_by, state_bar, seen_at, begins, next_run, run_end, span_of, run_bar, bar_here, bars_of_slot, bars}
use Rattle.mx_app_draw.specs.Strips.{band, bands, transition_at, is_marked, axis_values, axis_by, axis_at, axis, name_if, end_if, name_values, service_names, names, came_by, came_at, came, strip_values}
use Rattle.mx_app_draw.specs.Legend.{item_at, sample, second_sample, item_values, corner_of, legend_item, legend}
use Rattle.mx_app_draw.specs.Picture.{strip_of, strips, refused_values, picture}
use Rattle.std.proofs.Math.Nat.{mod-lt, div-mul-le_self, mul-le-mul_right}
use Rattle.std.proofs.lemmas.Nat.{le-div}
use Rattle.mx_app_draw.proofs.Runs.{next_within}
use Rattle.mx_app_draw.proofs.Edges.{AllInside, all_in_row, all_if, all_of, OriginWithin, record_within}

pub record StripWithin (w h services : ℕ) (strip : Strip) : Type 0 where
  pub right : column (strip.count + 1) + 8 ≤ w
  pub below : strip.top + strip_height services ≤ h

-- ---- bands, axis, names

band_within : (w h services : ℕ) (strip : Strip) (r : ℕ) → StripWithin w h services strip → r < rows services → AllInside w h (band strip.top w r)
unfolding band
band_within w h services strip r p low =
    let below : strip.top + strip_height services ≤ h = p.below in
    all_if w h (r % 2 == 1) (bar_at kind.Band 0 (row strip.top r - 16) w 32 hint.Nothing ∷ []) [] ((omega arith, omega arith), tt) tt

glyph_within : (w h services : ℕ) (strip : Strip) (i number : ℕ) → StripWithin w h services strip → i < strip.count → AllInside w h (axis_values strip services i number)
unfolding axis_values
glyph_within w h services strip i number p low =
    let below : strip.top + strip_height services ≤ h = p.below in
    let right : column (strip.count + 1) + 8 ≤ w = p.right in
    all_if w h (is_marked i number)
    (bar_at kind.Grid (column (i + 1)) (strip.top + 16) 1 (32 * rows services + 8) hint.Nothing
    ∷ label_at written.Axis (column (i + 1)) (strip.top + 12) anchor.Middle (text.Number number) hint.Nothing ∷ [])
    [] ((omega arith, omega arith), ((omega arith, omega arith), tt)) tt

axis_within : (w h : ℕ) (v : Scene) (strip : Strip) (i : ℕ) (x : Option Transition) → StripWithin w h v.services strip → i < strip.count → AllInside w h (axis_by v strip i x)
axis_within w h v strip i None p low = tt
axis_within w h v strip i (Some x) p low = glyph_within w h v.services strip i x.number p low

name_within : (w h services : ℕ) (strip : Strip) (r : ℕ) → StripWithin w h services strip → r ≤ services + 1 → (8 ≤ w) × (row strip.top r + 4 ≤ h)
name_within w h services strip r p low =
    let below : strip.top + strip_height services ≤ h = p.below in
    let right : column (strip.count + 1) + 8 ≤ w = p.right in
    (omega arith, omega arith)

end_within : (w h services : ℕ) (strip : Strip) (r : ℕ) → StripWithin w h services strip → r ≤ services + 1 → (column (strip.count + 1) + 8 ≤ w) × (row strip.top r + 4 ≤ h)
end_within w h services strip r p low =
    let below : strip.top + strip_height services ≤ h = p.below in
    let right : column (strip.count + 1) + 8 ≤ w = p.right in
    (omega arith, omega arith)

name_if_within : (w h services : ℕ) (strip : Strip) (s : ℕ) (a : Option Standing) → StripWithin w h services strip → s < services → AllInside w h (name_if strip s a)
name_if_within w h services strip s None p low = tt
name_if_within w h services strip s (Some a) p low = (name_within w h services strip (1 + s) p (omega arith), tt)

end_if_within : (w h services : ℕ) (strip : Strip) (s : ℕ) (a : Option Standing) → StripWithin w h services strip → s < services → AllInside w h (end_if strip s a)
end_if_within w h services strip s None p low = tt
end_if_within w h services strip s (Some a) p low = (end_within w h services strip (1 + s) p (omega arith), tt)

names_within : (w h : ℕ) (v : Scene) (strip : Strip) → StripWithin w h v.services strip → AllInside w h (names v strip)
unfolding names service_names name_values
names_within w h v strip p = (
  name_within w h v.services strip 0 p (omega arith),
  all_of w h _ _
      (all_in_row w h (name_values v strip) v.services
      (λ s low. all_of w h _ _ (name_if_within w h v.services strip s (seen_at v strip s 0) p low) (end_if_within w h v.services strip s (seen_at v strip s strip.count) p low)))
      (name_within w h v.services strip (v.services + 1) p (omega arith), (end_within w h v.services strip (v.services + 1) p (omega arith), tt)),
)

-- ---- bars

pub record SpanWithin (w h : ℕ) (at : Span) : Type 0 where
  pub left : at.x + 14 ≤ w
  pub right : at.x + at.width ≤ w
  pub above : 6 ≤ at.y
  pub below : at.y + 6 ≤ h

cpu_within : (w h : ℕ) (at : Span) (a : Option ℕ) → SpanWithin w h at → AllInside w h (cpu_label at a)
unfolding cpu_label
cpu_within w h at None p = tt
cpu_within w h at (Some a) p = let left : at.x + 14 ≤ w = p.left in let below : at.y + 6 ≤ h = p.below in ((left, omega arith), tt)

state_within : (w h : ℕ) (at : Span) (cpu : Option ℕ) (t : Hint) (d : Doing) → SpanWithin w h at → AllInside w h (state_bar_by at cpu t d)
state_within w h at cpu t doing.Out p = let above : 6 ≤ at.y = p.above in let below : at.y + 6 ≤ h = p.below in ((p.right, omega arith), cpu_within w h at cpu p)
state_within w h at cpu t doing.Doomed p = let above : 6 ≤ at.y = p.above in let below : at.y + 6 ≤ h = p.below in ((p.right, omega arith), cpu_within w h at cpu p)
state_within w h at cpu t doing.Ready p = let above : 6 ≤ at.y = p.above in let below : at.y + 6 ≤ h = p.below in ((p.right, omega arith), tt)
state_within w h at cpu t (doing.Sending e) p = let above : 6 ≤ at.y = p.above in let below : at.y + 6 ≤ h = p.below in ((p.right, omega arith), tt)
state_within w h at cpu t (doing.Awaiting e) p = let above : 6 ≤ at.y = p.above in let below : at.y + 6 ≤ h = p.below in ((p.right, omega arith), tt)
state_within w h at cpu t (doing.Calling e) p = let above : 6 ≤ at.y = p.above in let below : at.y + 6 ≤ h = p.below in ((p.right, omega arith), ((p.right, omega arith), tt))
state_within w h at cpu t (doing.Receiving q) p = let above : 6 ≤ at.y = p.above in let below : at.y + 6 ≤ h = p.below in ((p.right, omega arith), tt)
state_within w h at cpu t doing.Home p = tt
state_within w h at cpu t (doing.Down c) p = tt

span_within : (w h : ℕ) (v : Scene) (strip : Strip) (s c : ℕ) → StripWithin w h v.services strip → s < v.services → c ≤ strip.count → SpanWithin w h (span_of v strip s c)
unfolding next_run run_end
span_within w h v strip s c p low before =
    let end = next_within (begins v strip s) (c + 1) (strip.count + 1 - (c + 1)) (strip.count + 1) (omega arith) in
    let after : c + 1 ≤ run_end v strip s c = end.0 in
    let within : run_end v strip s c ≤ strip.count + 1 = end.1 in
    let right : column (strip.count + 1) + 8 ≤ w = p.right in
    let below : strip.top + strip_height v.services ≤ h = p.below in
    record { left = omega arith; right = omega arith; above = omega arith; below = omega arith }

run_within : (w h : ℕ) (v : Scene) (strip : Strip) (s c : ℕ) (a : Option Standing) → SpanWithin w h (span_of v strip s c) → AllInside w h (run_bar v strip s c a)
unfolding state_bar
run_within w h v strip s c None p = tt
run_within w h v strip s c (Some a) p = state_within w h (span_of v strip s c) a.cpu _ a.doing p

bars_within : (w h : ℕ) (v : Scene) (strip : Strip) → StripWithin w h v.services strip → AllInside w h (bars v strip)
unfolding bars bars_of_slot bar_here
bars_within w h v strip p =
    all_in_row w h (bars_of_slot v strip) v.services (λ s low.
    all_in_row w h (bar_here v strip s) (strip.count + 1) (λ c under.
    all_if w h (begins v strip s c) _ [] (run_within w h v strip s c (seen_at v strip s c) (span_within w h v strip s c p low (omega arith))) tt))

-- ---- what came of its records, and the strip

came_within : (w h : ℕ) (v : Scene) (strip : Strip) (i : ℕ) (x : Option Transition) → StripWithin w h v.services strip → i < strip.count → AllInside w h (came_by v strip i x)
came_within w h v strip i None p low = tt
came_within w h v strip i (Some x) p low =
    let right : column (strip.count + 1) + 8 ≤ w = p.right in
    let below : strip.top + strip_height v.services ≤ h = p.below in
    let at : Origin = record { place = strip.place + i; x = column (i + 1); top = strip.top; services = v.services } in
    let inside : OriginWithin w h at = record { right = omega arith; below = omega arith } in
    record_within w h x at inside

pub strip_within : (w h : ℕ) (v : Scene) (strip : Strip) → StripWithin w h v.services strip → AllInside w h (strip_values v w strip)
unfolding strip_values bands axis axis_at came came_at
strip_within w h v strip p =
    all_of w h _ _
    (all_of w h _ _
    (all_of w h _ _
    (all_of w h _ _
    (all_in_row w h (band strip.top w) (rows v.services) (λ r low. band_within w h v.services strip r p low))
    (all_in_row w h (axis_at v strip) strip.count (λ i low. axis_within w h v strip i (transition_at v strip i) p low)))
    (names_within w h v strip p))
    (bars_within w h v strip p))
    (all_in_row w h (came_at v strip) strip.count (λ i low. came_within w h v strip i (transition_at v strip i) p low))

-- ---- the legend

pub record CornerWithin (w h : ℕ) (at : Point) : Type 0 where
  pub right : at.x + 32 ≤ w
  pub above : 8 ≤ at.y
  pub below : at.y + 6 ≤ h

sample_within : (w h : ℕ) (at : Point) (i : Item) → CornerWithin w h at → IsInside w h (sample at i)
unfolding sample
sample_within w h at item.Out p = let right : at.x + 32 ≤ w = p.right in let above : 8 ≤ at.y = p.above in let below : at.y + 6 ≤ h = p.below in (omega arith, omega arith)
sample_within w h at item.Doomed p = let right : at.x + 32 ≤ w = p.right in let above : 8 ≤ at.y = p.above in let below : at.y + 6 ≤ h = p.below in (omega arith, omega arith)
sample_within w h at item.Ready p = let right : at.x + 32 ≤ w = p.right in let above : 8 ≤ at.y = p.above in let below : at.y + 6 ≤ h = p.below in (omega arith, omega arith)
sample_within w h at item.Sending p = let right : at.x + 32 ≤ w = p.right in let above : 8 ≤ at.y = p.above in let below : at.y + 6 ≤ h = p.below in (omega arith, omega arith)
sample_within w h at item.Calling p = let right : at.x + 32 ≤ w = p.right in let above : 8 ≤ at.y = p.above in let below : at.y + 6 ≤ h = p.below in (omega arith, omega arith)
sample_within w h at item.Awaiting p = let right : at.x + 32 ≤ w = p.right in let above : 8 ≤ at.y = p.above in let below : at.y + 6 ≤ h = p.below in (omega arith, omega arith)
sample_within w h at item.Receiving p = let right : at.x + 32 ≤ w = p.right in let above : 8 ≤ at.y = p.above in let below : at.y + 6 ≤ h = p.below in (omega arith, omega arith)
sample_within w h at item.Message p = let right : at.x + 32 ≤ w = p.right in let below : at.y + 6 ≤ h = p.below in (omega arith, omega arith, below)
sample_within w h at item.Notification p = let right : at.x + 32 ≤ w = p.right in let below : at.y + 6 ≤ h = p.below in (omega arith, omega arith, below)
sample_within w h at item.Pending p = let right : at.x + 32 ≤ w = p.right in let below : at.y + 6 ≤ h = p.below in (omega arith, omega arith, below)
sample_within w h at item.Tick p = let right : at.x + 32 ≤ w = p.right in let below : at.y + 6 ≤ h = p.below in (omega arith, omega arith)
sample_within w h at item.Line p = let right : at.x + 32 ≤ w = p.right in let below : at.y + 6 ≤ h = p.below in (omega arith, omega arith)
sample_within w h at item.Death p = let right : at.x + 32 ≤ w = p.right in let below : at.y + 6 ≤ h = p.below in (omega arith, omega arith)
sample_within w h at item.Birth p = let right : at.x + 32 ≤ w = p.right in let below : at.y + 6 ≤ h = p.below in (omega arith, omega arith)
sample_within w h at item.Wrong p = let right : at.x + 32 ≤ w = p.right in let below : at.y + 6 ≤ h = p.below in (omega arith, omega arith)
sample_within w h at item.Unmade p = let right : at.x + 32 ≤ w = p.right in let below : at.y + 6 ≤ h = p.below in (omega arith, omega arith)

second_within : (w h : ℕ) (at : Point) (i : Item) → CornerWithin w h at → AllInside w h (second_sample at i)
second_within w h at item.Out p = let right : at.x + 32 ≤ w = p.right in let below : at.y + 6 ≤ h = p.below in ((omega arith, omega arith), tt)
second_within w h at item.Doomed p = let right : at.x + 32 ≤ w = p.right in let below : at.y + 6 ≤ h = p.below in ((omega arith, omega arith), tt)
second_within w h at item.Calling p = let right : at.x + 32 ≤ w = p.right in let below : at.y + 6 ≤ h = p.below in ((omega arith, omega arith), tt)
second_within w h at _ p = tt

item_within : (w h : ℕ) (at : Point) (i : Item) → CornerWithin w h at → AllInside w h (item_values at i)
unfolding item_values
item_within w h at i p =
    let below : at.y + 6 ≤ h = p.below in
    (sample_within w h at i p, all_of w h _ _ (second_within w h at i p) ((p.right, omega arith), tt))

corner_within : (services n j : ℕ) → j < 16 → CornerWithin (paper_width n) (paper_height services n) (corner_of services n j)
corner_within services n j low =
    let abreast = items_abreast n in
    let some : 0 < abreast = omega arith in
    let beside : j % abreast < abreast = mod-lt j some in
    let wide : 136 * abreast ≤ paper_width n - 16 = omega arith in
    let lines : j / abreast * abreast ≤ j = div-mul-le_self j abreast in
    let more : (j / abreast + 1) * abreast ≤ abreast + 15 = omega arith in
    let rows : j / abreast + 1 ≤ (abreast + 15) / abreast = le-div (j / abreast + 1) (abreast + 15) abreast some more in
    record { right = omega arith; above = omega arith; below = omega arith }

legend_within : (services n : ℕ) → AllInside (paper_width n) (paper_height services n) (legend services n)
unfolding legend legend_item
legend_within services n =
    all_in_row (paper_width n) (paper_height services n) (legend_item services n) 16
    (λ j low. item_within (paper_width n) (paper_height services n) (corner_of services n j) (item_at j) (corner_within services n j low))

-- ---- the whole picture

strip_at_within : (services n k : ℕ) → k < strip_count n → StripWithin (paper_width n) (paper_height services n) services (strip_at services n k)
strip_at_within services n k low =
    let later : (k + 1) * strip_height services ≤ strip_count n * strip_height services = mul-le-mul_right (strip_height services) (let one : k + 1 ≤ strip_count n = omega arith in one) in
    let next : strip_top services k + strip_height services ≤ legend_top services n = omega arith in
    record { right = omega arith; below = omega arith }

refused_within : (v : Scene) (w h : ℕ) → 20 ≤ h → AllInside w h (refused_values v w)
unfolding refused_values
refused_within v w h high = all_if w h (is_some v.refused) (label_at written.Refused (w - 8) 20 anchor.End text.Refused hint.Nothing ∷ []) [] ((omega arith, high), tt) tt

pub picture_within : (v : Scene) → AllInside (paper_width (length v.transitions.items)) (paper_height v.services (length v.transitions.items)) (picture v)
unfolding picture strips
picture_within v =
    let n = length v.transitions.items in
    let w = paper_width n in
    let h = paper_height v.services n in (
      (omega arith, omega arith),
      all_of w h _ _
          (all_of w h _ _
          (all_in_row w h (strip_of v w n) (strip_count n) (λ k low. strip_within w h v (strip_at v.services n k) (strip_at_within v.services n k low)))
          (refused_within v w h (omega arith)))
          (legend_within v.services n),
    )
