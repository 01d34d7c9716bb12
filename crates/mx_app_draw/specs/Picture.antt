-- THE PICTURE of a run (our own): one function, from a run to all values of its picture.
use Rattle.std.specs.Prelude.{ℕ, ◌≡◌, ◌-◌, ◌≤◌, ◌<◌, if◌then◌else◌, List, [], ◌∷◌, ◌++◌, length, is_some}
use Rattle.std.specs.List.{All, flat_map, range_with_len}
use Rattle.mx_app_draw.specs.declared.values.Hint.TheVariants as hint
use Rattle.mx_app_draw.specs.declared.values.LabelKind.TheVariants as written
use Rattle.mx_app_draw.specs.declared.values.Anchor.TheVariants as anchor
use Rattle.mx_app_draw.specs.declared.values.Text.TheVariants as text
use Rattle.mx_app_draw.specs.declared.values.Value.{Value}
use Rattle.mx_app_draw.specs.declared.values.Drawing.{Drawing}
use Rattle.mx_app_draw.specs.declared.scene_values.Scene.{Scene}
use Rattle.mx_app_draw.specs.FourFigures.{label_at}
use Rattle.mx_app_draw.specs.Inside.{IsInside}
use Rattle.mx_app_draw.specs.Bars.{EachIsCovered}
use Rattle.mx_app_draw.specs.Layout.{strip_count, strip_at, paper_width, paper_height}
use Rattle.mx_app_draw.specs.Strips.{strip_values}
use Rattle.mx_app_draw.specs.Legend.{legend}

-- the runs that `picture` is for. Their pictures are at most 32,767 pixels wide and high, as viewers ask
abbrev pub IsDrawable : Scene → Type 0
IsDrawable v = (length v.transitions.items ≤ 1000) × (v.services ≤ 32)

abbrev pub title : Value
title = label_at written.Title 8 20 anchor.Start text.Title hint.Nothing

abbrev pub strip_of : Scene → ℕ → ℕ → ℕ → List Value
strip_of v width n k = strip_values v width (strip_at v.services n k)

unfoldable pub strips : Scene → ℕ → ℕ → List Value
strips v width n = flat_map (strip_of v width n) (range_with_len 0 (strip_count n))

-- the text about the refused record, at the top right
unfoldable pub refused_values : Scene → ℕ → List Value
refused_values v width =
    if is_some v.refused then label_at written.Refused (width - 8) 20 anchor.End text.Refused hint.Nothing ∷ [] else []

unfoldable pub picture : Scene → List Value
picture v =
    let n = length v.transitions.items in
    title ∷ strips v (paper_width n) n ++ refused_values v (paper_width n) ++ legend v.services n

abbrev pub IsPicture : Scene → Drawing → Type 0
IsPicture v d =
    let n = length v.transitions.items in
    (d.width ≡ paper_width n) × (d.height ≡ paper_height v.services n) × (d.values.items ≡ picture v)

-- ---- laws

-- nothing that is drawn lies beyond the paper
abbrev pub IsOnItsPaper : Drawing → Type 0
IsOnItsPaper d = All (IsInside d.width d.height) d.values.items

-- in each strip each column of a service is in exactly one run of columns
abbrev pub AllAreCovered : Scene → Type 0
AllAreCovered v =
    let n = length v.transitions.items in
    (k s : ℕ) → k < strip_count n → s < v.services → EachIsCovered v (strip_at v.services n k) s
