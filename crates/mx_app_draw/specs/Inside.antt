-- INSIDE THE PAPER (our own): no coordinate of a value is beyond the right or the lower edge of the paper.
use Rattle.std.specs.Prelude.{ℕ, ◌+◌, ◌≤◌}
use Rattle.mx_app_draw.specs.declared.values.Value.{Value}
use Rattle.mx_app_draw.specs.declared.values.Value.TheVariants as value

abbrev pub IsInside : ℕ → ℕ → Value → Type 0
IsInside w h (value.Bar b) = (b.x + b.width ≤ w) × (b.y + b.height ≤ h)
IsInside w h (value.Arrow a) = (a.x ≤ w) × (a.y ≤ h) × (a.to ≤ h)
IsInside w h (value.Glyph m) = (m.x ≤ w) × (m.y ≤ h)
IsInside w h (value.Label l) = (l.x ≤ w) × (l.y ≤ h)
