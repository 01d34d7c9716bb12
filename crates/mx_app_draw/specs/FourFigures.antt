-- Values that are drawn (our own).
use Rattle.std.specs.Prelude.{ℕ}
use Rattle.mx_app_draw.specs.declared.values.Hint.{Hint}
use Rattle.mx_app_draw.specs.declared.values.BarKind.{BarKind}
use Rattle.mx_app_draw.specs.declared.values.ArrowKind.{ArrowKind}
use Rattle.mx_app_draw.specs.declared.values.GlyphKind.{GlyphKind}
use Rattle.mx_app_draw.specs.declared.values.LabelKind.{LabelKind}
use Rattle.mx_app_draw.specs.declared.values.Anchor.{Anchor}
use Rattle.mx_app_draw.specs.declared.values.Text.{Text}
use Rattle.mx_app_draw.specs.declared.values.Value.{Value}
use Rattle.mx_app_draw.specs.declared.values.Value.TheVariants as value

abbrev pub bar_at : BarKind → ℕ → ℕ → ℕ → ℕ → Hint → Value
bar_at k x y w h t = value.Bar (record { kind = k; x = x; y = y; width = w; height = h; hint = t })

abbrev pub arrow_at : ArrowKind → ℕ → ℕ → ℕ → Hint → Value
arrow_at k x y to t = value.Arrow (record { kind = k; x = x; y = y; to = to; hint = t })

abbrev pub glyph_at : GlyphKind → ℕ → ℕ → Hint → Value
glyph_at k x y t = value.Glyph (record { kind = k; x = x; y = y; hint = t })

abbrev pub label_at : LabelKind → ℕ → ℕ → Anchor → Text → Hint → Value
label_at k x y a text t = value.Label (record { kind = k; x = x; y = y; anchor = a; text = text; hint = t })
