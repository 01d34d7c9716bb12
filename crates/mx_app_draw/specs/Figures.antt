-- EACH VALUE'S ELEMENT (SVG 1.1; classes and figures are our own).
use Rattle.std.specs.Prelude.{ℕ, ◌+◌, ◌-◌, nat_lt, if◌then◌else◌, List, [], ◌∷◌, ◌++◌, codes}
use Rattle.std.specs.Fmt.{decimal}
use Rattle.mx_app_draw.specs.declared.scene_values.Scene.{Scene}
use Rattle.mx_app_draw.specs.declared.values.Anchor.{Anchor}
use Rattle.mx_app_draw.specs.declared.values.Bar.{Bar}
use Rattle.mx_app_draw.specs.declared.values.Arrow.{Arrow}
use Rattle.mx_app_draw.specs.declared.values.ArrowKind.{ArrowKind}
use Rattle.mx_app_draw.specs.declared.values.ArrowKind.TheVariants as drawn
use Rattle.mx_app_draw.specs.declared.values.Glyph.{Glyph}
use Rattle.mx_app_draw.specs.declared.values.GlyphKind.{GlyphKind}
use Rattle.mx_app_draw.specs.declared.values.GlyphKind.TheVariants as glyphs
use Rattle.mx_app_draw.specs.declared.values.Label.{Label}
use Rattle.mx_app_draw.specs.declared.values.Value.{Value}
use Rattle.mx_app_draw.specs.declared.values.Value.TheVariants as value
use Rattle.mx_app_draw.specs.Shown.{shown, attribute, pair}
use Rattle.mx_app_draw.specs.Texts.{text_words}
use Rattle.mx_app_draw.specs.Hints.{hint_text, end_text}
use Rattle.mx_app_draw.specs.Classes.{bar_class, arrow_class, label_class, anchor_word}

unfoldable pub class : List ℕ → List ℕ → List ℕ
class tag name = codes "<" ++ tag ++ codes " class=\"" ++ name ++ codes "\""

unfoldable pub bar_text : Scene → Bar → List ℕ
bar_text v b =
    class (codes "rect") (bar_class b.kind) ++ attribute (codes "x") b.x ++ attribute (codes "y") b.y
    ++ attribute (codes "width") b.width ++ attribute (codes "height") b.height ++ end_text v (codes "rect") b.hint

unfoldable pub anchored : Anchor → List ℕ
anchored a = codes " text-anchor=\"" ++ anchor_word a ++ codes "\">"

unfoldable pub placed : Label → List ℕ
placed l =
    class (codes "text") (label_class l.kind) ++ attribute (codes "x") l.x ++ attribute (codes "y") l.y
    ++ anchored l.anchor

unfoldable pub label_text : Scene → Label → List ℕ
label_text v l = placed l ++ hint_text v l.hint ++ shown (text_words v l.text) ++ codes "</text>\n"

-- ---- arrows: a stem with a dot at its tail, and an end

unfoldable pub point : ℕ → ℕ → ℕ → List ℕ
point letter x y = letter ∷ pair x y

unfoldable pub circle : ℕ → ℕ → ℕ → List ℕ
circle x y r = attribute (codes "cx") x ++ attribute (codes "cy") y ++ attribute (codes "r") r

abbrev pub head_base : ℕ → ℕ → ℕ
head_base from to = if nat_lt from to then to - 7 else to + 7

unfoldable pub head_text : Arrow → List ℕ
head_text a =
    codes "<path class=\"head\" d=\"" ++ point 77 (a.x - 4) (head_base a.y a.to) ++ point 76 a.x a.to
    ++ point 76 (a.x + 4) (head_base a.y a.to) ++ codes "Z\"/>"

unfoldable pub ring_text : Arrow → List ℕ
ring_text a =
    codes "<circle class=\"head\"" ++ circle a.x a.to 3 ++ codes "/>"

abbrev pub arrow_end_by : Arrow → ArrowKind → List ℕ
arrow_end_by a drawn.Message = head_text a
arrow_end_by a drawn.Notification = head_text a
arrow_end_by a drawn.Pending = ring_text a
arrow_end_by a _ = []

unfoldable pub arrow_end : Arrow → List ℕ
arrow_end a = arrow_end_by a a.kind

unfoldable pub line_text : Arrow → List ℕ
line_text a = codes "<path class=\"stem\" d=\"" ++ point 77 a.x a.y ++ codes "V" ++ decimal a.to ++ codes "\"/>"

unfoldable pub stem_text : Arrow → List ℕ
stem_text a = line_text a ++ codes "<circle" ++ circle a.x a.y 2 ++ codes "/>"

unfoldable pub arrow_text : Scene → Arrow → List ℕ
arrow_text v a =
    class (codes "g") (arrow_class a.kind) ++ codes ">" ++ hint_text v a.hint ++ stem_text a ++ arrow_end a
    ++ codes "</g>\n"

-- ---- glyphs, drawn around 0 and moved

unfoldable pub moved : Glyph → List ℕ
moved m = codes " transform=\"translate(" ++ pair m.x m.y ++ codes ")\""

-- of a class, and along a path
unfoldable pub path_text : Glyph → List ℕ → List ℕ → List ℕ
path_text m name path = class (codes "path") name ++ moved m ++ codes " d=\"" ++ path ++ codes "\""

unfoldable pub death_text : Scene → Glyph → List ℕ
death_text v m =
    codes "<g" ++ moved m ++ codes ">" ++ hint_text v m.hint
    ++ codes "<path class=\"halo\" d=\"M-5 -5L5 5M-5 5L5 -5\"/>"
    ++ codes "<path class=\"death\" d=\"M-5 -5L5 5M-5 5L5 -5\"/></g>\n"

abbrev pub glyph_text_by : Scene → Glyph → GlyphKind → List ℕ
glyph_text_by v m glyphs.Tick = path_text m (codes "tick") (codes "M0 -6V6") ++ end_text v (codes "path") m.hint
glyph_text_by v m glyphs.Line = path_text m (codes "line") (codes "M-5 -5H5L0 5Z") ++ end_text v (codes "path") m.hint
glyph_text_by v m glyphs.Death = death_text v m
glyph_text_by v m glyphs.Birth =
    path_text m (codes "birth") (codes "M-5 0L0 -5L5 0L0 5Z") ++ end_text v (codes "path") m.hint

unfoldable pub glyph_text : Scene → Glyph → List ℕ
glyph_text v m = glyph_text_by v m m.kind

-- A VALUE
unfoldable pub value_text : Scene → Value → List ℕ
value_text v (value.Bar b) = bar_text v b
value_text v (value.Arrow a) = arrow_text v a
value_text v (value.Glyph m) = glyph_text v m
value_text v (value.Label l) = label_text v l
