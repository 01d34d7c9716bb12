-- THE DRAWING AS TEXT (SVG 1.1): its head, a title, a style sheet, the paper, and the values.
use Rattle.std.specs.Prelude.{ℕ, List, ◌++◌, codes}
use Rattle.std.specs.List.{flat_map}
use Rattle.mx_app_draw.specs.declared.scene_values.Scene.{Scene}
use Rattle.mx_app_draw.specs.declared.values.Drawing.{Drawing}
use Rattle.mx_app_draw.specs.declared.values.Value.{Value}
use Rattle.mx_app_draw.specs.Shown.{shown, attribute, pair}
use Rattle.mx_app_draw.specs.Texts.{title_text}
use Rattle.mx_app_draw.specs.Figures.{value_text}

unfoldable pub size_text : ℕ → ℕ → List ℕ
size_text width height = attribute (codes "width") width ++ attribute (codes "height") height

abbrev pub document_head : List ℕ
document_head =
    codes "<?xml version=\"1.0\" encoding=\"UTF-8\"?>\n<svg xmlns=\"http://www.w3.org/2000/svg\" version=\"1.1\""

unfoldable pub opening_text : ℕ → ℕ → List ℕ
opening_text width height =
    document_head ++ size_text width height ++ codes " viewBox=\"0 0 " ++ pair width height ++ codes "\">\n"

abbrev pub description : List ℕ
description =
    codes "<desc>Time runs from left to right, one column a record. Each service has a row, whose bars "
    ++ codes "show its state; arrows are messages and notifications; the lowest row has what was written to "
    ++ codes "the console. mx trace prints the same records in words.</desc>\n"

unfoldable pub told_title : Scene → List ℕ
told_title v = codes "<title>" ++ shown (title_text v) ++ codes "</title>\n" ++ description

-- ---- the style sheet: Okabe and Ito's colours, which colour-blind readers can distinguish

unfoldable pub letters_style : List ℕ
letters_style =
    codes "<style type=\"text/css\">\n"
    ++ codes "text{font-family:monospace;fill:#222}\n"
    ++ codes ".paper{fill:#fff}.band{fill:#f4f4f2}.grid{fill:#d8d8d4}\n"
    ++ (codes ".out{fill:#0060a0}.doomed{fill:#d55e00}.ready{fill:#56b4e9}.sending{fill:#e69f00}"
    ++ codes ".awaiting{fill:#cc79a7}.receiving{fill:#999}\n")
    ++ (codes ".title{font-size:13px;font-weight:bold}.name{font-size:12px;font-weight:bold}"
    ++ codes ".end,.key{font-size:11px}.axis,.call,.note,.bad,.byte{font-size:9px}\n")

unfoldable pub words_style : List ℕ
words_style =
    codes ".axis{fill:#6b6b6b}.call{fill:#555}.bad,.refused{font-weight:bold;fill:#b34000}"
    ++ codes ".refused{font-size:12px}.char{font-size:14px;font-weight:bold}\n"
    ++ codes ".cpu{font-size:10px;font-weight:bold;fill:#fff;pointer-events:none}\n"

unfoldable pub figures_style : List ℕ
figures_style =
    codes ".message,.notify,.pending,.tick,.line{stroke:#222;fill:#222}"
    ++ codes ".notify .stem,.pending .stem{stroke-dasharray:3 2}.notify .head,.pending .head{fill:#fff}\n"
    ++ (codes ".kill{stroke:#d55e00;fill:#d55e00}.respawn,.birth{stroke:#009e73;fill:#009e73}"
    ++ codes ".death{stroke:#d55e00;stroke-width:3}.halo{stroke:#fff;stroke-width:7}\n")

unfoldable pub dark_style : List ℕ
dark_style =
    codes "@media (prefers-color-scheme:dark){text,.note{fill:#e8e8e8}.paper{fill:#16181c}"
    ++ codes ".band{fill:#1f2227}.grid{fill:#363a40}.axis{fill:#999}.call{fill:#bbb}\n"
    ++ (codes ".out{fill:#2a7ab8}.bad,.refused{fill:#ff9a5c}.cpu{fill:#fff}"
    ++ codes ".message,.notify,.pending,.tick,.line{stroke:#e8e8e8;fill:#e8e8e8}\n")
    ++ codes ".notify .head,.pending .head{fill:#16181c}.halo{stroke:#16181c}}\n"
    ++ codes "</style>\n"

unfoldable pub paper_text : ℕ → ℕ → List ℕ
paper_text width height = codes "<rect class=\"paper\" x=\"0\" y=\"0\"" ++ size_text width height ++ codes "/>\n"

-- each value's text, in their order
abbrev pub values_text : Scene → List Value → List ℕ
values_text v values = flat_map (value_text v) values

-- THE DRAWING OF A RUN
unfoldable pub drawing_text : Scene → Drawing → List ℕ
drawing_text v d =
    opening_text d.width d.height ++ told_title v ++ letters_style ++ words_style ++ figures_style ++ dark_style
    ++ paper_text d.width d.height
    ++ values_text v d.values.items ++ codes "</svg>\n"
