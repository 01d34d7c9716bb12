-- Breakpoints and watches, listed (our own).
use Rattle.std.specs.Prelude.{ℕ, List, ◌++◌, codes}
use Rattle.std.specs.Fmt.{decimal}
use Rattle.std.specs.List.{flat_map}
use Rattle.mx_debug.specs.declared.points.Breakpoint.{Breakpoint}
use Rattle.mx_insn_words.specs.Numbers.{eight_digits}
use Rattle.mx_app_look.specs.declared.points.Points.{Points}
use Rattle.mx_app_look.specs.declared.watches.Watch.{Watch}

abbrev pub break_line : Breakpoint → List ℕ
break_line p = codes "break " ++ decimal p.slot ++ codes " " ++ eight_digits p.address ++ codes "\n"

abbrev pub watch_line : Watch → List ℕ
watch_line x =
    codes "watch " ++ decimal x.slot ++ codes " " ++ eight_digits x.address ++ codes " " ++ decimal x.count
    ++ codes "\n"

-- the breakpoints, and then the watches
abbrev pub points_text : Points → List ℕ
points_text s = flat_map break_line s.breakpoints ++ flat_map watch_line s.watches
