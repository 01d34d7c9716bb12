-- WHAT A RECORD CHANGED, in its column (our own).
use Rattle.std.specs.Prelude.{ℕ, ◌+◌, ◌==◌, ◌&&◌, nat_lt, if◌then◌else◌, List, [], ◌∷◌, ◌++◌, Option, Some, None}
use Rattle.std.specs.List.{flat_map, range_with_len}
use Rattle.mx_look.specs.declared.transition.Transition.{Transition}
use Rattle.mx_app_draw.specs.declared.values.Hint.TheVariants as hint
use Rattle.mx_app_draw.specs.declared.values.LabelKind.TheVariants as written
use Rattle.mx_app_draw.specs.declared.values.Anchor.TheVariants as anchor
use Rattle.mx_app_draw.specs.declared.values.Text.TheVariants as text
use Rattle.mx_app_draw.specs.declared.values.Value.{Value}
use Rattle.mx_app_draw.specs.declared.layout.Origin.{Origin}
use Rattle.mx_app_draw.specs.FourFigures.{label_at}
use Rattle.mx_app_draw.specs.Layout.{row}
use Rattle.mx_app_draw.specs.Fates.{outside_values, fate_values, freed_values}
use Rattle.mx_app_draw.specs.Messages.{delivery_values, kept_values}
use Rattle.mx_app_draw.specs.Returns.{return_values}

-- the row below all services
abbrev pub console_row : Origin → ℕ
console_row at = row at.top (at.services + 1)

-- a byte: its character if it is one from ! to ~, else its two hexadecimal digits
unfoldable pub byte_label : Origin → ℕ → Value
byte_label at b =
    if nat_lt 32 b
    && nat_lt b 127
    then label_at written.Character at.x (console_row at + 5) anchor.Middle (text.Character b)
    (hint.Console at.place)
    else label_at written.Byte at.x (console_row at + 4) anchor.Middle (text.Hexadecimal b) (hint.Console at.place)

abbrev pub console_by : Origin → Option ℕ → List Value
console_by at None = []
console_by at (Some b) = byte_label at b ∷ []

unfoldable pub console_values : Transition → Origin → List Value
console_values x at = if x.before.written == x.after.written then [] else console_by at x.after.last_byte

-- the values of all services, in order
abbrev pub of_services : Origin → (ℕ → List Value) → List Value
of_services at f = flat_map f (range_with_len 0 at.services)

unfoldable pub fates : Transition → Origin → List Value
fates x at = of_services at (fate_values x at)

unfoldable pub deliveries : Transition → Origin → List Value
deliveries x at = of_services at (delivery_values x at)

unfoldable pub all_kept : Transition → Origin → List Value
all_kept x at = of_services at (kept_values x at)

unfoldable pub freed : Transition → Origin → List Value
freed x at = of_services at (freed_values x at)

unfoldable pub record_values : Transition → Origin → List Value
record_values x at =
    outside_values x at ++ fates x at ++ deliveries x at ++ all_kept x at ++ return_values x at ++ freed x at
    ++ console_values x at
