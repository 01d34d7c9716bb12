-- The messages that were delivered, as they are printed (our own).
use Rattle.std.specs.Prelude.{ℕ, List, ◌++◌, codes}
use Rattle.std.specs.List.{flat_map}
use Rattle.std.specs.Fmt.{decimal, signed_decimal}
use Rattle.std.specs.Int.{w32, cast_signed}
use Rattle.mx_proc.specs.declared.deliveries.Delivery.{Delivery}
use Rattle.mx_print_report.specs.Words.{kind_word}

-- a delivery: the endpoints of sender and receiver, the type, and its kind
unfoldable pub delivery_text : Delivery → List ℕ
delivery_text d =
    signed_decimal (cast_signed w32 d.from) ++ codes " " ++ signed_decimal (cast_signed w32 d.to)
    ++ codes " " ++ decimal d.message_type ++ codes " " ++ kind_word d.kind

abbrev pub delivery_line : Delivery → List ℕ
delivery_line d = delivery_text d ++ codes "\n"

-- a line for each
abbrev pub delivery_lines : List Delivery → List ℕ
delivery_lines deliveries = flat_map delivery_line deliveries
