-- THE LINES of calls that were refused (our own).
use Rattle.std.specs.Prelude.{ℕ, List, ◌++◌, codes, length, take}
use Rattle.std.specs.Fmt.{decimal}
use Rattle.std.specs.List.{flat_map}
use Rattle.mx_machine.specs.declared.config.Config.{Config}
use Rattle.mx_why.specs.declared.failed_calls.FailedCall.{FailedCall}
use Rattle.mx_why.specs.declared.seats.End.{End}
use Rattle.mx_why.specs.Endings.{times_text}
use Rattle.mx_why.specs.Lines.{left_out_text}
use Rattle.mx_why.specs.Readings.{unread_text}
use Rattle.mx_why.specs.Reasons.{slot_text}
use Rattle.mx_why.specs.WantLines.{details_text}

unfoldable pub failed_line : Config → End → FailedCall → List ℕ
failed_line g e c =
    codes "refused: " ++ slot_text e c.slot ++ codes ": " ++ c.text ++ times_text c.times
    ++ codes " at record " ++ decimal c.number ++ c.place ++ details_text g e c.slot c.want ++ unread_text c.reading ++ codes "\n"

-- of the first 8, and how many more there are
unfoldable pub failed_lines : Config → End → List FailedCall → List ℕ
failed_lines g e cs =
    flat_map (failed_line g e) (take 8 cs) ++ left_out_text (codes "refused: ") (length cs)
