-- How the end of steps is printed (our own).
use Rattle.std.specs.Prelude.{ℕ, List, ◌++◌, codes}
use Rattle.std.specs.Fmt.{decimal}
use Rattle.mx_image.specs.declared.runs.Stop.{Stop}
use Rattle.mx_image.specs.declared.runs.Stop.TheVariants.{Spent, Trap, Fault}

abbrev pub stop_text : Stop → List ℕ
stop_text Spent = codes "spent"
stop_text Trap = codes "trap"
stop_text (Fault v) = codes "fault " ++ decimal v
