-- What typed lines ask for about what a search halts at (our own).
use Rattle.std.specs.Prelude.{ℕ, List, [], ◌∷◌, Option, Some, None}
use Rattle.mx_boot.specs.Script.{count_field}
use Rattle.mx_machine.specs.Service.{Service}
use Rattle.mx_text.specs.Fields.{pair, ◌>>=◌}
use Rattle.mx_boot.specs.Addresses.{address_of_word}
use Rattle.mx_app_look.specs.SlotWords.{slot_of_word}
use Rattle.mx_app_look.specs.declared.point_request.PointRequest.{PointRequest}
use Rattle.mx_app_look.specs.declared.point_request.PointRequest.TheVariants.{Break, Watch}

-- a slot and an address
abbrev pub break_asked : List Service → List (List ℕ) → Option PointRequest
break_asked services fs = do
  p ← pair fs
  s ← slot_of_word services p.0
  at ← address_of_word p.1
  Some (Break s at)

-- a slot, an address and a number of bytes
abbrev pub watch_asked : List Service → List (List ℕ) → Option PointRequest
watch_asked services [] = None
watch_asked services (f ∷ fs) = do
  s ← slot_of_word services f
  p ← pair fs
  at ← address_of_word p.0
  n ← count_field p.1
  Some (Watch s at n)
