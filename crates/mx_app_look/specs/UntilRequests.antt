-- What `until` is asked to look for, as it is typed (our own).
use Rattle.std.specs.Prelude.{ℕ, Bool, true, false, List, [], ◌∷◌, Option, Some, None, codes, if◌then◌else◌}
use Rattle.std.specs.Str.{bytes_eq}
use Rattle.mx_look.specs.KernelCalls.{request_type}
use Rattle.mx_machine.specs.Service.{Service}
use Rattle.mx_text.specs.Bytes.{is_digit}
use Rattle.mx_text.specs.Fields.{only, pair, ◌>>=◌}
use Rattle.mx_boot.specs.Addresses.{number_field}
use Rattle.mx_app_look.specs.SlotWords.{only_slot, slot_of_word}
use Rattle.mx_app_look.specs.declared.happening.Happening.{Happening}
use Rattle.mx_app_look.specs.declared.happening.Happening.TheVariants.{Call, Death, Delivery, Error}
use Rattle.mx_app_look.specs.declared.until_request.UntilAsked.{UntilAsked}

-- a number begins with a digit; else it is the name of a kernel call
abbrev pub type_of_word : List ℕ → Option ℕ
type_of_word [] = None
type_of_word (b ∷ bs) = if is_digit b then number_field (b ∷ bs) else request_type (b ∷ bs)

-- SLOT TYPE
abbrev pub call_asked : List Service → List ℕ → List (List ℕ) → Option Happening
call_asked services f fs = do
  s ← slot_of_word services f
  g ← only fs
  t ← type_of_word g
  Some (Call s t)

abbrev pub death_asked : List Service → List (List ℕ) → Option Happening
death_asked services fs = do
  s ← only_slot services fs
  Some (Death s)

-- FROM TO, slots both
abbrev pub delivery_asked : List Service → List (List ℕ) → Option Happening
delivery_asked services fs = do
  p ← pair fs
  from ← slot_of_word services p.0
  to ← slot_of_word services p.1
  Some (Delivery from to)

-- [SLOT]
abbrev pub error_asked : List Service → List (List ℕ) → Option Happening
error_asked services [] = Some (Error None)
error_asked services (f ∷ fs) = do
  s ← only_slot services (f ∷ fs)
  Some (Error (Some s))

-- `death SLOT`, `message FROM TO`, `error [SLOT]` or `SLOT TYPE`
abbrev pub happening_asked : List Service → List ℕ → List (List ℕ) → Option Happening
happening_asked services f fs =
    if bytes_eq f (codes "death") then death_asked services fs
    else if bytes_eq f (codes "message") then delivery_asked services fs
    else if bytes_eq f (codes "error") then error_asked services fs
    else call_asked services f fs

abbrev pub way_asked : Bool → Option Happening → Option UntilAsked
way_asked is_back asked = do
  h ← asked
  Some (record { is_back = is_back; happening = h })

abbrev pub back_asked : List Service → List (List ℕ) → Option UntilAsked
back_asked services [] = None
back_asked services (f ∷ fs) = way_asked true (happening_asked services f fs)

-- `until` and what is looked for, on; or after `until back`, back
abbrev pub until_asked : List Service → List (List ℕ) → Option UntilAsked
until_asked services [] = None
until_asked services (f ∷ fs) =
    if bytes_eq f (codes "back") then back_asked services fs
    else way_asked false (happening_asked services f fs)
