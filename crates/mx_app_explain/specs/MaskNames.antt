-- Masks that are written with names: the number that they are (our own; the names are those of the papers' tables of
-- traps and kernel calls).
use Rattle.std.specs.Prelude.{ℕ, ◌+◌, ◌-◌, ◌^◌, ◌&&◌, nat_lt, Bool, false, if◌then◌else◌, List, [], ◌∷◌, codes, length, Option, Some, None}
use Rattle.std.specs.List.{slice_split}
use Rattle.std.specs.Option.{option_map}
use Rattle.std.specs.Str.{bytes_eq, is_utf8}
use Rattle.mx_boot.specs.Items.{is_byte, said_in}
use Rattle.mx_look.specs.KernelCalls.{request_type}
use Rattle.mx_text.specs.Fields.{◌>>=◌}
use Rattle.mx_word.specs.Bits.{has_bit}
use Rattle.mx_app_explain.specs.Hints.{mask_told}
use Rattle.mx_app_explain.specs.declared.config_field.Key.{Key}
use Rattle.mx_app_explain.specs.declared.config_field.Key.TheVariants as keys

abbrev pub trap_bit : List ℕ → Option ℕ
trap_bit name =
    if bytes_eq name (codes "SEND") then Some 1 else
    if bytes_eq name (codes "RECEIVE") then Some 2 else
    if bytes_eq name (codes "SENDREC") then Some 3 else
    if bytes_eq name (codes "NOTIFY") then Some 4 else
    None

-- the first call's bit is 0
abbrev pub call_bit : List ℕ → Option ℕ
call_bit name = option_map (λ kind. kind - 1536) (request_type name)

-- a line of a configuration is a service's, and that of this name
abbrev pub is_service : List (List ℕ) → Bool
is_service [] = false
is_service (w ∷ ws) = bytes_eq w (codes "service")

abbrev pub has_name : List ℕ → List (List ℕ) → Bool
has_name name (w ∷ own ∷ ws) = bytes_eq own name
has_name name ws = false

-- the slot of the service of this name, if the first of these lines has this slot
abbrev pub service_bit : List (List ℕ) → ℕ → List ℕ → Option ℕ
service_bit [] slot name = None
service_bit (l ∷ ls) slot name =
    if is_service (said_in l) && nat_lt slot 32
    then (if has_name name (said_in l) then Some slot else service_bit ls (slot + 1) name)
    else service_bit ls slot name

-- the bit of a name in a mask of a configuration of these lines
abbrev pub bit_named : List (List ℕ) → Key → List ℕ → Option ℕ
bit_named ls keys.Traps name = trap_bit name
bit_named ls keys.Send name = service_bit ls 0 name
bit_named ls keys.Calls name = call_bit name
bit_named ls key name = None

-- the names between plus signs
abbrev pub is_plus : ℕ → Bool
is_plus = is_byte 43

abbrev pub names_in : List ℕ → List (List ℕ)
names_in word = slice_split is_plus word

abbrev pub with_bit : ℕ → ℕ → ℕ
with_bit mask bit = if has_bit mask bit then mask else mask + 2 ^ bit

-- a mask, and the bits of these names
abbrev pub with_names : List (List ℕ) → Key → ℕ → List (List ℕ) → Option ℕ
with_names ls key mask [] = Some mask
with_names ls key mask (name ∷ names) = do
  bit ← bit_named ls key name
  with_names ls key (with_bit mask bit) names

-- of 32 names at most
abbrev pub mask_of_names : List (List ℕ) → Key → List ℕ → Option ℕ
mask_of_names ls key word =
    if nat_lt 32 (length (names_in word)) then None else with_names ls key 0 (names_in word)

abbrev pub mask_if : List ℕ → Option ℕ → List ℕ
mask_if word None = []
mask_if word (Some mask) = mask_told word mask

-- what is added to what is wanted of a mask: the number that its names are
abbrev pub mask_hint : List (List ℕ) → Key → List ℕ → List ℕ
mask_hint ls key word = if is_utf8 word then mask_if word (mask_of_names ls key word) else []
