-- Numbers and results, as a trace has them (our own; the names are those of MINIX's errno.h and com.h).
use Rattle.std.specs.Prelude.{ℕ, zero, suc, ◌==◌, if◌then◌else◌, List, [], ◌∷◌, ◌++◌, codes, find, Option, Some, None}
use Rattle.std.specs.List.{flat_map}
use Rattle.std.specs.Fmt.{decimal, signed_decimal}
use Rattle.std.specs.Int.{w32, cast_signed}
use Rattle.mx_look.specs.declared.transition.Transition.{Transition}
use Rattle.mx_proc.specs.Errors.{errno_bits}
use Rattle.mx_proc.specs.declared.errors.Errno.{Errno}
use Rattle.mx_proc.specs.declared.errors.Errno.TheVariants.{NotPermitted, BadAddress, Invalid, Locked, BadEndpoint, Denied, Dead, NotReady, BadRequest}

-- a record's number, before a line of what came of it
unfoldable pub margin : Transition → List ℕ
margin x = decimal x.number ++ codes "   "

-- numbers, each after a space
abbrev pub spaced_numbers : List ℕ → List ℕ
spaced_numbers xs = flat_map (λ x. 32 ∷ decimal x) xs

-- a number, of which that many after it are used
abbrev pub used_before : ℕ → ℕ → ℕ
used_before x zero = if x == 0 then 0 else 1
used_before x (suc n) = suc (suc n)

-- how many there are without the zeros at the end
abbrev pub used_count : List ℕ → ℕ
used_count [] = 0
used_count (x ∷ xs) = used_before x (used_count xs)

abbrev pub errnos : List Errno
errnos = NotPermitted ∷ BadAddress ∷ Invalid ∷ Locked ∷ BadEndpoint ∷ Denied ∷ Dead ∷ NotReady ∷ BadRequest ∷ []

-- the error that a result is
unfoldable pub errno_of : ℕ → Option Errno
errno_of r = find (λ e. errno_bits e == r) errnos

-- the name of an error, after a space
abbrev pub errno_name : Errno → List ℕ
errno_name NotPermitted = codes " EPERM"
errno_name BadAddress = codes " EFAULT"
errno_name Invalid = codes " EINVAL"
errno_name Locked = codes " ELOCKED"
errno_name BadEndpoint = codes " EBADSRCDST"
errno_name Denied = codes " ECALLDENIED"
errno_name Dead = codes " EDEADDST"
errno_name NotReady = codes " ENOTREADY"
errno_name BadRequest = codes " EBADREQUEST"

abbrev pub name_of_errno : Option Errno → List ℕ
name_of_errno None = []
name_of_errno (Some e) = errno_name e

-- the name of a result, after a space
unfoldable pub result_name : ℕ → List ℕ
result_name r = if r == 0 then codes " OK" else name_of_errno (errno_of r)

-- A RESULT with its sign, and its name
abbrev pub result_text : ℕ → List ℕ
result_text r = signed_decimal (cast_signed w32 r) ++ result_name r
