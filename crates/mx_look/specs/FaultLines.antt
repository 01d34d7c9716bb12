-- The line of a fault with which a process comes back (our own).
use Rattle.std.specs.Prelude.{ℕ, nat_lt, if◌then◌else◌, List, [], ◌++◌, codes, min, Option, Some, None}
use Rattle.std.specs.Fmt.{decimal}
use Rattle.mx_word.specs.Word.{bytes_in}
use Rattle.mx_machine.specs.declared.history.Recorded.{Recorded}
use Rattle.mx_machine.specs.declared.history.Recorded.TheVariants.{Back}
use Rattle.mx_insn_words.specs.Numbers.{eight_digits}
use Rattle.mx_look.specs.Code.{code_text}
use Rattle.mx_look.specs.declared.reasons.FaultReason.{FaultReason}
use Rattle.mx_look.specs.declared.reasons.FaultReason.TheVariants.{Outside, CodeEnd, Target, Forbidden, Other}
use Rattle.mx_look.specs.declared.faults.FaultGlance.{FaultGlance}
use Rattle.mx_look.specs.declared.transition.Transition.{Transition}
use Rattle.mx_look.specs.Transition.{fault_in}
use Rattle.mx_look.specs.Numbers.{margin}

-- ---- why

-- a limit as a number of 32 bits; no memory has a larger one
abbrev pub limit_number : ℕ → ℕ
limit_number limit = min limit 4294967295

-- an access that begins inside has its size
unfoldable pub size_text : ℕ → ℕ → ℕ → List ℕ
size_text at count limit = if nat_lt at limit then codes "+" ++ decimal count else []

unfoldable pub touched_text : ℕ → ℕ → ℕ → List ℕ
touched_text at count limit = codes ": " ++ eight_digits at ++ size_text at count limit

-- an access that isn't inside
unfoldable pub access_text : ℕ → ℕ → ℕ → List ℕ
access_text at count limit =
    touched_text at count limit ++ codes " is past the limit " ++ eight_digits (limit_number limit)

-- a target that isn't in the code
unfoldable pub target_text : ℕ → ℕ → List ℕ
target_text t limit =
    codes ": the target " ++ eight_digits t ++ codes " is past the code's limit " ++ eight_digits (limit_number limit)

unfoldable pub reason_text : FaultGlance → FaultReason → List ℕ
reason_text f (Outside a) = access_text a.at (bytes_in a.size) f.memory_limit
reason_text f CodeEnd = codes ": the code ends at " ++ eight_digits (limit_number f.code_limit)
reason_text f (Target t) = target_text t f.code_limit
reason_text f Forbidden = codes ": no process may do this"
reason_text f Other = []

-- ---- THE LINE

-- where: the code as a listing has it; and why
unfoldable pub fault_text : FaultGlance → List ℕ
fault_text f = code_text f.symbol f.part f.at ++ reason_text f f.reason

unfoldable pub faulted : Transition → FaultGlance → List ℕ
faulted x f = margin x ++ codes "at " ++ fault_text f ++ codes "\n"

abbrev pub faulted_if : Transition → Option FaultGlance → List ℕ
faulted_if x None = []
faulted_if x (Some f) = faulted x f

abbrev pub fault_line_by : Transition → Recorded → List ℕ
fault_line_by x (Back n) = faulted_if x (fault_in x.before x.actor)
fault_line_by x _ = []

unfoldable pub fault_line : Transition → List ℕ
fault_line x = fault_line_by x x.event
