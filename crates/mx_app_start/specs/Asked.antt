-- What a reader was asked for (our own).
use Rattle.std.specs.Prelude.{ℕ, Bool, if◌then◌else◌, List, map, Option, Some, None, Result, Ok, Err, [], ◌∷◌}
use Rattle.std.specs.declared.io.ErrorKind.{ErrorKind}
use Rattle.mx_app_start.specs.declared.noted.Noted.{Noted}

-- A file's name, and the bytes that were answered, or why there are none.
pub record Asked : Type 0 where
  pub name : List ℕ
  pub answer : Result (List ℕ) ErrorKind

-- a file's bytes were given
abbrev pub file_given : List ℕ → List ℕ → Asked
file_given name bytes = record { name = name; answer = Ok bytes }

-- or it is missed
abbrev pub file_missed : List ℕ → ErrorKind → Asked
file_missed name kind = record { name = name; answer = Err kind }

-- ---- what is remembered, byte by byte

abbrev pub noted_bytes : Noted ℕ → List ℕ
noted_bytes noted = noted.items

abbrev pub answer_of : Result (Noted ℕ) ErrorKind → Result (List ℕ) ErrorKind
answer_of (Ok bytes) = Ok (noted_bytes bytes)
answer_of (Err kind) = Err kind

abbrev pub asked_of : Noted ℕ × Result (Noted ℕ) ErrorKind → Asked
asked_of p = record { name = noted_bytes p.0; answer = answer_of p.1 }

abbrev pub asked_in : List (Noted ℕ × Result (Noted ℕ) ErrorKind) → List Asked
asked_in answers = map asked_of answers

-- ---- lines that were typed, and ends of the input

abbrev pub line_in : Option (Noted ℕ) → Option (List ℕ)
line_in None = None
line_in (Some line) = Some (noted_bytes line)

abbrev pub lines_in : List (Option (Noted ℕ)) → List (Option (List ℕ))
lines_in lines = map line_in lines

-- what is remembered of an answer: the line, or that the input ends
abbrev pub line_or_end : Bool → List ℕ → Option (List ℕ)
line_or_end more line = if more then Some line else None

-- and of a byte, which is as a line of it alone
abbrev pub byte_line : Option ℕ → Option (List ℕ)
byte_line None = None
byte_line (Some b) = Some (b ∷ [])
