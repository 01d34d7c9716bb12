-- The parts of a request ("Debugging with GDB", "Remote Serial Protocol", "Overview" and "Packets").
use Rattle.std.specs.Prelude.{ℕ, ◌+◌, ◌==◌, if◌then◌else◌, List, length, take, drop, position, Option, Some, None, codes}
use Rattle.std.specs.Str.{bytes_eq}
use Rattle.mx_text.specs.Fields.{◌>>=◌}
use Rattle.mx_text.specs.NumberFields.{number_up_to}
use Rattle.mx_rsp.specs.declared.fields.Which.{Which}
use Rattle.mx_rsp.specs.declared.fields.Which.TheVariants.{All, Any, One}

-- what follows a word, if a text begins with it
abbrev pub after : List ℕ → List ℕ → Option (List ℕ)
after word text = if bytes_eq (take (length word) text) word then Some (drop (length word) text) else None

-- what stands before the first such byte, and what after it
abbrev pub cut : ℕ → List ℕ → Option (List ℕ × List ℕ)
cut mark text = do
  i ← position (λ b. b == mark) text
  Some (take i text, drop (i + 1) text)

-- A NUMBER: hexadecimal digits, of 32 bits at most
abbrev pub number : List ℕ → Option ℕ
number text = number_up_to 4294967295 16 text

-- two numbers, with a comma between them
abbrev pub two_numbers : List ℕ → Option (ℕ × ℕ)
two_numbers text = do
  parts ← cut 44 text
  a ← number parts.0
  n ← number parts.1
  Some (a, n)

-- all processes are -1, any one is 0
abbrev pub which_of : List ℕ → Option Which
which_of text = if bytes_eq text (codes "-1") then Some All else do
  n ← number text
  Some (if n == 0 then Any else One n)

-- a process, and after a dot its thread: each process has one
abbrev pub process_by : List ℕ → Option (List ℕ × List ℕ) → Option Which
process_by text None = which_of text
process_by text (Some parts) = do
  thread ← which_of parts.1
  which_of parts.0

abbrev pub who_by : List ℕ → Option (List ℕ) → Option Which
who_by text None = which_of text
who_by text (Some pair) = process_by pair (cut 46 pair)

-- WHOM a request is about: a thread, or p and a process
abbrev pub who_of : List ℕ → Option Which
who_of text = who_by text (after (codes "p") text)
