-- What a writer of files was given to write (our own).
use Rattle.std.specs.Prelude.{◌≡◌, ℕ, List, map, Option, Some, None, Result, Ok, Err, string_bytes}
use Rattle.std.specs.declared.io.ErrorKind.{ErrorKind}
use Rattle.std.specs.declared.io.ErrorKind.TheVariants.{OutOfMemory}
use Rattle.mx_app_start.specs.declared.noted.Noted.{Noted}
use Rattle.mx_app_start.specs.Asked.{noted_bytes}
use Rattle.mx_app_start.specs.declared.memory.KeptFile.{KeptFile}

-- A file's name and its bytes, and that it was written, or why it wasn't.
pub record Written : Type 0 where
  pub name : List ℕ
  pub bytes : List ℕ
  pub answer : Result (Unit {0}) ErrorKind

-- the file was written
abbrev pub kept : List ℕ → List ℕ → Written
kept name bytes = record { name = name; bytes = bytes; answer = Ok tt }

-- or it wasn't
abbrev pub unkept : List ℕ → List ℕ → ErrorKind → Written
unkept name bytes kind = record { name = name; bytes = bytes; answer = Err kind }

-- ---- what is remembered, byte by byte

abbrev pub written_of : (Noted ℕ × Noted ℕ) × Result (Unit {0}) ErrorKind → Written
written_of p = record { name = noted_bytes p.0.0; bytes = noted_bytes p.0.1; answer = p.1 }

abbrev pub written_in : List ((Noted ℕ × Noted ℕ) × Result (Unit {0}) ErrorKind) → List Written
written_in writes = map written_of writes

-- ---- files in memory

-- names and bytes
abbrev pub files_of : List KeptFile → List (List ℕ × List ℕ)
files_of files = map (λ (f : KeptFile). (string_bytes f.name, f.bytes.items)) files

-- why a writer keeps no file: what it answers to each, or lack of memory
abbrev pub IsUnkept : Option ErrorKind → ErrorKind → Type 0
IsUnkept (Some refusal) kind = kind ≡ refusal
IsUnkept None kind = kind ≡ OutOfMemory
