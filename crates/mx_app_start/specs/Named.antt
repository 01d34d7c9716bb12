-- Files in memory (our own).
use Rattle.std.specs.Prelude.{◌≡◌, ℕ, if◌then◌else◌, List, [], ◌∷◌, Option, Some, None}
use Rattle.std.specs.Str.{bytes_eq}
use Rattle.std.specs.declared.io.ErrorKind.{ErrorKind}
use Rattle.std.specs.declared.io.ErrorKind.TheVariants.{NotFound, OutOfMemory}
use Rattle.mx_app_start.specs.declared.named.NamedFile.{NamedFile}

-- the bytes of the first file that has the name
abbrev pub bytes_named : List NamedFile → List ℕ → Option (List ℕ)
bytes_named [] name = None
bytes_named (f ∷ fs) name = if bytes_eq f.name.now name then Some f.bytes.now else bytes_named fs name

-- why no bytes are answered: no file has the name, or lack of memory for those of the one that has
abbrev pub IsAbsent : Option (List ℕ) → ErrorKind → Type 0
IsAbsent None kind = kind ≡ NotFound
IsAbsent (Some bytes) kind = kind ≡ OutOfMemory
