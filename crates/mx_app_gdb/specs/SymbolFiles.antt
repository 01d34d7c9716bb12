-- The names of the files that gdb reads symbols from (our own).
use Rattle.std.specs.Prelude.{ℕ, ◌+◌, ◌-◌, ◌==◌, if◌then◌else◌, List, [], ◌∷◌, ◌++◌, codes, drop, length, take}
use Rattle.std.specs.Str.{bytes_eq}

-- how many bytes of a name come up to its last stroke
abbrev pub folder_length : List ℕ → ℕ
folder_length [] = 0
folder_length (b ∷ bs) =
    if folder_length bs == 0 then (if b == 47 then 1 else 0) else folder_length bs + 1

-- a name without the end `.out`
abbrev pub stem : List ℕ → List ℕ
stem name =
    if bytes_eq (drop (length name - 4) name) (codes ".out") then take (length name - 4) name else name

-- THE FILE of a program: beside it, `out/NAME.gdb`
abbrev pub symbol_file : List ℕ → List ℕ
symbol_file name =
    take (folder_length name) name ++ codes "out/" ++ stem (drop (folder_length name) name) ++ codes ".gdb"
