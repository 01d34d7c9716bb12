use Rattle.std.proofs.Common.{◌≡◌, ◌≤◌, take}
use Rattle.mx_app_gdb.specs.SymbolFiles.{folder_length}
use Rattle.mx_app_gdb.proofs.symbol_files.folder_length.Given as goal

-- the folder in the bytes so far
abbrev pub invariant-loop-place : goal.invariant-loop-place
invariant-loop-place l = (l.cut ≡ folder_length (take l.place l.file)) × (l.cut ≤ l.place)
