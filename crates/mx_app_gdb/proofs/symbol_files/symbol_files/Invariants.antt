use Rattle.std.proofs.Common.{◌≡◌, ℕ, Vec, Global, map, take}
use Rattle.mx_app_gdb.specs.Talks.{file_names}
use Rattle.mx_app_gdb.proofs.symbol_files.symbol_files.Given as goal

-- those of the lines so far
abbrev pub invariant-loop-line : goal.invariant-loop-line
invariant-loop-line l = map (λ (f : Vec ℕ Global). f.items) l.files.items ≡ file_names (take l.line-index l.lines)
