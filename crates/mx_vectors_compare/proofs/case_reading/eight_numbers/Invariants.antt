use Rattle.std.proofs.Common.{◌≡◌, length, List, [], ℕ, Bor}
use Rattle.mx_vectors_compare.proofs.Numbers.{FirstNumbers}
use Rattle.mx_vectors_compare.proofs.case_reading.eight_numbers.Given as goal

abbrev pub nothing : Bor (List ℕ)
nothing = record { ref_ptr = (0, 0); now = [] }

abbrev pub invariant-loop-at : goal.invariant-loop-at
invariant-loop-at l = record { eight : length l.numbers ≡ 8; first : FirstNumbers l.at l.words nothing l.numbers }
