use Rattle.std.proofs.Common.{◌≡◌, ℕ, ◌+◌, ◌++◌, List, length, string_bytes}
use Rattle.mx_dis.specs.Listing.{IsListing}
use Rattle.mx_dis.proofs.listing.list.Given as goal

-- the rest is where the lines end, and whatever lists it completes them
abbrev pub invariant-loop-rest : goal.invariant-loop-rest
invariant-loop-rest l = record {
  place : l.at + length l.rest ≡ length l.program.text;
  completes : (more : List ℕ) → IsListing l.at l.rest more → IsListing 0 l.program.text (string_bytes l.out ++ more);
}

abbrev pub decreases-loop-rest : goal.decreases-loop-rest
decreases-loop-rest l = length l.rest
