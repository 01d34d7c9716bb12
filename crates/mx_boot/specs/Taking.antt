-- What a sink takes (our own).
use Rattle.std.specs.Prelude.{◌≡◌, ℕ, ◌==◌, ◌≤◌, Bool, true, List, ◌++◌, length, take, Result, Ok, Err}
use Rattle.mx_boot.specs.declared.sink.SinkFault.{SinkFault}

-- the answered number of the bytes were taken, in order; a sink has failed once it takes none
abbrev pub SinkTakes : List ℕ → List ℕ → Bool → List ℕ → Result ℕ SinkFault → Type 0
SinkTakes before after failed bytes (Ok n) = (n ≤ length bytes) × (after ≡ before ++ take n bytes) × (failed ≡ (n == 0))
SinkTakes before after failed bytes (Err e) = (after ≡ before) × (failed ≡ true)

-- Of these bytes all but the rest were taken, from their front on.
pub record IsTakenBut (before after bytes rest : List ℕ) : Type 0 where
  pub front : List ℕ
  pub parts : bytes ≡ front ++ rest
  pub taken : after ≡ before ++ front
