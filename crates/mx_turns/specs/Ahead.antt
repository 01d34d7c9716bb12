-- Trials that are made ahead, in the order of their positions, by several pairs (our own).
use Rattle.std.specs.Prelude.{◌≡◌, ◌<◌, ◌≤◌, ◌+◌, ◌-◌, ℕ, List, [], ◌∷◌, All, length}
use Rattle.std.specs.Borrow.{Bor}
use Rattle.mx_machine.specs.declared.history.Record.{Record}
use Rattle.mx_machine.specs.declared.config.Config.{Config}
use Rattle.mx_machine.specs.World.{World}
use Rattle.mx_turns.specs.declared.ahead.Ahead.{Ahead}
use Rattle.mx_turns.specs.declared.ahead.Told.{Told}
use Rattle.mx_turns.specs.declared.ahead.Tried.{Tried}
use Rattle.mx_turns.specs.declared.faulted_run.Range.{Range}
use Rattle.mx_turns.specs.declared.faulted_run.Sweep.{Sweep}
use Rattle.mx_turns.specs.declared.faults.FaultLine.{FaultLine}
use Rattle.mx_turns.specs.declared.pairs.Pair.{Pair}
use Rattle.mx_turns.specs.Findings.{findings_of}
use Rattle.mx_turns.specs.Sweep.{trial_text}
use Rattle.mx_turns.specs.Swept.{IsPair, IsSwept, run_in}

-- ---- what is told

-- WHAT POSITION k TELLS in a sweep of a machine that boots as this world: the text of its run with the fault, and the
-- findings of the runs with the fault and without it.
pub record IsTold (s : Sweep) (w : World) (k : ℕ) (t : Told) : Type 0 where
  pub text : t.text.items ≡ trial_text (run_in s w s.fault.now k)
  pub findings : t.findings ≡ findings_of (run_in s w s.fault.now k) (run_in s w [] k)

-- what positions in a row tell, of which k is the first
abbrev pub AreTold : Sweep → World → ℕ → List Told → Type 0
AreTold s w k [] = Unit {0}
AreTold s w k (t ∷ ts) = IsTold s w k t × AreTold s w (k + 1) ts

-- ---- pairs

-- A pair is of the machine that boots as this world, and can go along to position k: it isn't past it.
pub record IsBefore (s : Sweep) (w : World) (k : ℕ) (p : Pair) : Type 0 where
  pub pair : IsPair s.records.now p
  pub boot : p.along.kernel.boot ≡ w
  pub early : p.position ≤ k

-- a pair's copy is after the run with the fault at the position above k
abbrev pub IsAfter : Sweep → World → ℕ → Pair → Type 0
IsAfter s w k p = p.copy.kernel ≡ (run_in s w s.fault.now (k - 1)).kernel

-- there is a last pair, and it is so
abbrev pub LastIs : (Pair → Type 0) → List Pair → Type 0
LastIs is [] = ⊥
LastIs is (p ∷ []) = is p
LastIs is (p ∷ q ∷ ps) = LastIs is (q ∷ ps)

-- ---- positions that are tried

-- the sweep of these parts
abbrev pub sweep_of : Bor Config → ℕ → Bor (List Record) → Bor (List FaultLine) → Range → ℕ → Sweep
sweep_of config other records fault range bound =
    record { config = config; other = other; records = records; fault = fault; range = range; bound = bound }

-- Positions are a piece for these pairs: they are of the sweep's machine, and none is past the first position.
pub record IsPiece (s : Sweep) (w : World) (range : Range) (ps : List Pair) : Type 0 where
  pub swept : IsSwept s w
  pub some : 0 < length ps
  pub pairs : All (IsBefore s w range.from) ps
  pub order : range.from ≤ range.end
  pub within : range.end ≤ length s.records.now + 1

-- The positions from one to the one above another were tried: each tells what it tells, and the pairs can go on; the last
-- pair's copy made the last run, if there was one.
pub record AreTried (s : Sweep) (w : World) (from end : ℕ) (t : Tried) : Type 0 where
  pub told : AreTold s w from t.told.items
  pub all : from + length t.told.items ≡ end
  pub some : 0 < length t.pairs.items
  pub pairs : All (IsBefore s w end) t.pairs.items
  pub last : from < end → LastIs (IsAfter s w end) t.pairs.items

-- the world that the machines of trials boot as
abbrev pub boot_of : Ahead → World
boot_of a = a.boot.value.kernel.boot

-- the first position that isn't tried
abbrev pub untried : Ahead → ℕ
untried a = a.position + length a.told.items

-- TRIALS ARE MADE AHEAD: of the positions from the next one to the first that isn't tried it is there what each tells; and
-- the pairs can go on from there.
pub record IsAhead (s : Sweep) (a : Ahead) : Type 0 where
  pub swept : IsSwept s (boot_of a)
  pub told : AreTold s (boot_of a) a.position a.told.items
  pub within : untried a ≤ s.range.end
  pub history : s.range.end ≤ length s.records.now + 1
  pub some : 0 < length a.pairs.items
  pub pairs : All (IsBefore s (boot_of a) (untried a)) a.pairs.items
  pub last : s.range.from < untried a → LastIs (IsAfter s (boot_of a) (untried a)) a.pairs.items
  pub round : 0 < a.round
  pub most : 0 < a.most
