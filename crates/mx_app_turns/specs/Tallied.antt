-- Positions that are tallied: the counts, and the block that is open.
use Rattle.std.specs.Prelude.{ℕ, ◌+◌, ◌<◌, ◌^◌, if◌then◌else◌, Bool, Some, None, is_some, Vec}
use Rattle.std.specs.Global.{Global}
use Rattle.std.specs.Option.{option_or}
use Rattle.mx_turns.specs.declared.trials.Findings.{Findings}
use Rattle.mx_app_turns.specs.declared.blocks.Block.{Block}
use Rattle.mx_app_turns.specs.declared.blocks.Total.{Total}
use Rattle.mx_app_turns.specs.declared.sweeping.Tally.{Tally}

abbrev pub one_if : Bool → ℕ
one_if b = if b then 1 else 0

-- the counts of one position
abbrev pub total_one : Findings → Total
total_one f =
    record {
      positions = 1;
      blocks = 1;
      alike = one_if f.is_alike;
      refused = one_if (is_some f.refusal);
      full = one_if f.is_full;
    }

-- the counts of both
abbrev pub both : Total → Total → Total
both t u = record {
  positions = t.positions + u.positions;
  blocks = t.blocks + u.blocks;
  alike = t.alike + u.alike;
  refused = t.refused + u.refused;
  full = t.full + u.full;
}

-- there are numbers for them
abbrev pub has_room : Total → Total → Type 0
has_room t u =
    (t.positions + u.positions < 2 ^ 64) × (t.blocks + u.blocks < 2 ^ 64) × (t.alike + u.alike < 2 ^ 64)
    × (t.refused + u.refused < 2 ^ 64) × (t.full + u.full < 2 ^ 64)

-- a block that goes on with the next
abbrev pub with_next : Block → Block → Block
with_next b next = record b { last = next.last; differs = option_or b.differs next.differs }

-- the tally of one position
abbrev pub tally_of : ℕ → Vec ℕ Global → Findings → Tally
tally_of k text f = record {
  block = record { first = k; last = k; text = text; differs = if f.is_alike then None else Some k };
  total = total_one f;
}
