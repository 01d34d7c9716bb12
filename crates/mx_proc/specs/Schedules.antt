-- Levels and quanta of processes.
use Rattle.std.specs.Prelude.{ℕ, min, max, ◌≤◌, ◌-◌}
use Rattle.std.proofs.Common.{arith, lit<, lit≤}
use Rattle.std.proofs.Math.Nat.{le-max_left, le_refl}
use Rattle.mx_proc.specs.declared.process.Schedule.{Schedule}
use Rattle.mx_proc.specs.declared.process.Terms.{Terms}

-- the level nearest to one of those that terms allow
abbrev pub nearest : Terms → ℕ → ℕ
nearest terms level = max terms.best (min 14 level)

pub nearest-low : (terms : Terms) (level : ℕ) → nearest terms level ≤ 14
nearest-low terms level = omega (arith, terms.lowest, terms.best_above)

pub nearest-best : (terms : Terms) (level : ℕ) → terms.best ≤ nearest terms level
nearest-best terms level = le-max_left terms.best (min 14 level)

-- less is left
pub fewer : (a b n : ℕ) → a ≤ b → a - n ≤ b
fewer a b n h = omega (arith, h)

-- a full quantum, in the list of the terms
abbrev pub first_schedule : Terms → Schedule
first_schedule terms =
    record {
      terms = terms;
      level = terms.level;
      ticks = terms.quantum;
      lowest = terms.lowest;
      best_above = terms.best_above;
      ticks_fit = le_refl terms.quantum;
    }

-- a full quantum, in the list nearest to a level
abbrev pub renewed_schedule : ℕ → Schedule → Schedule
renewed_schedule level s = record s {
  level = nearest s.terms level;
  ticks = s.terms.quantum;
  lowest = nearest-low s.terms level;
  best_above = nearest-best s.terms level;
  ticks_fit = le_refl s.terms.quantum;
}

-- fewer ticks are left
abbrev pub spent_schedule : ℕ → Schedule → Schedule
spent_schedule n s = record s { ticks = s.ticks - n; ticks_fit = fewer s.ticks s.terms.quantum n s.ticks_fit }

-- the schedule of nobody
abbrev pub no_schedule : Schedule
no_schedule = record {
  terms = record {
    masks = record { traps = 0; sends = 0; calls = 0 };
    level = 0;
    best = 0;
    quantum = 1;
    restarts = 0;
    lowest = lit≤ tt;
    best_above = lit≤ tt;
    some_ticks = lit< tt;
    quantum_fits = lit≤ tt;
    restarts_fit = lit≤ tt;
  };
  level = 0;
  ticks = 0;
  lowest = lit≤ tt;
  best_above = lit≤ tt;
  ticks_fit = lit≤ tt;
}
