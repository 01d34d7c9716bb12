-- How a process is queued (our choice, after the book's 2.6).
use Rattle.std.specs.Prelude.{ℕ, ◌+◌, ◌-◌, ◌==◌, nat_lt, Bool, false, Option, Some, None, if◌then◌else◌}
use Rattle.mx_proc.specs.declared.process.Process.{Process}
use Rattle.mx_proc.specs.TableState.{TableState, process_at, table_with_first, table_with_last}

abbrev pub is_last_renewed : TableState → ℕ → Bool
is_last_renewed w s = is_slot w.renewed
  where
    is_slot : Option ℕ → Bool
    is_slot None = false
    is_slot (Some t) = t == s

-- the level after a spent quantum: one lower if this slot was also the last one renewed, else one higher, as far
-- as the process's terms allow it
abbrev pub next_level : Process → Bool → ℕ
next_level p again = if again then p.schedule.level + 1 else p.schedule.level - 1

-- with ticks left, to the front of its list; else with a new quantum, to the end of the list of the next level
unfoldable pub table_after_queueing : TableState → ℕ → TableState
table_after_queueing w s =
    let p = process_at w s in if nat_lt 0 p.schedule.ticks then table_with_first w s
    else table_with_last w s (next_level p (is_last_renewed w s))
