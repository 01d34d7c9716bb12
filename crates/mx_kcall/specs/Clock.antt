-- Interrupt lines and the clock (our choice).
use Rattle.std.specs.Prelude.{ℕ, ◌+◌, nat_le, Bool, false, List, [], ◌∷◌, Option, Some, None, if◌then◌else◌}
use Rattle.mx_respawn.specs.Proc.declared.process.Process.{Process}
use Rattle.mx_respawn.specs.Proc.declared.process.Source.TheVariants.{Hardware, Clock}
use Rattle.mx_respawn.specs.Proc.TableState.{TableState}
use Rattle.mx_respawn.specs.Proc.Serving.{with_line, with_alarm, with_tick}
use Rattle.mx_respawn.specs.Calls.{table_after_notifying}

-- a line is raised: its owner has its bit, and is notified by HARDWARE
abbrev pub table_after_line : TableState → ℕ → ℕ → TableState
table_after_line w line s = table_after_notifying (with_line w s line) Hardware s

-- an alarm is due once the uptime has reached it
abbrev pub is_due : ℕ → Option ℕ → Bool
is_due uptime None = false
is_due uptime (Some due) = nat_le due uptime

-- the slots, counted from n, whose alarms are due
abbrev pub due_slots : ℕ → ℕ → List Process → List ℕ
due_slots uptime n [] = []
due_slots uptime n (p ∷ ps) =
    if is_due uptime p.alarm then n ∷ due_slots uptime (n + 1) ps else due_slots uptime (n + 1) ps

-- an alarm rings: it is cleared, and CLOCK notifies
abbrev pub table_after_ring : TableState → ℕ → TableState
table_after_ring w s = table_after_notifying (with_alarm w s None) Clock s

abbrev pub table_after_rings : TableState → List ℕ → TableState
table_after_rings w [] = w
table_after_rings w (s ∷ slots) = table_after_rings (table_after_ring w s) slots

-- A TICK: the uptime is one more, and each alarm that is due rings, in slot order
unfoldable pub table_after_tick : TableState → TableState
table_after_tick w = let later = with_tick w in table_after_rings later (due_slots later.uptime 0 later.slots)
