use Rattle.std.proofs.Common.{◌≡◌, ◌≤◌, ℕ, length, drop}
use Rattle.mx_respawn.specs.Proc.Frame.{frame}
use Rattle.mx_respawn.specs.Proc.Sound.{NoneComesHome}
use Rattle.mx_respawn.specs.Proc.TableState.{process_at}
use Rattle.mx_kcall.specs.Clock.{due_slots, table_after_rings}
use Rattle.mx_kcall.proofs.clock.tick.Given as goal

-- the later ones are left, and their alarms are as they were
abbrev pub invariant-loop-slot : goal.invariant-loop-slot
invariant-loop-slot l = record {
  told : table_after_rings l.table (due_slots l.initial.table.uptime l.slot (drop l.slot l.initial.table.slots)) ≡ table_after_rings l.initial.table (due_slots l.initial.table.uptime 0 l.initial.table.slots);
  later : (s : ℕ) → l.slot ≤ s → (process_at l.table s).alarm ≡ (process_at l.initial.table s).alarm;
  frame : frame l.table ≡ frame l.initial.table;
  settled : NoneComesHome l.initial.table l.table;
  end : l.slot-end ≡ length l.initial.table.slots;
}
