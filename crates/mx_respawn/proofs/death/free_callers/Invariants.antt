use Rattle.std.proofs.Common.{◌≡◌, ℕ, false, length}
use Rattle.mx_ipc.specs.Proc.Frame.{frame}
use Rattle.mx_ipc.specs.Proc.Sound.{NoneComesHome}
use Rattle.mx_ipc.specs.Proc.States.{is_sending}
use Rattle.mx_ipc.specs.Proc.TableState.{process_at}
use Rattle.mx_respawn.specs.Death.{table_after_freeing_all, callers, receives_from_alone}
use Rattle.mx_respawn.proofs.death.free_callers.Given as goal

-- those that still wait are left
abbrev pub invariant-loop-from : goal.invariant-loop-from
invariant-loop-from l = record {
  told : table_after_freeing_all l.table (callers l.slot l.table.waits) ≡ table_after_freeing_all l.initial.table (callers l.slot l.initial.table.waits);
  frame : frame l.table ≡ frame l.initial.table;
  settled : NoneComesHome l.initial.table l.table;
  used : length l.table.slots ≡ length l.initial.table.slots;
  kept : (t : ℕ) → is_sending (process_at l.initial.table t).state ≡ false → process_at l.table t ≡ process_at l.initial.table t;
  named : (t : ℕ) → receives_from_alone (process_at l.table t).state l.slot ≡ receives_from_alone (process_at l.initial.table t).state l.slot;
}

abbrev pub decreases-loop-from : goal.decreases-loop-from
decreases-loop-from l = length l.table.waits
