use Rattle.std.proofs.Common.{◌≡◌, ◌≤◌, ℕ, length, drop}
use Rattle.mx_ipc.specs.Proc.Frame.{frame}
use Rattle.mx_ipc.specs.Proc.Sound.{NoneComesHome}
use Rattle.mx_ipc.specs.Proc.TableState.{process_at}
use Rattle.mx_ipc.specs.Proc.declared.process.State.TheVariants.{Home}
use Rattle.mx_respawn.specs.Death.{table_after_freeing_all, receivers}
use Rattle.mx_respawn.proofs.death.wake_receivers.Given as goal

-- the later ones are left, and as they were
abbrev pub invariant-loop-other : goal.invariant-loop-other
invariant-loop-other l = record {
  told : table_after_freeing_all l.table (receivers l.slot l.other (drop l.other l.initial.table.slots)) ≡ table_after_freeing_all l.initial.table (receivers l.slot 0 l.initial.table.slots);
  later : (s : ℕ) → l.other ≤ s → process_at l.table s ≡ process_at l.initial.table s;
  kept : (s : ℕ) → (process_at l.initial.table s).state ≡ Home → process_at l.table s ≡ process_at l.initial.table s;
  settled : NoneComesHome l.initial.table l.table;
  frame : frame l.table ≡ frame l.initial.table;
  own : process_at l.table l.slot ≡ process_at l.initial.table l.slot;
  used : length l.table.slots ≡ length l.initial.table.slots;
  end : l.other-end ≡ length l.initial.table.slots;
}
