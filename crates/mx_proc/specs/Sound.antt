-- What always holds of a table.
use Rattle.std.specs.Prelude.{ℕ, ◌+◌, ◌<◌, ◌^◌, ◌≡◌, ◌≤◌, ◌==◌, ◌≢◌, true, List, [], length, None, IfSome}
use Rattle.std.specs.Prelude.{slice_index_or, if◌then◌else◌}
use Rattle.mx_proc.specs.declared.process.Process.{Process}
use Rattle.mx_proc.specs.declared.process.State.TheVariants.{Home}
use Rattle.mx_proc.specs.Queues.{tally, times, list_at}
use Rattle.mx_proc.specs.States.{is_ready, is_sending, is_blocked}
use Rattle.mx_proc.specs.Waits.{sends_of, IsPair, Acyclic}
use Rattle.mx_proc.specs.TableState.{TableState, process_at}

-- how often a process belongs in the list of a level
abbrev pub belongs : Process → ℕ → ℕ
belongs p level = if is_ready p.state then tally (p.schedule.level == level) else 0

-- the 36 bytes at the buffer lie inside
abbrev pub HasBuffer : Process → Type 0
HasBuffer p = p.image.regs.ebx + 36 ≤ length p.image.memory

-- What holds of each process by itself, at an uptime.
pub record IsProcess (uptime : ℕ) (p : Process) : Type 0 where
  pub generation : p.generation < 2 ^ 20
  pub pending : length p.pending ≡ 34
  pub windows : length p.windows ≡ 32
  -- an alarm rings in fewer than 2^32 ticks
  pub alarm : IfSome p.alarm (λ due. due < uptime + 2 ^ 32)
  -- who sends or receives has its buffer inside
  pub buffer : is_blocked p.state ≡ true → HasBuffer p

-- What holds of a slot and the queues.
pub record Stands (p : Process) (ready : List (List ℕ)) (waits : List (ℕ × ℕ)) (uptime slot : ℕ) : Type 0 where
  -- a ready process is in the list of its level, once, and no other process in any
  pub listed : (level : ℕ) → times slot (list_at ready level) ≡ belongs p level
  -- a sending or calling process is among the blocked sends, once, and no other process is
  pub waiting : sends_of slot waits ≡ tally (is_sending p.state)
  pub process : IsProcess uptime p

-- The table is sound.
pub record Sound (w : TableState) : Type 0 where
  pub few : length w.slots ≤ 32
  pub lists : length w.ready ≡ 16
  pub idle : list_at w.ready 15 ≡ []
  pub each : (slot : ℕ) → Stands (process_at w slot) w.ready w.waits w.uptime slot
  -- who is sent to has a slot, and no chain of blocked sends leads back
  pub named : (p q : ℕ) → IsPair w.waits p q → q < length w.slots
  pub acyclic : Acyclic w.waits
  -- who owns a line has a slot
  pub lines : length w.devices.owners ≡ 16
  pub owned : (line : ℕ) → IfSome (slice_index_or w.devices.owners line None) (λ s. s < length w.slots)

-- who is at home was so before
abbrev pub NoneComesHome : TableState → TableState → Type 0
NoneComesHome w n = (s : ℕ) → (process_at w s).state ≢ Home → (process_at n s).state ≢ Home
