-- What an event doesn't change in a table.
use Rattle.std.specs.Prelude.{◌≡◌, ◌≢◌, ◌≤◌, ◌+◌, ℕ, Some, None, length}
use Rattle.mx_ipc.specs.Proc.declared.process.State.TheVariants.{Home}
use Rattle.mx_exec.specs.Lasting.{lasting}
use Rattle.mx_ipc.specs.Proc.Frame.{fixed_of, loan_of}
use Rattle.mx_ipc.specs.Proc.TableState.{TableState, process_at}
use Rattle.mx_machine.specs.declared.holding.Out.{Out}

-- In all slots but one, what is fixed of them doesn't change, nor whether they are out.
pub record KeepsBut (s : ℕ) (t u : TableState) : Type 0 where
  pub fixed : (q : ℕ) → q ≢ s → fixed_of (process_at u q) ≡ fixed_of (process_at t q)
  pub loans : (q : ℕ) → q ≢ s → loan_of (process_at u q) ≡ loan_of (process_at t q)
  pub used : length u.slots ≡ length t.slots

-- no process is left in the kernel's hands
abbrev pub Settled : TableState → Type 0
Settled t = (s : ℕ) → (process_at t s).state ≢ Home

-- no other process is
abbrev pub SettledBut : ℕ → TableState → Type 0
SettledBut s t = (q : ℕ) → q ≢ s → (process_at t q).state ≢ Home

-- the console has at most one byte more
abbrev pub WritesAtMostOne : TableState → TableState → Type 0
WritesAtMostOne t u = u.devices.console.count ≤ t.devices.console.count + 1

-- A slot's process was sent out.
pub record IsSent (t u : TableState) (s : ℕ) : Type 0 where
  pub others : KeepsBut s t u
  pub loan : loan_of (process_at u s) ≡ Some (process_at t s).schedule.ticks
  pub steps : (process_at u s).steps ≡ (process_at t s).steps
  pub settled : Settled t → Settled u
  pub uptime : u.uptime ≡ t.uptime
  pub devices : u.devices ≡ t.devices

-- A slot's process has come back.
pub record IsReturned (t u : TableState) (s : ℕ) (o : Out) : Type 0 where
  pub others : KeepsBut s t u
  pub loan : loan_of (process_at u s) ≡ None
  pub steps : (process_at u s).steps ≡ (process_at t s).steps + o.count
  pub lasting : lasting (process_at u s).image ≡ lasting o.image
  pub settled : Settled t → Settled u
  pub uptime : u.uptime ≡ t.uptime
  pub console : WritesAtMostOne t u
