-- What always holds of a machine.
use Rattle.std.specs.Prelude.{◌≡◌, ◌≢◌, ◌≤◌, ◌+◌, ◌*◌, ◌^◌, ℕ, List, length, map, Option, Some, None, slice_get}
use Rattle.std.specs.Prelude.{slice_index_or}
use Rattle.mx_kcall.specs.Load.{IsLoadedFrom}
use Rattle.mx_kcall.specs.Proc.declared.process.State.TheVariants.{Home}
use Rattle.mx_kcall.specs.Proc.Frame.{loan_of}
use Rattle.mx_kcall.specs.Proc.Sound.{Sound}
use Rattle.mx_kcall.specs.Proc.TableState.{TableState, process_at}
use Rattle.mx_kcall.specs.Service.{Service}
use Rattle.mx_machine.specs.declared.holding.Lease.{Lease}
use Rattle.mx_machine.specs.World.{World, HeldProcess, held_by, out_count}

-- a lease: the slot and the budget of what a processor holds
abbrev pub lease_of : Option HeldProcess → Option Lease
lease_of None = None
lease_of (Some l) = Some (record { slot = l.slot; budget = l.out.budget })

-- the lease of processor a, if it has one
abbrev pub lease_at : List (Option Lease) → ℕ → Option Lease
lease_at leases a = slice_index_or leases a None

-- What always holds of a table, the leases of the processors, the services and the number of records.
pub record IsConsistent (t : TableState) (leases : List (Option Lease)) (services : List Service)
    (records capacity : ℕ) : Type 0 where
  -- for each process that is out (on a processor) one record is reserved, for its Back
  pub room : records + out_count leases ≤ capacity
  pub size : capacity ≤ 2 ^ 20
  -- each record is of one event, which made at most one tick, one byte on the console and 65,535 steps
  pub uptime : t.uptime ≤ records
  pub console : t.devices.console.count ≤ records
  pub steps : (s : ℕ) → (process_at t s).steps ≤ 65535 * records
  -- no process has the state Home, which it has only while the kernel makes an event
  pub settled : (s : ℕ) → (process_at t s).state ≢ Home
  -- the process of each lease's slot is out (doomed or not), and its ticks left are the lease's budget
  pub leased : (a : ℕ) (x : Lease) → lease_at leases a ≡ Some x → loan_of (process_at t x.slot) ≡ Some x.budget
  -- each process that is out has a lease: that of its processor
  pub lent : (s n : ℕ) → loan_of (process_at t s) ≡ Some n
      → (a : ℕ) × (lease_at leases a ≡ Some (record { slot = s; budget = n }))
  -- no two leases have one slot
  pub apart : (a b : ℕ) (x y : Lease) → lease_at leases a ≡ Some x → lease_at leases b ≡ Some y → x.slot ≡ y.slot
      → a ≡ b
  -- each slot has a service; and an image in the table was loaded from the program of its slot's service
  pub served : length services ≡ length t.slots
  pub loaded : (s : ℕ) (v : Service) → slice_get services s ≡ Some v → loan_of (process_at t s) ≡ None
      → IsLoadedFrom (process_at t s).image v.program

-- THE MACHINE IS SOUND: its table is sound, IsConsistent holds, and each process on a processor is within its
-- budget and was loaded from the program of its slot's service
pub record IsSound (w : World) : Type 0 where
  pub table : Sound w.table
  pub holds : IsConsistent w.table (map lease_of w.cpus) w.services w.records w.capacity
  pub counts : (a : ℕ) (l : HeldProcess) → held_by w a ≡ Some l → l.out.count ≤ l.out.budget
  pub loaded : (a : ℕ) (l : HeldProcess) (v : Service) → held_by w a ≡ Some l → slice_get w.services l.slot ≡ Some v
      → IsLoadedFrom l.out.image v.program
