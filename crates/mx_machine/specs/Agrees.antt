-- How a kernel's parts agree with its history, and what its calls answer.
use Rattle.std.specs.Prelude.{◌≡◌, ◌≤◌, ℕ, All, List, [], ◌∷◌, Some, None, length, slice_get}
use Rattle.mx_machine.specs.Stop.TheVariants.{Spent}
use Rattle.mx_machine.specs.Load.{IsLoadedFrom}
use Rattle.mx_machine.specs.Service.{Service}
use Rattle.mx_machine.specs.declared.events.Event.{Event}
use Rattle.mx_machine.specs.declared.events.Refusal.{Refusal}
use Rattle.mx_machine.specs.declared.history.Recorded.{Recorded}
use Rattle.mx_machine.specs.Boot.{world_at_boot_with}
use Rattle.mx_machine.specs.History.{BootAndHistory, AreAccepted, IsWritable, events_of_history, replay, with_record}
use Rattle.mx_machine.specs.Move.{event_refusal, move, world_after_event}
use Rattle.mx_machine.specs.Sound.{IsSound}
use Rattle.mx_machine.specs.World.{World, HeldProcess, actors, held_by}
use Rattle.mx_machine.specs.KernelState.{KernelState, kernel_state_of}

-- What a kernel's own replay lends has made no step, and was loaded from its slot's program.
pub record IsFresh (w : World) (l : HeldProcess) : Type 0 where
  pub count : l.out.count ≡ 0
  pub stop : l.out.stop ≡ Spent
  pub loaded : (v : Service) → slice_get w.services l.slot ≡ Some v → IsLoadedFrom l.out.image v.program

-- each event of a list finds a sound world
abbrev pub AreSound : World → List (ℕ × Event) → Type 0
AreSound w [] = Unit {0}
AreSound w (x ∷ xs) = IsSound w × AreSound (move w x.0 x.1).1 xs

-- a machine at its boot
abbrev pub IsBoot : World → Type 0
IsBoot w = w ≡ world_at_boot_with w.table.rules w.services (length w.cpus) w.others w.capacity

-- A kernel's state is the one that its history leads to. Each event of the history was accepted and found a
-- sound world, and there is room for more.
pub record IsAtReplay (d : KernelState) (room : ℕ) (k : BootAndHistory) : Type 0 where
  pub present : d ≡ kernel_state_of (replay k)
  pub records : d.records ≡ length k.history
  pub space : d.capacity ≤ room
  pub accepted : AreAccepted k.boot (events_of_history k.history)
  pub sound : AreSound k.boot (events_of_history k.history)
  pub few : length k.boot.cpus ≤ 8
  -- by actors of the machine, whose number stays
  pub as_many : actors (replay k) ≡ actors k.boot
  pub written : All (IsWritable (actors k.boot)) k.history
  pub fresh : (a : ℕ) (l : HeldProcess) → held_by (replay k) a ≡ Some l → IsFresh (replay k) l

-- An event was accepted: its record is one more, and the world is the table's.
pub record IsEventAccepted (k n : BootAndHistory) (a : ℕ) (e : Event) (r : Recorded) : Type 0 where
  pub accepted : event_refusal (replay k) a e ≡ None
  pub recorded : n ≡ with_record k a r
  pub world : replay n ≡ world_after_event (replay k) a e

-- it was refused, and nothing changed
abbrev pub IsEventRefused : BootAndHistory → BootAndHistory → ℕ → Event → Refusal → Type 0
IsEventRefused k n a e r = (event_refusal (replay k) a e ≡ Some r) × (n ≡ k)
