-- A spool: the bytes that a machine has written to its console since boot (our own).
use Rattle.std.specs.Prelude.{◌≡◌, ◌≤◌, ◌++◌, ℕ, List, length}
use Rattle.mx_machine.specs.History.{BootAndHistory}
use Rattle.mx_spool.specs.Written.{console_of_history}

-- The bytes, and for how many there is room.
pub record SpoolView : Type 0 where
  pub bytes : List ℕ
  pub room : ℕ

-- THE SPOOL OF A KERNEL has the bytes that its history writes to the console, and room for a byte of each record that
-- the history may have.
pub record IsSpoolOf (k : BootAndHistory) (s : SpoolView) : Type 0 where
  pub bytes : s.bytes ≡ console_of_history k.boot k.history
  pub room : k.boot.capacity ≤ s.room

-- It is behind: the kernel's history writes a byte more than the spool has, or none.
pub record IsBehind (k : BootAndHistory) (s : SpoolView) : Type 0 where
  pub more : List ℕ
  pub few : length more ≤ 1
  pub bytes : console_of_history k.boot k.history ≡ s.bytes ++ more
  pub room : k.boot.capacity ≤ s.room
