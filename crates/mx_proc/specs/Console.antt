-- The console: its last bytes, and the count of all that was written.
use Rattle.std.specs.Prelude.{ℕ, List, []}

pub record ConsoleState : Type 0 where
  pub kept : List ℕ
  pub count : ℕ

abbrev pub empty_console : ConsoleState
empty_console = record { kept = []; count = 0 }
