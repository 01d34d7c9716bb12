-- The bytes of a watch, as they lie in a memory (our own).
use Rattle.std.specs.Prelude.{ℕ, ◌-◌, ◌^◌, List, [], drop, min, take, Option, Some, None}
use Rattle.mx_exec.specs.declared.image.Image.{Image}
use Rattle.mx_machine.specs.World.{World}
use Rattle.mx_print_answers.specs.Slots.{image_in}
use Rattle.mx_app_look.specs.declared.watches.Watch.{Watch}

abbrev pub memory_of : Option Image → List ℕ
memory_of None = []
memory_of (Some m) = m.memory

-- the memory of a slot's process, where that is
abbrev pub memory_in : World → ℕ → List ℕ
memory_in w s = memory_of (image_in w s)

-- how many addresses a watch has: after the last one of 32 bits is none
abbrev pub span : Watch → ℕ
span x = min x.count (2 ^ 32 - x.address)

-- THE BYTES of a watch in a memory, as far as that goes
abbrev pub range_in : List ℕ → Watch → List ℕ
range_in bytes x = take (span x) (drop x.address bytes)

-- a watch, and its bytes as they were seen
pub record Kept : Type 0 where
  pub watch : Watch
  pub bytes : List ℕ
