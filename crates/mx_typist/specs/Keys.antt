-- Which keys are commands (our own; the prefix Ctrl-A is that of screen(1)).
use Rattle.std.specs.Prelude.{◌==◌, ◌||◌, ◌&&◌, ◌+◌, ◌-◌, if◌then◌else◌, nat_lt, ℕ}
use Rattle.mx_typist.specs.declared.keys.Pending.{Pending}
use Rattle.mx_typist.specs.declared.keys.Pending.TheVariants.{Nothing, Command, Slot}
use Rattle.mx_typist.specs.declared.keys.Wanted.{Wanted}
use Rattle.mx_typist.specs.declared.keys.Wanted.TheVariants.{More, Key, Kill, Tick, Help, End, Unknown}

-- the slot of a key: 0 to 9, and a to v for 10 to 31
abbrev pub slot_wanted : ℕ → Wanted
slot_wanted k =
    if nat_lt 47 k && nat_lt k 58 then Kill (k - 48)
    else if nat_lt 96 k && nat_lt k 119 then Kill (k - 97 + 10)
    else Unknown

-- the command of a key after Ctrl-A: k (and then a slot) kills, t ticks, x ends, ? helps, a or Ctrl-A types a Ctrl-A
abbrev pub command_wanted : ℕ → Wanted
command_wanted k =
    if k == 107 then More
    else if k == 116 then Tick
    else if k == 120 then End
    else if k == 63 then Help
    else if (k == 97) || (k == 1) then Key 1
    else Unknown

-- WHAT A KEY ASKS FOR: that it is typed, unless it is Ctrl-A or part of a command
abbrev pub wanted_of : Pending → ℕ → Wanted
wanted_of Nothing k = if k == 1 then More else Key k
wanted_of Command k = command_wanted k
wanted_of Slot k = slot_wanted k

abbrev pub pending_after : Pending → ℕ → Pending
pending_after Nothing k = if k == 1 then Command else Nothing
pending_after Command k = if k == 107 then Slot else Nothing
pending_after Slot k = Nothing
