-- THE CONSOLE, of the bytes that are told of records (our own).
use Rattle.std.specs.Prelude.{◌≡◌, ℕ, ◌+◌, ◌==◌, if◌then◌else◌, List, [], ◌∷◌, ◌++◌, length, min, Option, None, option_to_list}
use Rattle.circular_buffer.specs.Buffer.{keep_last}
use Rattle.mx_proc.specs.Console.{ConsoleState}
use Rattle.mx_machine.specs.declared.history.Record.{Record}
use Rattle.mx_machine.specs.History.{events_of, events_of_history, world_after_events}
use Rattle.mx_machine.specs.World.{World}
use Rattle.mx_look.specs.declared.transition.Transition.{Transition}
use Rattle.mx_look_page.specs.Rows.{byte_part, byte_part_by}
use Rattle.mx_app_step.specs.Traces.{transition_of}

-- a console has the last 4,096 of its bytes, or all of them
abbrev pub HasLast : ConsoleState → Type 0
HasLast c = length c.kept ≡ min c.count 4096

-- the byte that is told of a record, if it wrote one: `console 0xH` in its trace, and `b` in its row of a page
abbrev pub told_byte : Transition → Option ℕ
told_byte x = if x.before.written == x.after.written then None else x.after.last_byte

-- those of records, of which the first has this number
abbrev pub told_bytes : World → ℕ → List Record → List ℕ
told_bytes w n [] = []
told_bytes w n (x ∷ xs) =
    option_to_list (told_byte (transition_of w n x))
    ++ told_bytes (world_after_events w (events_of x.actor x.event)) (n + 1) xs

-- a console with these bytes more
abbrev pub with_bytes : ConsoleState → List ℕ → ConsoleState
with_bytes c bytes = record { kept = keep_last 4096 (c.kept ++ bytes); count = c.count + length bytes }

-- THE BYTES GIVE THE CONSOLE: what records leave on it is what was there, and the bytes that are told of them
abbrev pub BytesGiveConsole : World → ℕ → List Record → Type 0
BytesGiveConsole w n xs =
    (world_after_events w (events_of_history xs)).table.devices.console
    ≡ with_bytes w.table.devices.console (told_bytes w n xs)

-- a row tells that byte
abbrev pub RowTellsByte : Transition → Type 0
RowTellsByte x = byte_part x ≡ byte_part_by (told_byte x)
