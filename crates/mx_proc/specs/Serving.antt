-- What death, kernel calls, interrupt lines and the clock change of a table.
use Rattle.std.specs.Prelude.{ℕ, ◌+◌, ◌^◌, ◌++◌, ◌∷◌, [], ◌==◌, false, map, List, Option, Some, None, if◌then◌else◌}
use Rattle.std.specs.Prelude.{slice_set, replicate, bit_or}
use Rattle.circular_buffer.specs.Buffer.{keep_last}
use Rattle.mx_mem.specs.Segment.{with_bytes_at, part}
use Rattle.mx_proc.specs.declared.process.Process.{Process}
use Rattle.mx_proc.specs.declared.process.State.TheVariants.{Down}
use Rattle.mx_proc.specs.declared.process.DeathCause.{DeathCause}
use Rattle.mx_proc.specs.declared.process.Source.TheVariants.{Slot}
use Rattle.mx_proc.specs.declared.windows.Window.{Window}
use Rattle.mx_proc.specs.Partners.{order_of_source}
use Rattle.mx_proc.specs.TableState.{TableState, process_at, with_process, with_memory, memory_at}

-- ---- death

-- a process without the pending bit of a slot, and without the window for it
abbrev pub without_bit_of : ℕ → Process → Process
without_bit_of s p =
    record p { pending = slice_set p.pending (order_of_source (Slot s)) false; windows = slice_set p.windows s None }

-- an owner, unless it is this slot
abbrev pub owner_but : ℕ → Option ℕ → Option ℕ
owner_but s None = None
owner_but s (Some t) = if t == s then None else Some t

-- nobody has a bit of a slot or a window for it, and no line is its
abbrev pub table_after_forgetting : TableState → ℕ → TableState
table_after_forgetting w s = record w {
  slots = map (without_bit_of s) w.slots;
  devices = record w.devices { owners = map (owner_but s) w.devices.owners };
}

-- a process is down, with nothing pending and no windows
abbrev pub table_after_burial : TableState → ℕ → DeathCause → TableState
table_after_burial w s cause =
    with_process w s
    (record (process_at w s)
    { state = Down cause; pending = replicate 34 false; lines = 0; alarm = None; windows = replicate 32 None })

-- ---- windows

-- what the process of one slot (the second) may use of another's memory is this now
abbrev pub with_window : TableState → ℕ → ℕ → Option Window → TableState
with_window w s t window =
    let p = process_at w s in with_process w s (record p { windows = slice_set p.windows t window })

-- ---- alarms, lines and the clock

abbrev pub with_alarm : TableState → ℕ → Option ℕ → TableState
with_alarm w s due = with_process w s (record (process_at w s) { alarm = due })

-- bit l is line l
abbrev pub with_line : TableState → ℕ → ℕ → TableState
with_line w s line = let p = process_at w s in with_process w s (record p { lines = bit_or p.lines (2 ^ line) })

abbrev pub with_owner : TableState → ℕ → Option ℕ → TableState
with_owner w line owner = record w { devices = record w.devices { owners = slice_set w.devices.owners line owner } }

-- one tick more
abbrev pub with_tick : TableState → TableState
with_tick w = record w { uptime = w.uptime + 1 }

-- ---- registers, console, copies

abbrev pub with_device_register : TableState → ℕ → ℕ → TableState
with_device_register w register value =
    record w { devices = record w.devices { registers = slice_set w.devices.registers register value } }

-- one byte more on the console
abbrev pub with_console_byte : TableState → ℕ → TableState
with_console_byte w byte =
    let c = w.devices.console in
    record w {
      devices = record w.devices
          { console = record { kept = keep_last 4096 (c.kept ++ byte ∷ []); count = c.count + 1 } };
    }

-- bytes of one process over those of another or its own, as if the source were read whole first
abbrev pub with_copy : TableState → ℕ → ℕ → ℕ → ℕ → ℕ → TableState
with_copy w from at to place count =
    with_memory w to (with_bytes_at (memory_at w to) place (part (memory_at w from) at count))

-- a process with bytes copied to a place
abbrev pub process_after_copy : Process → ℕ → List ℕ → Process
process_after_copy p place bytes =
    record p { image = record p.image { memory = with_bytes_at p.image.memory place bytes } }
