-- Where a process on a processor faulted, and why (our own).
use Rattle.std.specs.Prelude.{ℕ, List, [], length, map, Option, Some, None, slice_get}
use Rattle.std.specs.List.{range_with_len}
use Rattle.mx_aout.specs.declared.program.Symbol.{Symbol}
use Rattle.mx_exec.specs.declared.image.Image.{Image}
use Rattle.mx_exec.specs.Image.{code_bytes}
use Rattle.mx_image.specs.declared.runs.Stop.{Stop}
use Rattle.mx_image.specs.declared.runs.Stop.TheVariants as stop
use Rattle.mx_look.specs.Code.{code_part}
use Rattle.mx_look.specs.Nearest.{nearest_symbol}
use Rattle.mx_look.specs.Reasons.{fault_reason}
use Rattle.mx_machine.specs.Service.{Service}
use Rattle.mx_machine.specs.World.{World, HeldProcess, held_by}
use Rattle.mx_look.specs.declared.faults.FaultGlance.{FaultGlance}

-- the symbols of a service's program
abbrev pub symbols_by : Option Service → List Symbol
symbols_by None = []
symbols_by (Some v) = v.program.symbols

-- the instruction is at EIP, since a fault changes nothing
unfoldable pub fault_seen : List Symbol → Image → ℕ → FaultGlance
fault_seen symbols m v = record {
  at = m.eip;
  symbol = nearest_symbol m.eip symbols;
  part = code_part m m.eip;
  reason = fault_reason m v;
  memory_limit = length m.memory;
  code_limit = length (code_bytes m);
}

abbrev pub fault_by_stop : List Symbol → Image → Stop → Option FaultGlance
fault_by_stop symbols m (stop.Fault v) = Some (fault_seen symbols m v)
fault_by_stop symbols m stop.Spent = None
fault_by_stop symbols m stop.Trap = None

abbrev pub fault_of : World → Option HeldProcess → Option FaultGlance
fault_of w None = None
fault_of w (Some l) = fault_by_stop (symbols_by (slice_get w.services l.slot)) l.out.image l.out.stop

-- THE FAULT of the process on a processor, if its last step ended with one
abbrev pub fault_glance : World → ℕ → Option FaultGlance
fault_glance w a = fault_of w (held_by w a)

unfoldable pub fault_glances : World → List (Option FaultGlance)
fault_glances w = map (fault_glance w) (range_with_len 0 8)
