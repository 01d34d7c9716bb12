-- THE END of a history: what is known of the world there (our own).
use Rattle.std.specs.Prelude.{ℕ, ◌-◌, ◌==◌, if◌then◌else◌, List, length, map, Option, slice_get}
use Rattle.std.specs.List.{range_with_len}
use Rattle.std.specs.Option.{option_map}
use Rattle.mx_machine.specs.Proc.declared.process.Process.{Process}
use Rattle.mx_machine.specs.Proc.TableState.{TableState, endpoint_of, process_at}
use Rattle.mx_machine.specs.Rest.{at_rest}
use Rattle.mx_machine.specs.Service.{Service}
use Rattle.mx_machine.specs.World.{World}
use Rattle.mx_print_report.specs.declared.doing.Naming.TheVariants.{Slots}
use Rattle.mx_print_report.specs.SlotDoing.{doing_of}
use Rattle.mx_respawn.specs.Respawn.{is_worn}
use Rattle.mx_why.specs.declared.seats.Seat.{Seat}
use Rattle.mx_why.specs.declared.seats.End.{End}

-- how often the service of a process may still be respawned
abbrev pub restarts_left : Process → Service → ℕ
restarts_left p v = if is_worn p v then 0 else v.terms.restarts - p.restarts_used

-- the slot of a service; partners are told by their slots
unfoldable pub seat_of : TableState → ℕ → Service → Seat
seat_of t s v = let p = process_at t s in record {
  name = v.name;
  endpoint = endpoint_of t s;
  doing = doing_of Slots t s p.state;
  traps = p.schedule.terms.masks.traps;
  sends = p.schedule.terms.masks.sends;
  alarm = p.alarm;
  restarts = restarts_left p v;
  is_bare = length v.program.text == 0;
}

-- a slot, if it has a service
abbrev pub seat_at : TableState → List Service → ℕ → Option Seat
seat_at t vs s = option_map (seat_of t s) (slice_get vs s)

unfoldable pub seats_of : TableState → List Service → List (Option Seat)
seats_of t vs = map (seat_at t vs) (range_with_len 0 32)

-- WHAT IS KNOWN of a world
abbrev pub end_of : World → End
end_of w = record {
  seats = seats_of w.table w.services;
  owners = w.table.devices.owners;
  uptime = w.table.uptime;
  at_rest = at_rest w;
}
