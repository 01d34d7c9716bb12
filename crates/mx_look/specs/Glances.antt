-- A GLANCE at a world: all that is looked at to find out what an event did (our own).
use Rattle.std.specs.Prelude.{ℕ, List, length, map, Option, slice_get}
use Rattle.std.specs.List.{range_with_len}
use Rattle.std.specs.Option.{option_map}
use Rattle.mx_proc.specs.TableState.{TableState, process_at, endpoint_of}
use Rattle.mx_print_report.specs.declared.doing.Naming.TheVariants.{Endpoints}
use Rattle.mx_print_report.specs.SlotDoing.{doing_of}
use Rattle.mx_machine.specs.Service.{Service}
use Rattle.mx_machine.specs.World.{World, HeldProcess, held_by}
use Rattle.mx_look.specs.declared.slot_glances.SlotGlance.{SlotGlance}
use Rattle.mx_look.specs.declared.glance.CpuGlance.{CpuGlance}
use Rattle.mx_look.specs.declared.glance.Glance.{Glance}
use Rattle.mx_look.specs.Faults.{fault_glances}
use Rattle.mx_look.specs.Images.{image_glance}
use Rattle.mx_look.specs.Kept.{last_byte, latest_deliveries}

-- the slot of a service
unfoldable pub glance_of_slot : TableState → ℕ → Service → SlotGlance
glance_of_slot t s v = let p = process_at t s in record {
  name = v.name;
  endpoint = endpoint_of t s;
  traps = p.schedule.terms.masks.traps;
  doing = doing_of Endpoints t s p.state;
  level = p.schedule.level;
  ticks = p.schedule.ticks;
  pending = p.pending;
  lines = p.lines;
  alarm = p.alarm;
  image = image_glance p.image;
}

-- a slot, if it has a service
abbrev pub slot_glance : TableState → List Service → ℕ → Option SlotGlance
slot_glance t vs s = option_map (glance_of_slot t s) (slice_get vs s)

unfoldable pub slot_glances : TableState → List Service → List (Option SlotGlance)
slot_glances t vs = map (slot_glance t vs) (range_with_len 0 32)

-- a process on a processor
unfoldable pub held_glance : HeldProcess → CpuGlance
held_glance l = record {
  slot = l.slot;
  budget = l.out.budget;
  count = l.out.count;
  stop = l.out.stop;
  image = image_glance l.out.image;
}

abbrev pub cpu_glance : World → ℕ → Option CpuGlance
cpu_glance w a = option_map held_glance (held_by w a)

unfoldable pub cpu_glances : World → List (Option CpuGlance)
cpu_glances w = map (cpu_glance w) (range_with_len 0 8)

abbrev pub glance_of : World → Glance
glance_of w = record {
  slots = slot_glances w.table w.services;
  cpus = cpu_glances w;
  faults = fault_glances w;
  rules = w.table.rules;
  owners = w.table.devices.owners;
  uptime = w.table.uptime;
  written = w.table.devices.console.count;
  last_byte = last_byte w.table.devices.console;
  deliveries = latest_deliveries w.table.deliveries (length w.services);
}
