-- What the record before did (our own).
use Rattle.std.specs.Prelude.{ℕ, zero, suc, ◌+◌, ◌-◌, ◌%◌, ◌^◌, List, codes, Option, Some, None, slice_get}
use Rattle.mx_look.specs.Glances.{glance_of}
use Rattle.mx_look.specs.declared.transition.Transition.{Transition as Seen}
use Rattle.mx_look.specs.Trace.{record_text}
use Rattle.mx_machine.specs.declared.history.Record.{Record}
use Rattle.mx_machine.specs.World.{World}
use Rattle.mx_walk.specs.Positions.{steps_in, world_at}
use Rattle.mx_walk.specs.Walks.{Walk}

-- record n + 1: it is looked at after its steps, and after its own event. Its number is one of 32 bits
abbrev pub step_before : World → List Record → ℕ → Record → Seen
step_before boot records n x = record {
  number = (n + 1) % 2 ^ 32;
  before = glance_of (world_at boot records (record { records = n; steps = steps_in x.event }));
  actor = x.actor;
  event = x.event;
  after = glance_of (world_at boot records (record { records = n + 1; steps = 0 }));
}

abbrev pub why_by : Walk → ℕ → Option Record → List ℕ
why_by k n None = codes "boot\n"
why_by k n (Some x) = record_text (step_before k.boot k.records n x)

abbrev pub record_before : List Record → ℕ → Option Record
record_before records zero = None
record_before records (suc n) = slice_get records n

-- WHY the world is as it is: what the record before did, or that the machine booted
abbrev pub why_text : Walk → List ℕ
why_text k = why_by k (k.here.records - 1) (record_before k.records k.here.records)
