-- NOTHING MORE HAPPENS (our own): a machine at rest in which nobody owns a line or has an alarm.
use Rattle.std.specs.Prelude.{◌≡◌, ℕ, ◌+◌, true, List, [], ◌∷◌, length, None}
use Rattle.std.specs.List.{AllByRecursion}
use Rattle.mx_kcall.specs.Refusals.{owner_of}
use Rattle.mx_machine.specs.declared.events.Event.{Event}
use Rattle.mx_machine.specs.declared.events.Event.TheVariants.{Kill}
use Rattle.mx_machine.specs.History.{AreAccepted, world_after_events}
use Rattle.mx_machine.specs.Rest.{at_rest}
use Rattle.mx_machine.specs.World.{World}
use Rattle.mx_proc.specs.declared.process.Process.{Process}

-- kills, by whomever
abbrev pub IsNoKill : Event → Type 0
IsNoKill (Kill e) = ⊥
IsNoKill _ = Unit {0}

abbrev pub AreNoKills : List (ℕ × Event) → Type 0
AreNoKills [] = Unit {0}
AreNoKills (x ∷ xs) = IsNoKill x.1 × AreNoKills xs

-- there is no alarm
abbrev pub HasNoAlarm : List Process → Type 0
HasNoAlarm ps = AllByRecursion (λ (p : Process). p.alarm ≡ None) ps

-- nobody is ready or out, nobody dead may be respawned, no line has an owner, and there is no alarm
pub record IsStill (w : World) : Type 0 where
  pub rest : at_rest w ≡ true
  pub slots : length w.table.slots ≡ length w.services
  pub owners : (l : ℕ) → owner_of w.table l ≡ None
  pub alarms : HasNoAlarm w.table.slots

-- so many ticks later, with their records
abbrev pub ticks_later : World → ℕ → World
ticks_later w n = record w { table = record w.table { uptime = w.table.uptime + n }; records = w.records + n }

-- WHATEVER COMES BUT KILLS, as far as it is accepted, is ticks, and these change the uptime alone: nobody goes on
abbrev pub StaysStill : World → List (ℕ × Event) → Type 0
StaysStill w xs = IsStill w → AreNoKills xs → AreAccepted w xs → world_after_events w xs ≡ ticks_later w (length xs)
