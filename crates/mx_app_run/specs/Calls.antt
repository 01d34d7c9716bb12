-- The lines of a run's file of outside events (our own).
use Rattle.std.specs.Prelude.{◌⊎◌, ◌+◌, ℕ, nat_lt, if◌then◌else◌, List, [], ◌∷◌, Option, Some, None, codes}
use Rattle.std.specs.Str.{bytes_eq}
use Rattle.mx_text.specs.Fields.{fields, ◌>>=◌}
use Rattle.mx_text.specs.Lines.{lines}
use Rattle.mx_app_step.specs.Config.{Config}
use Rattle.mx_boot.specs.Script.{after_event_word, only_count}
use Rattle.mx_machine.specs.declared.config.ServiceLine.{ServiceLine}
use Rattle.mx_machine.specs.declared.events.Event.{Event}
use Rattle.mx_machine.specs.declared.events.Event.TheVariants as events
use Rattle.mx_cpus.specs.declared.outside.OutsideCall.{OutsideCall}
use Rattle.mx_cpus.specs.declared.outside.OutsideCall.TheVariants.{Line, Kill, KillSlot, Respawn, Tick, Wait}
use Rattle.mx_app_failure.specs.declared.failure.About.TheVariants.{Course}
use Rattle.mx_app_failure.specs.declared.failure.Failure.{Failure as Kind}
use Rattle.mx_app_step.specs.Asked.{Asked}
use Rattle.mx_app_step.specs.Setup.{IsNoTextGiven, IsTextFaulty, IsTextGiven}
use Rattle.mx_app_turns.specs.Commented.{AreSaid, TellsUnsaid}
use Rattle.mx_app_turns.specs.Events.{outside_line_of}
use Rattle.mx_turns.specs.declared.outside.OutsideLine.{OutsideLine}
use Rattle.mx_turns.specs.declared.outside.OutsideLine.TheVariants as lines_outside

-- an outside event, as a call
abbrev pub call_of_event : Event → Option OutsideCall
call_of_event (events.Line l) = Some (Line l)
call_of_event (events.Kill e) = Some (Kill e)
call_of_event (events.Respawn s) = Some (Respawn s)
call_of_event events.Tick = Some Tick
call_of_event _ = None

abbrev pub call_of_outside : OutsideLine → Option OutsideCall
call_of_outside (lines_outside.Plain e) = call_of_event e
call_of_outside (lines_outside.KillSlot s) = Some (KillSlot s)

-- what these fields say, if these are the lines of services: `wait N`, or what a line of a file for `mx turns` says
abbrev pub call_of_fields : List ServiceLine → List (List ℕ) → Option OutsideCall
call_of_fields services [] = None
call_of_fields services (f ∷ fs) =
    if bytes_eq f (codes "wait") then (do
      n ← only_count fs
      Some (Wait n))
    else (do
      l ← after_event_word (outside_line_of services) (f ∷ fs)
      call_of_outside l)

-- what a line says, without its comment, if there is an actor to make the call: the second one that is no processor
abbrev pub call_line : Config → List ℕ → Option OutsideCall
call_line config line = if nat_lt config.others 2 then None else call_of_fields config.lines (fields line)

-- the calls of a file were read
abbrev pub AreCallsGiven : List ℕ → Asked → Config → List OutsideCall → Type 0
AreCallsGiven name q config xs =
    (text : List ℕ) × IsTextGiven name q text × AreSaid (call_line config) (lines text) xs

-- why they weren't: the file is missed or no text, or its first line at fault
abbrev pub IsCallsFault : List ℕ → Asked → Config → Kind → Type 0
IsCallsFault name q config f =
    IsNoTextGiven Course name q f
    ⊎ IsTextFaulty (λ text e. TellsUnsaid (call_line config) (lines text) e) Course name q f

-- 1 for a tick, and 0 for another call
abbrev pub tick_of : OutsideCall → ℕ
tick_of Tick = 1
tick_of _ = 0

-- how many of some calls are ticks
abbrev pub ticks_of : List OutsideCall → ℕ
ticks_of [] = 0
ticks_of (x ∷ xs) = tick_of x + ticks_of xs
