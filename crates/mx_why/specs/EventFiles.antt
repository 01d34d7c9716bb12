-- THE FILE OF OUTSIDE EVENTS with which a history was made, of `mx turns` or of `mx run`, line by line (our own).
use Rattle.std.specs.Prelude.{◌≡◌, ◌⊎◌, ℕ, if◌then◌else◌, List, [], ◌∷◌, codes, Option, Some, None}
use Rattle.std.specs.Str.{bytes_eq}
use Rattle.mx_app_failure.specs.declared.failure.About.TheVariants.{Fault}
use Rattle.mx_app_failure.specs.declared.failure.Failure.{Failure}
use Rattle.mx_app_start.specs.Asked.{Asked}
use Rattle.mx_app_start.specs.Setup.{IsNoTextGiven, IsTextFaulty, IsTextGiven}
use Rattle.mx_app_turns.specs.Events.{outside_line_of}
use Rattle.mx_boot.specs.Items.{said_in}
use Rattle.mx_boot.specs.Reading.{AreLinesRead, TellsUnread}
use Rattle.mx_boot.specs.Script.{after_event_word, only_count}
use Rattle.mx_machine.specs.declared.config.ServiceLine.{ServiceLine}
use Rattle.mx_machine.specs.declared.events.Event.TheVariants.{Respawn}
use Rattle.mx_text.specs.declared.error.BootError.{BootError}
use Rattle.mx_text.specs.Fields.{◌>>=◌}
use Rattle.mx_text.specs.Lines.{lines}
use Rattle.mx_turns.specs.declared.outside.OutsideLine.{OutsideLine}
use Rattle.mx_turns.specs.declared.outside.OutsideLine.TheVariants.{Plain}

-- the event whose record is sought: a machine makes respawns too, so those of the file can't be told from them
abbrev pub sought : OutsideLine → Option OutsideLine
sought (Plain (Respawn s)) = None
sought l = Some l

-- what the fields of a line say, if these are the lines of services: nothing; `wait N`, which makes no record; or an
-- outside event
abbrev pub event_said : List ServiceLine → List (List ℕ) → Option (Option OutsideLine)
event_said services [] = Some None
event_said services (f ∷ fs) =
    if bytes_eq f (codes "wait") then (do
      n ← only_count fs
      Some None)
    else (do
      l ← after_event_word (outside_line_of services) (f ∷ fs)
      Some (sought l))

-- a line, without its comment
abbrev pub said_of_line : List ServiceLine → List ℕ → Option (Option OutsideLine)
said_of_line services line = event_said services (said_in line)

-- EACH LINE of a text says so
abbrev pub AreEventsSaid : List ServiceLine → List ℕ → List (Option OutsideLine) → Type 0
AreEventsSaid services text said = AreLinesRead (said_of_line services) (lines text) said

-- its first line that says nothing
abbrev pub TellsNoEvents : List ServiceLine → List ℕ → BootError → Type 0
TellsNoEvents services text e = TellsUnread (said_of_line services) (lines text) e

-- the file was read
abbrev pub AreEventsGiven : List ℕ → Asked → List ServiceLine → List (Option OutsideLine) → Type 0
AreEventsGiven name q services said =
    (text : List ℕ) × IsTextGiven name q text × AreEventsSaid services text said

-- why it wasn't: it is missed or no text, or a line of it says nothing
abbrev pub AreNoEventsGiven : List ℕ → Asked → List ServiceLine → Failure → Type 0
AreNoEventsGiven name q services f =
    IsNoTextGiven Fault name q f ⊎ IsTextFaulty (TellsNoEvents services) Fault name q f

-- the file was read, if one is named
abbrev pub AreEventsRead : Option (List ℕ) → List Asked → List ServiceLine → List (Option OutsideLine) → Type 0
AreEventsRead None qs services said = (qs ≡ []) × (said ≡ [])
AreEventsRead (Some name) qs services said = (q : Asked) × (qs ≡ q ∷ []) × AreEventsGiven name q services said

abbrev pub AreEventsUnread : Option (List ℕ) → List Asked → List ServiceLine → Failure → Type 0
AreEventsUnread None qs services f = ⊥
AreEventsUnread (Some name) qs services f = (q : Asked) × (qs ≡ q ∷ []) × AreNoEventsGiven name q services f
