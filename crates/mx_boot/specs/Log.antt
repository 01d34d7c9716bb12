-- Which history a text is (our own).
use Rattle.std.specs.Prelude.{◌≡◌, ℕ, ◌==◌, ◌+◌, ◌&&◌, ◌||◌, ◌⊎◌, is_some, nat_lt, codes, if◌then◌else◌, Bool, true, false, List, [], ◌∷◌, length, Option, Some, None}
use Rattle.std.specs.Str.{bytes_eq}
use Rattle.mx_text.specs.Lines.{lines}
use Rattle.mx_text.specs.Fields.{fields, ◌>>=◌}
use Rattle.mx_text.specs.declared.error.BootError.{BootError}
use Rattle.mx_text.specs.declared.error.BootError.TheVariants.{BadRecord, NoMemory}
use Rattle.mx_boot.specs.declared.event_kind.EventKind.{EventKind}
use Rattle.mx_boot.specs.declared.event_kind.EventKind.TheVariants as kinds
use Rattle.mx_boot.specs.Script.{actor_field, only_count, after_event_word}
use Rattle.mx_boot.specs.Reading.{AreLinesRead, IsFirstUnread}
use Rattle.mx_machine.specs.Rules.{Rules}
use Rattle.mx_machine.specs.Rules.TheVariants.{Lenient, Strict}
use Rattle.mx_machine.specs.declared.history.Record.{Record}
use Rattle.mx_machine.specs.declared.history.Recorded.{Recorded}
use Rattle.mx_machine.specs.declared.history.Recorded.TheVariants.{Take, Back, Line, Tick, Kill, Respawn}

-- what was recorded, of a kind and the fields after it
abbrev pub recorded_of : EventKind → List (List ℕ) → Option Recorded
recorded_of kinds.Take [] = Some Take
recorded_of kinds.Take (f ∷ fs) = None
recorded_of kinds.Back fs = do
  n ← only_count fs
  Some (Back n)
recorded_of kinds.Line fs = do
  l ← only_count fs
  Some (Line l)
recorded_of kinds.Tick [] = Some Tick
recorded_of kinds.Tick (f ∷ fs) = None
recorded_of kinds.Kill fs = do
  e ← only_count fs
  Some (Kill e)
recorded_of kinds.Respawn fs = do
  s ← only_count fs
  Some (Respawn s)
recorded_of _ fs = None

-- a record if the actor is one of this many
abbrev pub record_by : ℕ → ℕ → Recorded → Option Record
record_by actors a e = if nat_lt a actors then Some (record { actor = a; event = e }) else None

abbrev pub record_of : ℕ → List (List ℕ) → Option Record
record_of actors [] = None
record_of actors (f ∷ fs) = do
  a ← actor_field f
  e ← after_event_word recorded_of fs
  record_by actors a e

-- the record that a line is, if there are n actors
abbrev pub record_line : ℕ → List ℕ → Option Record
record_line actors line = record_of actors (fields line)

-- whether each line of a text is ended by a line feed
abbrev pub is_ended : List ℕ → Bool
is_ended [] = true
is_ended (b ∷ []) = b == 10
is_ended (b ∷ c ∷ bs) = is_ended (c ∷ bs)

-- the fields `rules 2`
abbrev pub says_strict : List (List ℕ) → Bool
says_strict (word ∷ number ∷ []) = bytes_eq word (codes "rules") && bytes_eq number (codes "2")
says_strict _ = false

-- the first of these lines says the strict rules, or is a record. An actor is at most 254: no machine has so many
abbrev pub begin_history : List (List ℕ) → Bool
begin_history [] = false
begin_history (l ∷ ls) = says_strict (fields l) || is_some (record_line 255 l)

-- A TEXT BEGINS AS A HISTORY
abbrev pub begins_history : List ℕ → Bool
begins_history text = begin_history (lines text)

-- the strict rules if the first line is theirs, else the lenient ones
abbrev pub rules_of_lines : List (List ℕ) → Rules
rules_of_lines [] = Lenient
rules_of_lines (l ∷ ls) = if says_strict (fields l) then Strict else Lenient

-- the lines below that one
abbrev pub record_lines : List (List ℕ) → List (List ℕ)
record_lines [] = []
record_lines (l ∷ ls) = if says_strict (fields l) then ls else l ∷ ls

-- how many lines are above those of the records
abbrev pub lines_above : Rules → ℕ
lines_above Lenient = 0
lines_above Strict = 1

-- a text is a history of a machine that was booted by these rules
abbrev pub IsHistory : ℕ → List ℕ → Rules → List Record → Type 0
IsHistory actors t rules records =
    AreLinesRead (record_line actors) (record_lines (lines t)) records × (is_ended t ≡ true)
    × (rules ≡ rules_of_lines (lines t))

-- the line of this number is the first of the records' lines that is no record
abbrev pub IsFirstNoRecord : ℕ → List ℕ → ℕ → Type 0
IsFirstNoRecord actors t n =
    (k : ℕ) × IsFirstUnread (record_line actors) (record_lines (lines t)) k
    × (n ≡ lines_above (rules_of_lines (lines t)) + k)

-- the first line at fault: it is no record, or it is the last and isn't ended
abbrev pub IsHistoryFault : ℕ → List ℕ → ℕ → Type 0
IsHistoryFault actors t n =
    IsFirstNoRecord actors t n
    ⊎ ((records : List Record) × AreLinesRead (record_line actors) (record_lines (lines t)) records
    × (is_ended t ≡ false) × (n ≡ length (lines t)))

-- the error of the records' lines if they aren't answered
abbrev pub TellsNoRecords : ℕ → List ℕ → BootError → Type 0
TellsNoRecords actors t (BadRecord n) = IsFirstNoRecord actors t n
TellsNoRecords actors t NoMemory =
    (records : List Record) × AreLinesRead (record_line actors) (record_lines (lines t)) records
TellsNoRecords actors t _ = ⊥

-- the error if no history is answered: the first line at fault, and out of memory only if there is none
abbrev pub TellsHistoryFault : ℕ → List ℕ → BootError → Type 0
TellsHistoryFault actors t (BadRecord n) = IsHistoryFault actors t n
TellsHistoryFault actors t NoMemory = (rules : Rules) × (records : List Record) × IsHistory actors t rules records
TellsHistoryFault actors t _ = ⊥
