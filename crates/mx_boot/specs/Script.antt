-- The lines of a script (our own).
use Rattle.std.specs.Prelude.{ℕ, List, [], ◌∷◌, Option, Some, None}
use Rattle.mx_text.specs.Fields.{fields, only, pair, ◌>>=◌}
use Rattle.mx_text.specs.NumberFields.{number_up_to}
use Rattle.mx_boot.specs.declared.event_kind.EventKind.{EventKind}
use Rattle.mx_boot.specs.declared.event_kind.EventKind.TheVariants as kinds
use Rattle.mx_boot.specs.declared.scripts.ScriptLine.{ScriptLine}
use Rattle.mx_boot.specs.declared.scripts.ScriptLine.TheVariants.{Step, Take, Back, Line, Tick, Kill, Respawn}
use Rattle.mx_boot.specs.EventKinds.{event_kind_of}

-- the number of a processor or another actor
abbrev pub actor_field : List ℕ → Option ℕ
actor_field word = number_up_to 255 10 word

-- any other number
abbrev pub count_field : List ℕ → Option ℕ
count_field word = number_up_to 2147483647 10 word

abbrev pub only_actor : List (List ℕ) → Option ℕ
only_actor fs = do
  c ← only fs
  actor_field c

abbrev pub only_count : List (List ℕ) → Option ℕ
only_count fs = do
  k ← only fs
  count_field k

abbrev pub actor_and_count : List (List ℕ) → Option (ℕ × ℕ)
actor_and_count fs = do
  p ← pair fs
  c ← actor_field p.0
  k ← count_field p.1
  Some (c, k)

-- the line of a script that is a kind and these fields
abbrev pub script_line_of : EventKind → List (List ℕ) → Option ScriptLine
script_line_of kinds.Step fs = do
  p ← actor_and_count fs
  Some (Step p.0 p.1)
script_line_of kinds.Take fs = do
  c ← only_actor fs
  Some (Take c)
script_line_of kinds.Back fs = do
  c ← only_actor fs
  Some (Back c)
script_line_of kinds.Line fs = do
  l ← only_count fs
  Some (Line l)
script_line_of kinds.Tick [] = Some Tick
script_line_of kinds.Tick (f ∷ fs) = None
script_line_of kinds.Kill fs = do
  e ← only_count fs
  Some (Kill e)
script_line_of kinds.Respawn fs = do
  s ← only_count fs
  Some (Respawn s)

-- what the fields after a kind are read as, by `rest`
abbrev pub after_event_word : {T : Type 0} → (EventKind → List (List ℕ) → Option T) → List (List ℕ) → Option T
after_event_word rest [] = None
after_event_word rest (f ∷ fs) = do
  v ← event_kind_of f
  rest v fs

-- what a line of a script is read as
abbrev pub script_line : List ℕ → Option ScriptLine
script_line line = after_event_word script_line_of (fields line)
