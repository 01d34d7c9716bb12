-- The text of a history (our own): the rules, if they are the strict ones, then a record a line, the fields parted
-- by one space, each line ended by a line feed.
use Rattle.std.specs.Prelude.{ℕ, List, [], ◌∷◌, ◌++◌, codes}
use Rattle.std.specs.List.{flat_map}
use Rattle.std.specs.Fmt.{decimal}
use Rattle.mx_boot.specs.declared.event_kind.EventKind.TheVariants as kinds
use Rattle.mx_boot.specs.EventKinds.{event_word}
use Rattle.mx_boot.specs.Words.{joined_words}
use Rattle.mx_machine.specs.Rules.{Rules}
use Rattle.mx_machine.specs.Rules.TheVariants.{Lenient, Strict}
use Rattle.mx_machine.specs.declared.history.Record.{Record}
use Rattle.mx_machine.specs.declared.history.Recorded.{Recorded}
use Rattle.mx_machine.specs.declared.history.Recorded.TheVariants.{Take, Back, Line, Tick, Kill, Respawn}

abbrev pub event_words : Recorded → List (List ℕ)
event_words Take = event_word kinds.Take ∷ []
event_words (Back n) = event_word kinds.Back ∷ decimal n ∷ []
event_words (Line l) = event_word kinds.Line ∷ decimal l ∷ []
event_words Tick = event_word kinds.Tick ∷ []
event_words (Kill e) = event_word kinds.Kill ∷ decimal e ∷ []
event_words (Respawn s) = event_word kinds.Respawn ∷ decimal s ∷ []

abbrev pub record_words : Record → List (List ℕ)
record_words r = decimal r.actor ∷ event_words r.event

abbrev pub history_text : List Record → List ℕ
history_text records = flat_map (λ r. joined_words (record_words r) ++ codes "\n") records

-- the line of the rules
abbrev pub rules_text : Rules → List ℕ
rules_text Lenient = []
rules_text Strict = codes "rules 2\n"

-- WHAT IS SAVED: by which rules the machine was booted, and what has happened since
abbrev pub saved_text : Rules → List Record → List ℕ
saved_text rules records = rules_text rules ++ history_text records
