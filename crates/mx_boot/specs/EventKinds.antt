-- The first words of the lines of a script or of a history (our own).
use Rattle.std.specs.Prelude.{ℕ, List, [], ◌∷◌, Option, codes, find}
use Rattle.std.specs.Str.{bytes_eq}
use Rattle.mx_boot.specs.declared.event_kind.EventKind.{EventKind}
use Rattle.mx_boot.specs.declared.event_kind.EventKind.TheVariants.{Step, Take, Back, Line, Tick, Kill, Respawn}

abbrev pub event_word : EventKind → List ℕ
event_word Step = codes "step"
event_word Take = codes "take"
event_word Back = codes "back"
event_word Line = codes "line"
event_word Tick = codes "tick"
event_word Kill = codes "kill"
event_word Respawn = codes "respawn"

abbrev pub kinds : List EventKind
kinds = Step ∷ Take ∷ Back ∷ Line ∷ Tick ∷ Kill ∷ Respawn ∷ []

-- the kind that a word is
unfoldable pub event_kind_of : List ℕ → Option EventKind
event_kind_of word = find (λ v. bytes_eq word (event_word v)) kinds
