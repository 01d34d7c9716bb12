-- Values of a record (our own): ticks, interrupt lines, and processes that are killed, die, are born again,
-- or go on with an error.
use Rattle.std.specs.Prelude.{ℕ, ◌+◌, ◌-◌, ◌≤◌, ◌==◌, ◌&&◌, not, if◌then◌else◌, Bool, true, false, List, [], ◌∷◌, ◌++◌, Option, Some, None}
use Rattle.mx_proc.specs.declared.process.DeathCause.{DeathCause}
use Rattle.mx_proc.specs.declared.process.DeathCause.TheVariants as cause
use Rattle.mx_machine.specs.declared.history.Recorded.{Recorded}
use Rattle.mx_machine.specs.declared.history.Recorded.TheVariants as recorded
use Rattle.mx_print_report.specs.declared.doing.Doing.{Doing}
use Rattle.mx_print_report.specs.declared.doing.Doing.TheVariants as doing
use Rattle.mx_look.specs.declared.slot_glances.SlotGlance.{SlotGlance}
use Rattle.mx_look.specs.declared.glance.CpuGlance.{CpuGlance}
use Rattle.mx_look.specs.declared.transition.Transition.{Transition}
use Rattle.mx_look.specs.Transition.{slot_in, held_before}
use Rattle.mx_look.specs.Slots.{both}
use Rattle.mx_look.specs.Going.{gone_on, is_acted}
use Rattle.mx_app_draw.specs.declared.values.Hint.{Hint}
use Rattle.mx_app_draw.specs.declared.values.Hint.TheVariants as hint
use Rattle.mx_app_draw.specs.declared.values.ArrowKind.{ArrowKind}
use Rattle.mx_app_draw.specs.declared.values.ArrowKind.TheVariants as drawn
use Rattle.mx_app_draw.specs.declared.values.GlyphKind.{GlyphKind}
use Rattle.mx_app_draw.specs.declared.values.GlyphKind.TheVariants as glyphs
use Rattle.mx_app_draw.specs.declared.values.LabelKind.{LabelKind}
use Rattle.mx_app_draw.specs.declared.values.LabelKind.TheVariants as written
use Rattle.mx_app_draw.specs.declared.values.Anchor.TheVariants as anchor
use Rattle.mx_app_draw.specs.declared.values.Text.{Text}
use Rattle.mx_app_draw.specs.declared.values.Text.TheVariants as text
use Rattle.mx_app_draw.specs.declared.values.Value.{Value}
use Rattle.mx_app_draw.specs.declared.layout.Origin.{Origin}
use Rattle.mx_app_draw.specs.FourFigures.{arrow_at, glyph_at, label_at}
use Rattle.mx_app_draw.specs.Layout.{row, row_of, toward}

-- origins as they are in a picture of at most 1,000 records
abbrev pub IsOnPaper : Origin → Type 0
IsOnPaper at = (4 ≤ at.x) × (at.x ≤ 30000) × (at.top ≤ 30000) × (at.services ≤ 32)

-- the middle of a service's row; for a slot that is no service, of the row outside
abbrev pub height_of : Origin → ℕ → ℕ
height_of at s = row at.top (row_of at.services s)

-- a vertical line from a height to the row of a service
abbrev pub line_to : Origin → ArrowKind → ℕ → ℕ → Hint → Value
line_to at k from s t = arrow_at k at.x from (toward from (height_of at s)) t

-- a text next to the row of a service
abbrev pub note : LabelKind → Origin → ℕ → Text → Hint → Value
note k at s what t = label_at k (at.x + 6) (height_of at s - 8) anchor.Start what t

-- ---- outside

abbrev pub outside_glyph : Origin → GlyphKind → ℕ → List Value
outside_glyph at k n =
    glyph_at k at.x (row at.top 0) (hint.Record at.place)
    ∷ label_at written.Note at.x (row at.top 0 - 9) anchor.Middle (text.Number n) (hint.Record at.place) ∷ []

abbrev pub outside_by : Transition → Origin → Recorded → List Value
outside_by x at recorded.Tick = outside_glyph at glyphs.Tick x.after.uptime
outside_by x at (recorded.Line l) = outside_glyph at glyphs.Line l
outside_by x at _ = []

unfoldable pub outside_values : Transition → Origin → List Value
outside_values x at = outside_by x at x.event

-- ---- kills: by an event from outside, or by another slot's process that comes back

abbrev pub other_height : Origin → ℕ → Option CpuGlance → Option ℕ
other_height at s None = None
other_height at s (Some h) = if h.slot == s then None else Some (height_of at h.slot)

abbrev pub killer_by : Transition → Origin → ℕ → Recorded → Option ℕ
killer_by x at s (recorded.Kill e) = Some (row at.top 0)
killer_by x at s (recorded.Back n) = other_height at s (held_before x)
killer_by x at s _ = None

-- the height where the line of a kill begins
unfoldable pub killer : Transition → Origin → ℕ → Option ℕ
killer x at s = killer_by x at s x.event

abbrev pub is_gone : Doing → Bool
is_gone doing.Doomed = true
is_gone (doing.Down c) = true
is_gone _ = false

-- the slot's process dies or gets doomed in this transition
abbrev pub has_fallen : Transition → ℕ → Bool
has_fallen x s = both (λ v u. not (is_gone v.doing) && is_gone u.doing) (slot_in x.before s) (slot_in x.after s)

abbrev pub kill_from : Origin → ℕ → Option ℕ → List Value
kill_from at s None = []
kill_from at s (Some from) = line_to at drawn.Kill from s (hint.Change at.place s) ∷ []

unfoldable pub kill_values : Transition → Origin → ℕ → List Value
kill_values x at s = if has_fallen x s then kill_from at s (killer x at s) else []

-- ---- deaths and births

abbrev pub kill_note : Origin → ℕ → DeathCause → List Value
kill_note at s cause.Kill = note written.Bad at s text.Killed (hint.Change at.place s) ∷ []
kill_note at s _ = []

abbrev pub middle_glyph : Origin → ℕ → GlyphKind → Value
middle_glyph at s k = glyph_at k at.x (height_of at s) (hint.Change at.place s)

unfoldable pub death_values : Origin → ℕ → DeathCause → List Value
death_values at s c = middle_glyph at s glyphs.Death ∷ kill_note at s c

unfoldable pub birth_values : Origin → ℕ → ℕ → List Value
birth_values at s e =
    line_to at drawn.Respawn (row at.top 0) s (hint.Change at.place s)
    ∷ middle_glyph at s glyphs.Birth
    ∷ note written.Note at s (text.Number e) (hint.Change at.place s) ∷ []

abbrev pub passage : Origin → ℕ → ℕ → Doing → Doing → List Value
passage at s e (doing.Down c) (doing.Down d) = []
passage at s e _ (doing.Down d) = death_values at s d
passage at s e (doing.Down c) _ = birth_values at s e
passage at s e _ _ = []

abbrev pub passage_by : Origin → ℕ → Option SlotGlance → Option SlotGlance → List Value
passage_by at s (Some v) (Some u) = passage at s u.endpoint v.doing u.doing
passage_by at s _ _ = []

unfoldable pub fate_values : Transition → Origin → ℕ → List Value
fate_values x at s = kill_values x at s ++ passage_by at s (slot_in x.before s) (slot_in x.after s)

-- ---- processes that were waiting, and go on with an error

abbrev pub error_note : Origin → ℕ → Option ℕ → List Value
error_note at s None = []
error_note at s (Some r) = if r == 0 then [] else note written.Bad at s (text.Outcome r) (hint.Change at.place s) ∷ []

unfoldable pub freed_values : Transition → Origin → ℕ → List Value
freed_values x at s = if is_acted x s then [] else error_note at s (gone_on x s)
