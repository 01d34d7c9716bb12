-- What a process did on its processor before it came back (our own).
use Rattle.std.specs.Prelude.{ℕ, ◌+◌, ◌-◌, ◌==◌, ◌&&◌, ◌||◌, not, nat_lt, if◌then◌else◌, Bool, false, List, [], ◌∷◌, Option, Some, None, slice_index}
use Rattle.mx_image.specs.declared.runs.Stop.{Stop}
use Rattle.mx_image.specs.declared.runs.Stop.TheVariants as stop
use Rattle.mx_machine.specs.declared.history.Recorded.{Recorded}
use Rattle.mx_machine.specs.declared.history.Recorded.TheVariants.{Back}
use Rattle.mx_proc.specs.declared.windows.Rules.{Rules}
use Rattle.mx_look.specs.declared.slot_glances.SlotGlance.{SlotGlance}
use Rattle.mx_look.specs.declared.glance.CpuGlance.{CpuGlance}
use Rattle.mx_look.specs.declared.transition.Transition.{Transition}
use Rattle.mx_look.specs.Transition.{slot_in, held_before}
use Rattle.mx_look.specs.Doings.{is_doomed, is_ready, seen_is}
use Rattle.mx_look.specs.Going.{gone_on, is_acted}
use Rattle.mx_look.specs.Calls.{asks_kernel, kernel_call}
use Rattle.mx_app_draw.specs.declared.values.Hint.TheVariants as hint
use Rattle.mx_app_draw.specs.declared.values.Deed.{Deed}
use Rattle.mx_app_draw.specs.declared.values.Deed.TheVariants as deed
use Rattle.mx_app_draw.specs.declared.values.Manner.{Manner}
use Rattle.mx_app_draw.specs.declared.values.Manner.TheVariants as manner
use Rattle.mx_app_draw.specs.declared.values.LabelKind.{LabelKind}
use Rattle.mx_app_draw.specs.declared.values.LabelKind.TheVariants as written
use Rattle.mx_app_draw.specs.declared.values.Anchor.TheVariants as anchor
use Rattle.mx_app_draw.specs.declared.values.Text.TheVariants as text
use Rattle.mx_app_draw.specs.declared.values.Value.{Value}
use Rattle.mx_app_draw.specs.declared.layout.Origin.{Origin}
use Rattle.mx_app_draw.specs.FourFigures.{label_at}
use Rattle.mx_app_draw.specs.Fates.{height_of}

-- ---- what it did

-- the type of a kernel call follows the source, and the rules say which types are calls; SENDREC is call 3
abbrev pub kernel_deed : Rules → Option (List ℕ) → Deed
kernel_deed rules None = deed.Call 3
kernel_deed rules (Some message) = deed.Kernel rules (slice_index message 1)

unfoldable pub trap_deed : Rules → CpuGlance → Deed
trap_deed rules h = if asks_kernel h then kernel_deed rules h.image.words else deed.Call h.image.ecx

abbrev pub deed_by : Rules → CpuGlance → Stop → Deed
deed_by rules h stop.Spent = if nat_lt h.count h.budget then deed.Early else deed.Spent
deed_by rules h (stop.Fault v) = deed.Fault v
deed_by rules h stop.Trap = trap_deed rules h

unfoldable pub deed_of : Rules → CpuGlance → Deed
deed_of rules h = deed_by rules h h.stop

-- ---- how it ended

abbrev pub is_doomed_in : Transition → ℕ → Bool
is_doomed_in x s = seen_is is_doomed (slot_in x.before s)

abbrev pub is_error : Option ℕ → Bool
is_error None = false
is_error (Some r) = not (r == 0)

-- the kernel answered the trap with an error
abbrev pub has_gone_wrong : Transition → ℕ → Bool
has_gone_wrong x s = is_error (gone_on x s) && is_acted x s

abbrev pub is_error_reply : Option (List ℕ) → Bool
is_error_reply None = false
is_error_reply (Some reply) = not (slice_index reply 1 == 0)

abbrev pub is_refused_answer : SlotGlance → Bool
is_refused_answer u = is_ready u.doing && is_error_reply u.image.words

abbrev pub has_failed_by : Option CpuGlance → Option SlotGlance → Bool
has_failed_by (Some h) (Some u) = is_refused_answer u
has_failed_by _ _ = false

-- the kernel answered the kernel call with an error
abbrev pub has_failed_call : Transition → ℕ → Bool
has_failed_call x s = has_failed_by (kernel_call x) (slot_in x.after s)

abbrev pub trap_manner : Transition → ℕ → Manner
trap_manner x s =
    if is_doomed_in x s then manner.Unmade else if has_gone_wrong x s || has_failed_call x s then manner.Wrong
    else manner.Plain

-- how the deed ended. Only a trap can be left unmade, if its process was killed
abbrev pub manner_by : Transition → ℕ → Deed → Manner
manner_by x s (deed.Call n) = trap_manner x s
manner_by x s (deed.Kernel rules t) = trap_manner x s
manner_by x s _ = manner.Plain

unfoldable pub manner_of : Transition → ℕ → Deed → Manner
manner_of x s d = manner_by x s d

abbrev pub deed_kind : Deed → Manner → LabelKind
deed_kind (deed.Fault v) _ = written.Bad
deed_kind _ manner.Wrong = written.Bad
deed_kind _ _ = written.Call

-- ---- its text is below the middle of the row, and left of the column

abbrev pub deed_label : Origin → ℕ → Deed → Manner → List Value
deed_label at s d m =
    label_at (deed_kind d m) (at.x - 4) (height_of at s + 15) anchor.End (text.Deed d m) (hint.Record at.place) ∷ []

abbrev pub deed_label_of : Transition → Origin → ℕ → Deed → List Value
deed_label_of x at s d = deed_label at s d (manner_of x s d)

abbrev pub return_of : Transition → Origin → Option CpuGlance → List Value
return_of x at None = []
return_of x at (Some h) = deed_label_of x at h.slot (deed_of x.before.rules h)

abbrev pub return_by : Transition → Origin → Recorded → List Value
return_by x at (Back n) = return_of x at (held_before x)
return_by x at _ = []

unfoldable pub return_values : Transition → Origin → List Value
return_values x at = return_by x at x.event
