-- THE NOTES that are taken of a history: what became of its slots, record by record (our own).
use Rattle.std.specs.Prelude.{ℕ, ◌+◌, ◌==◌, ◌&&◌, ◌||◌, not, nat_le, false, if◌then◌else◌, Bool, List, [], ◌∷◌, ◌++◌, codes, Option, Some, None}
use Rattle.std.specs.List.{flat_map, range_with_len}
use Rattle.mx_image.specs.declared.runs.Stop.{Stop}
use Rattle.mx_image.specs.declared.runs.Stop.TheVariants as stop
use Rattle.mx_machine.specs.declared.history.Record.{Record}
use Rattle.mx_machine.specs.declared.history.Recorded.{Recorded}
use Rattle.mx_machine.specs.declared.history.Recorded.TheVariants.{Take, Back, Kill}
use Rattle.mx_machine.specs.History.{world_after_events, events_of}
use Rattle.mx_machine.specs.World.{World}
use Rattle.mx_proc.specs.declared.process.DeathCause.{DeathCause}
use Rattle.mx_proc.specs.declared.process.DeathCause.TheVariants as cause
use Rattle.mx_print_report.specs.declared.doing.Doing.{Doing}
use Rattle.mx_print_report.specs.declared.doing.Doing.TheVariants.{Down}
use Rattle.mx_print_report.specs.Words.{cause_text, name_bytes}
use Rattle.mx_look.specs.declared.faults.FaultGlance.{FaultGlance}
use Rattle.mx_look.specs.declared.glance.CpuGlance.{CpuGlance}
use Rattle.mx_look.specs.declared.reasons.FaultReason.{FaultReason}
use Rattle.mx_look.specs.declared.reasons.FaultReason.TheVariants.{Outside}
use Rattle.mx_look.specs.declared.slot_glances.SlotGlance.{SlotGlance}
use Rattle.mx_look.specs.declared.transition.Transition.{Transition}
use Rattle.mx_look.specs.Calls.{asks_kernel}
use Rattle.mx_look.specs.Doings.{is_down}
use Rattle.mx_look.specs.FaultLines.{fault_text}
use Rattle.mx_look.specs.Going.{acting, gone_on, is_acted}
use Rattle.mx_look.specs.Slots.{has_changed}
use Rattle.mx_look.specs.Transition.{about, fault_in, held_before, slot_in}
use Rattle.mx_app_step.specs.Traces.{transition_of}
use Rattle.mx_why.specs.declared.notes.Deed.{Deed}
use Rattle.mx_why.specs.declared.notes.Deed.TheVariants.{Taken, Changed, Killed, Faulted, Respawned, Called, Received, Missed, Spent}
use Rattle.mx_why.specs.declared.notes.Note.{Note}

-- a note of a record
abbrev pub noted : Transition → ℕ → Deed → List ℕ → Note
noted x s deed text = record { number = x.number; slot = s; deed = deed; text = text }

-- ---- of what one dies, by whom and where

abbrev pub killer_by : Option SlotGlance → List ℕ
killer_by None = []
killer_by (Some g) = name_bytes g.name.bytes

abbrev pub by_caller : Transition → ℕ → Option CpuGlance → List ℕ
by_caller x s None = []
by_caller x s (Some h) =
    if h.slot == s then [] else codes " by " ++ killer_by (slot_in x.before h.slot)

-- who kills: one from outside, or another one by its kernel call
abbrev pub killer_text : Transition → ℕ → Recorded → List ℕ
killer_text x s (Kill e) = codes " from outside"
killer_text x s _ = by_caller x s (acting x)

-- which end of the stack an address outside is at: below 0, or past the memory's limit
abbrev pub stack_end : ℕ → ℕ → List ℕ
stack_end at limit =
    if nat_le 2147483648 at then codes " (the stack is used up)" else
    if nat_le limit at then codes " (the stack is empty: more taken than put)" else
    []

-- a fault of the stack, by the first address outside
abbrev pub stack_text : FaultGlance → FaultReason → List ℕ
stack_text f (Outside a) = stack_end a.at f.memory_limit
stack_text f _ = []

abbrev pub stack_by : ℕ → Option FaultGlance → List ℕ
stack_by v None = []
stack_by v (Some f) = if v == 12 then stack_text f f.reason else []

abbrev pub fault_at : Option FaultGlance → List ℕ
fault_at None = []
fault_at (Some f) = codes " at " ++ fault_text f

abbrev pub fault_place_by : Transition → Recorded → List ℕ
fault_place_by x (Back n) = fault_at (fault_in x.before x.actor)
fault_place_by x _ = []

-- where one that comes back faulted, and why
abbrev pub fault_place : Transition → List ℕ
fault_place x = fault_place_by x x.event

unfoldable pub place_text : Transition → ℕ → List ℕ
place_text x v = fault_place x ++ stack_by v (fault_in x.before x.actor)

abbrev pub circumstances : Transition → ℕ → DeathCause → List ℕ
circumstances x s cause.Exit = []
circumstances x s cause.Kill = killer_text x s x.event
circumstances x s (cause.Fault v) = place_text x v

unfoldable pub died_text : Transition → ℕ → DeathCause → List ℕ
died_text x s c = codes "of " ++ cause_text c ++ circumstances x s c

-- ---- the notes

abbrev pub deed_of : DeathCause → Deed
deed_of cause.Exit = Changed
deed_of cause.Kill = Killed
deed_of (cause.Fault v) = Faulted

-- an exit is no death that needs a word
abbrev pub of_down : Transition → ℕ → DeathCause → Note
of_down x s cause.Exit = noted x s Changed []
of_down x s c = noted x s (deed_of c) (died_text x s c)

abbrev pub of_change : Transition → ℕ → Doing → Doing → Note
of_change x s before (Down c) = of_down x s c
of_change x s before after = noted x s (if is_down before then Respawned else Changed) []

abbrev pub change_by : Transition → ℕ → Option SlotGlance → Option SlotGlance → List Note
change_by x s (Some v) (Some u) = of_change x s v.doing u.doing ∷ []
change_by x s _ _ = []

-- a slot whose process does something else, otherwise than by a take
unfoldable pub change_note : Transition → ℕ → List Note
change_note x s = if has_changed x s then change_by x s (slot_in x.before s) (slot_in x.after s) else []

abbrev pub take_by : Transition → Recorded → Option ℕ → List Note
take_by x Take (Some s) = noted x s Taken [] ∷ []
take_by x _ _ = []

-- a slot whose process is taken
abbrev pub take_note : Transition → List Note
take_note x = take_by x x.event (about x)

-- all the steps that it may are made
abbrev pub spent_by : CpuGlance → Stop → Bool
spent_by h stop.Spent = nat_le h.budget h.count
spent_by h _ = false

abbrev pub has_spent : CpuGlance → Bool
has_spent h = spent_by h h.stop

-- a call takes a message: RECEIVE, which is 2, or SENDREC, 3, to another process
abbrev pub takes_message : CpuGlance → Bool
takes_message h = (h.image.ecx == 2) || ((h.image.ecx == 3) && not (asks_kernel h))

abbrev pub is_error : Option ℕ → Bool
is_error None = false
is_error (Some r) = not (r == 0)

-- what a note of a call is of
abbrev pub call_deed : Transition → CpuGlance → Deed
call_deed x h = if takes_message h then (if is_error (gone_on x h.slot) then Missed else Received) else Called

abbrev pub return_of : Transition → CpuGlance → List Note
return_of x h =
    if is_acted x h.slot then noted x h.slot (call_deed x h) [] ∷ [] else
    if has_spent h then noted x h.slot Spent [] ∷ [] else
    []

abbrev pub return_by : Transition → Recorded → Option CpuGlance → List Note
return_by x (Back n) (Some h) = return_of x h
return_by x _ _ = []

-- a slot whose process comes back with a call, or with its budget spent
unfoldable pub return_note : Transition → List Note
return_note x = return_by x x.event (held_before x)

unfoldable pub change_notes : Transition → List Note
change_notes x = flat_map (change_note x) (range_with_len 0 32)

unfoldable pub notes_of : Transition → List Note
notes_of x = take_note x ++ return_note x ++ change_notes x

-- THE NOTES of records, of which the first has this number
abbrev pub notes_from : World → ℕ → List Record → List Note
notes_from w n [] = []
notes_from w n (x ∷ xs) =
    notes_of (transition_of w n x) ++ notes_from (world_after_events w (events_of x.actor x.event)) (n + 1) xs

abbrev pub notes_of_records : World → List Record → List Note
notes_of_records w records = notes_from w 1 records
