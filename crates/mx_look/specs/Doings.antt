-- Kinds of what a process does (our own).
use Rattle.std.specs.Prelude.{Bool, true, false, ◌==◌, Option, Some, None}
use Rattle.mx_proc.specs.declared.process.DeathCause.{DeathCause}
use Rattle.mx_proc.specs.declared.process.DeathCause.TheVariants as cause
use Rattle.mx_print_report.specs.declared.doing.Awaited.{Awaited}
use Rattle.mx_print_report.specs.declared.doing.Awaited.TheVariants as awaited
use Rattle.mx_print_report.specs.declared.doing.Doing.{Doing}
use Rattle.mx_print_report.specs.declared.doing.Doing.TheVariants.{Home, Ready, Out, Doomed, Sending, Calling, Receiving, Awaiting, Down}
use Rattle.mx_look.specs.declared.slot_glances.SlotGlance.{SlotGlance}

abbrev pub is_ready : Doing → Bool
is_ready Ready = true
is_ready _ = false

-- for a partner
abbrev pub is_waiting : Doing → Bool
is_waiting (Sending e) = true
is_waiting (Calling e) = true
is_waiting (Receiving p) = true
is_waiting (Awaiting e) = true
is_waiting _ = false

-- for a message
abbrev pub is_listening : Doing → Bool
is_listening (Receiving p) = true
is_listening (Awaiting e) = true
is_listening _ = false

-- on a processor, and not killed
abbrev pub is_out : Doing → Bool
is_out Out = true
is_out _ = false

-- on a processor, and killed
abbrev pub is_doomed : Doing → Bool
is_doomed Doomed = true
is_doomed _ = false

abbrev pub is_down : Doing → Bool
is_down (Down c) = true
is_down _ = false

-- what is seen of a slot does this
abbrev pub seen_is : (Doing → Bool) → Option SlotGlance → Bool
seen_is f None = false
seen_is f (Some g) = f g.doing

-- ---- equal ones

abbrev pub same_cause : DeathCause → DeathCause → Bool
same_cause cause.Exit cause.Exit = true
same_cause cause.Kill cause.Kill = true
same_cause (cause.Fault v) (cause.Fault u) = v == u
same_cause _ _ = false

abbrev pub same_awaited : Awaited → Awaited → Bool
same_awaited awaited.Any awaited.Any = true
same_awaited awaited.System awaited.System = true
same_awaited awaited.Hardware awaited.Hardware = true
same_awaited awaited.Clock awaited.Clock = true
same_awaited (awaited.Process d) (awaited.Process e) = d == e
same_awaited _ _ = false

abbrev pub same_doing : Doing → Doing → Bool
same_doing Home Home = true
same_doing Ready Ready = true
same_doing Out Out = true
same_doing Doomed Doomed = true
same_doing (Sending d) (Sending e) = d == e
same_doing (Calling d) (Calling e) = d == e
same_doing (Receiving p) (Receiving q) = same_awaited p q
same_doing (Awaiting d) (Awaiting e) = d == e
same_doing (Down c) (Down d) = same_cause c d
same_doing _ _ = false
