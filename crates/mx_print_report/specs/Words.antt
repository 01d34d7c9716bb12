-- The words for who, and for what a process does (our own).
use Rattle.std.specs.Prelude.{ℕ, ◌==◌, if◌then◌else◌, List, [], ◌∷◌, ◌++◌, codes}
use Rattle.std.specs.Fmt.{decimal}
use Rattle.mx_proc.specs.declared.process.DeathCause.{DeathCause}
use Rattle.mx_proc.specs.declared.process.DeathCause.TheVariants.{Exit, Kill, Fault}
use Rattle.mx_proc.specs.declared.deliveries.DeliveryKind.{DeliveryKind}
use Rattle.mx_proc.specs.declared.deliveries.DeliveryKind.TheVariants.{Message, Notification}
use Rattle.mx_print_report.specs.declared.doing.Awaited.{Awaited}
use Rattle.mx_print_report.specs.declared.doing.Awaited.TheVariants.{Any, System, Hardware, Clock, Process}
use Rattle.mx_print_report.specs.declared.doing.Doing.{Doing}
use Rattle.mx_print_report.specs.declared.doing.Doing.TheVariants.{Home, Ready, Out, Doomed, Sending, Calling, Receiving, Awaiting, Down}

-- ---- who

-- a name's bytes without those that pad it
abbrev pub name_bytes : List ℕ → List ℕ
name_bytes [] = []
name_bytes (b ∷ bs) = if b == 0 then [] else b ∷ name_bytes bs

-- a process's name, and its number
abbrev pub named : List ℕ → ℕ → List ℕ
named name n = name_bytes name ++ codes " " ++ decimal n

-- ---- what a process does

abbrev pub awaited_text : Awaited → List ℕ
awaited_text Any = codes "any"
awaited_text System = codes "-2"
awaited_text Hardware = codes "-1"
awaited_text Clock = codes "-3"
awaited_text (Process n) = decimal n

abbrev pub cause_text : DeathCause → List ℕ
cause_text Exit = codes "exit"
cause_text Kill = codes "kill"
cause_text (Fault v) = codes "fault " ++ decimal v

unfoldable pub doing_text : Doing → List ℕ
doing_text Home = codes "home"
doing_text Ready = codes "ready"
doing_text Out = codes "out"
doing_text Doomed = codes "doomed"
doing_text (Sending n) = codes "sending " ++ decimal n
doing_text (Calling n) = codes "calling " ++ decimal n
doing_text (Receiving p) = codes "receiving " ++ awaited_text p
doing_text (Awaiting n) = codes "awaiting " ++ decimal n
doing_text (Down c) = codes "down " ++ cause_text c

-- ---- what a delivery is

abbrev pub kind_word : DeliveryKind → List ℕ
kind_word Message = codes "message"
kind_word Notification = codes "notify"
