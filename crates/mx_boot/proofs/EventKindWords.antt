-- Each kind's word is that of no kind before it.
use Rattle.std.proofs.Common.{◌≡◌, Some, refl}
use Rattle.mx_boot.specs.declared.event_kind.EventKind.{EventKind}
use Rattle.mx_boot.specs.declared.event_kind.EventKind.TheVariants.{Step, Take, Back, Line, Tick, Kill, Respawn}
use Rattle.mx_boot.specs.EventKinds.{event_word, event_kind_of}

pub event_kind_of-own : (v : EventKind) → event_kind_of (event_word v) ≡ Some v
unfolding event_kind_of
event_kind_of-own Step = refl
event_kind_of-own Take = refl
event_kind_of-own Back = refl
event_kind_of-own Line = refl
event_kind_of-own Tick = refl
event_kind_of-own Kill = refl
event_kind_of-own Respawn = refl
