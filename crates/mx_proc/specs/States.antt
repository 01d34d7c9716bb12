-- What a state means for the queues.
use Rattle.std.specs.Prelude.{◌≡◌, Bool, true, false}
use Rattle.mx_proc.specs.declared.process.State.{State}
use Rattle.mx_proc.specs.declared.process.State.TheVariants.{Ready, Out, Doomed, Sending, Calling, Receiving, Awaiting}
use Rattle.mx_proc.specs.declared.process.State.TheVariants.{Down}

-- in the ready list of its level
abbrev pub is_ready : State → Bool
is_ready Ready = true
is_ready _ = false

-- among the blocked sends
abbrev pub is_sending : State → Bool
is_sending Sending = true
is_sending Calling = true
is_sending _ = false

-- with a buffer that a message may come to or go from
abbrev pub is_blocked : State → Bool
is_blocked Sending = true
is_blocked Calling = true
is_blocked (Receiving partner) = true
is_blocked (Awaiting slot) = true
is_blocked _ = false

abbrev pub is_down : State → Bool
is_down (Down cause) = true
is_down _ = false

-- on a processor, killed or not
abbrev pub is_out : State → Bool
is_out Out = true
is_out Doomed = true
is_out _ = false

-- in no queue
abbrev pub IsAlone : State → Type 0
IsAlone st = (is_ready st ≡ false) × (is_sending st ≡ false)
