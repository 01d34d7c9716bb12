-- What goes on ("Debugging with GDB", "Packets", `vCont`).
use Rattle.std.specs.Prelude.{ℕ, ◌==◌, if◌then◌else◌, Bool, true, false, List, [], ◌∷◌, length, Option, Some, None}
use Rattle.mx_text.specs.Fields.{◌>>=◌}
use Rattle.mx_rsp.specs.declared.fields.Which.TheVariants.{All}
use Rattle.mx_rsp.specs.declared.moves.Action.{Action}
use Rattle.mx_rsp.specs.declared.moves.Action.TheVariants.{Continue, Step, StepWithin}
use Rattle.mx_rsp.specs.declared.moves.Move.{Move}
use Rattle.mx_rsp.specs.declared.moves.Resume.{Resume}
use Rattle.mx_rsp.specs.Fields.{cut, number, two_numbers, who_of}

abbrev pub alone : List ℕ → Action → Option Action
alone text a = if length text == 0 then Some a else None

-- with a signal, which does nothing here
abbrev pub with_signal : List ℕ → Action → Option Action
with_signal text a = do
  signal ← number text
  Some a

abbrev pub within : List ℕ → Option Action
within text = do
  ends ← two_numbers text
  Some (StepWithin ends.0 ends.1)

-- c and s, C and S with a signal, r with the ends of a range
abbrev pub action_of : List ℕ → Option Action
action_of [] = None
action_of (b ∷ text) =
    if b == 99 then alone text Continue
    else if b == 115 then alone text Step
    else if b == 67 then with_signal text Continue
    else if b == 83 then with_signal text Step
    else if b == 114 then within text
    else None

-- whose: after a colon, else that of all
abbrev pub move_by : List ℕ → Option (List ℕ × List ℕ) → Option Move
move_by text None = do
  a ← action_of text
  Some (record { action = a; who = All })
move_by text (Some parts) = do
  a ← action_of parts.0
  w ← who_of parts.1
  Some (record { action = a; who = w })

abbrev pub move_of : List ℕ → Option Move
move_of text = move_by text (cut 58 text)

abbrev pub continues : Action → Bool
continues Continue = true
continues _ = false

abbrev pub resume_by : List ℕ → Option (List ℕ × List ℕ) → Option Resume
resume_by text None = do
  m ← move_of text
  Some (record { first = m; others = false })
resume_by text (Some parts) = do
  m ← move_of parts.0
  o ← move_of parts.1
  Some (record { first = m; others = continues o.action })

-- WHO GOES ON, and how: one move, or one and what the others do
abbrev pub resume_of : List ℕ → Option Resume
resume_of text = resume_by text (cut 59 text)
