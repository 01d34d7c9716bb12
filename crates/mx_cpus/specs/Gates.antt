-- What loops call of a gate.
use Rattle.std.specs.Prelude.{◌≡◌, ℕ, Bool, false}

-- A call of a gate, with its arguments, and with the answer of a question
pub data GateCall : Type 0 where
  held_call : (cpu turn : ℕ) → GateCall
  given_call : (cpu : ℕ) → GateCall
  -- a slot may have to be respawned
  due_call : (actor : ℕ) → GateCall
  again_call : (actor : ℕ) (at_rest goes_on : Bool) → GateCall
  ended_call : (actor : ℕ) → GateCall
  seen_call : (actor records : ℕ) → GateCall
  -- a question, with how many records the actor has seen, and whether its own work is done
  asked_call : (actor records : ℕ) (at_rest is_done goes_on : Bool) → GateCall
  -- a question after a turn
  stops_call : (cpu : ℕ) (stops : Bool) → GateCall

-- the calls of a gate that no actor shows what it has seen, what is due, nor whether its own work is done, and that
-- stops nobody after a turn
abbrev pub unwatched : (GateCall → Type 0) → GateCall → Type 0
unwatched WasCalled (due_call actor) = Unit {0}
unwatched WasCalled (seen_call actor records) = Unit {0}
unwatched WasCalled (stops_call cpu stops) = stops ≡ false
unwatched WasCalled (asked_call actor records at_rest is_done goes_on) = WasCalled (again_call actor at_rest goes_on)
unwatched WasCalled call = WasCalled call
