-- Which endpoints name slots, and which are alive (our choice). As a signed number one that names a slot isn't
-- negative.
use Rattle.std.specs.Prelude.{ℕ, ◌^◌, ◌==◌, ◌&&◌, nat_lt, not, Bool, length, Result, Ok, Err, if◌then◌else◌}
use Rattle.mx_proc.specs.declared.table.Stale.{Stale}
use Rattle.mx_proc.specs.EndpointNumbers.{slot_of, generation_of}
use Rattle.mx_proc.specs.TableState.{TableState, process_at}
use Rattle.mx_proc.specs.States.{is_down}

-- an endpoint names a slot that is used
abbrev pub names_slot : TableState → ℕ → Bool
names_slot w e = nat_lt e (2 ^ 31) && nat_lt (slot_of e) (length w.slots)

-- its process isn't down and has the endpoint's generation: a doomed one is alive
abbrev pub is_current : TableState → ℕ → ℕ → Bool
is_current w s generation = not (is_down (process_at w s).state) && ((process_at w s).generation == generation)

abbrev pub is_alive : TableState → ℕ → Bool
is_alive w e = names_slot w e && is_current w (slot_of e) (generation_of e)

-- the slot of an endpoint that is alive
abbrev pub slot_of_endpoint : TableState → ℕ → Result ℕ Stale
slot_of_endpoint w e = if is_alive w e then Ok (slot_of e) else Err (record {})
