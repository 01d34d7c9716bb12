-- The keyboard of a machine: nine interrupt lines and a register (our own).
use Rattle.std.specs.Prelude.{◌==◌, ◌+◌, ◌∷◌, [], ◌++◌, if◌then◌else◌, nat_lt, ℕ, Bool, false, List, Option, Some, None, drop, filter, is_ok, length, map, slice_get, slice_index_or, take}
use Rattle.std.specs.List.{list_all, range_with_len}
use Rattle.mx_machine.specs.declared.events.Event.{Event}
use Rattle.mx_machine.specs.declared.events.Event.TheVariants.{Line}
use Rattle.mx_machine.specs.Proc.TableState.{TableState, endpoint_of}
use Rattle.mx_machine.specs.Proc.Endpoints.{slot_of_endpoint}
use Rattle.mx_typist.specs.declared.typist.Raise.{Raise}
use Rattle.mx_typist.specs.declared.typist.Seen.{Seen}
use Rattle.mx_word.specs.Bits.{has_bit}

-- ---- the driver

-- the line is this slot's
abbrev pub is_owned_by : ℕ → Option ℕ → Bool
is_owned_by s (Some t) = t == s
is_owned_by s None = false

-- the slot that owns the first of some lines, if it owns all
abbrev pub owner_if : List (Option ℕ) → Option (Option ℕ) → Option ℕ
owner_if os (Some (Some s)) = if list_all (is_owned_by s) os then Some s else None
owner_if os _ = None

-- the slot that owns all of some lines
abbrev pub owner_of_all : List (Option ℕ) → Option ℕ
owner_of_all os = owner_if os (slice_get os 0)

-- the endpoint of the process of a slot, if there is the slot
abbrev pub endpoint_in : TableState → Option ℕ → Option ℕ
endpoint_in t (Some s) = if nat_lt s (length t.slots) then Some (endpoint_of t s) else None
endpoint_in t None = None

-- THE DRIVER is the process that owns lines 7 to 15
abbrev pub driver_of : TableState → Option ℕ
driver_of t = endpoint_in t (owner_of_all (take 9 (drop 7 t.devices.owners)))

-- ---- a look

-- the process that a byte was raised for is alive
abbrev pub is_alive : TableState → Option ℕ → Bool
is_alive t (Some e) = is_ok (slot_of_endpoint t e)
is_alive t None = false

-- WHAT IS SEEN: the driver; register 255, which counts the bytes that it has taken; and whether the one that the last
-- byte was raised for is alive
abbrev pub seen_of : TableState → Option ℕ → Seen
seen_of t flight = record {
  driver = driver_of t;
  counted = slice_index_or t.devices.registers 255 0;
  is_alive = is_alive t flight;
}

-- ---- a byte

-- A BYTE'S LINES: lines 8 to 15 are its bits, of which those that are 1 are raised, and then line 7
abbrev pub byte_lines : ℕ → List ℕ
byte_lines b = map (λ k. 8 + k) (filter (has_bit b) (range_with_len 0 8)) ++ 7 ∷ []

-- the events that raise them, of this actor
abbrev pub raise_events : ℕ → Option Raise → List (ℕ × Event)
raise_events a None = []
raise_events a (Some r) = map (λ l. let x : ℕ × Event = (a, Line l) in x) (byte_lines r.byte)
