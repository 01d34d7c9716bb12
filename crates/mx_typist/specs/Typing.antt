-- What is typed at a machine, and what a look at the machine makes of it (our own).
use Rattle.std.specs.Prelude.{◌≡◌, ◌==◌, ◌&&◌, ◌+◌, ◌++◌, ◌∷◌, [], if◌then◌else◌, nat_lt, ℕ, Bool, List, is_some, is_none, Option, Some, None, drop, length, slice_get}
use Rattle.mx_typist.specs.declared.typist.Raise.{Raise}
use Rattle.mx_typist.specs.declared.typist.Seen.{Seen}

-- The typed bytes that aren't taken, how many are taken, and the driver that the first of those was raised for.
pub record Typing : Type 0 where
  pub waiting : List ℕ
  pub taken : ℕ
  pub flight : Option ℕ

abbrev pub nothing_typed : Typing
nothing_typed = record { waiting = []; taken = 0; flight = None }

-- how many typed bytes may wait
abbrev pub most_waiting : ℕ
most_waiting = 16384

abbrev pub has_room : Typing → Bool
has_room t = nat_lt (length t.waiting) most_waiting

-- one byte more is typed
abbrev pub with_typed : ℕ → Typing → Typing
with_typed b t = record t { waiting = t.waiting ++ b ∷ [] }

-- A KEY IS TYPED, if there is room for it
abbrev pub typing_after_key : ℕ → Typing → Typing
typing_after_key b t = if has_room t then with_typed b t else t

-- ---- a look

-- the byte that was raised is taken: the driver has counted one more
abbrev pub is_taken : Seen → Typing → Bool
is_taken s t = is_some t.flight && (s.counted == t.taken + 1)

-- what became of that byte: it is taken; or the driver is alive, and may still take it; or it died, and the byte has to
-- be raised again
abbrev pub noted_of : Seen → Typing → Typing
noted_of s t =
    if is_taken s t then record t { waiting = drop 1 t.waiting; taken = t.taken + 1; flight = None }
    else if s.is_alive then t
    else record t { flight = None }

-- a byte for a driver, if both are there
abbrev pub raise_for : Option ℕ → Option ℕ → Option Raise
raise_for (Some d) (Some b) = Some (record { driver = d; byte = b })
raise_for _ _ = None

-- THE BYTE THAT IS RAISED, once it is known what became of the last one: the first that waits, if it isn't raised,
-- if the driver has counted all before it, and if there is a driver
abbrev pub next_raise : Seen → Typing → Option Raise
next_raise s t =
    if is_none t.flight && (s.counted == t.taken) then raise_for s.driver (slice_get t.waiting 0) else None

abbrev pub raise_of : Seen → Typing → Option Raise
raise_of s t = next_raise s (noted_of s t)

-- what is raised is in flight
abbrev pub with_raise : Option Raise → Typing → Typing
with_raise None t = t
with_raise (Some r) t = record t { flight = Some r.driver }

abbrev pub typing_after_look : Seen → Typing → Typing
typing_after_look s t = with_raise (raise_of s t) (noted_of s t)
