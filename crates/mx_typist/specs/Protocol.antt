-- The protocol between who types and a driver that keeps its rule (our own).
use Rattle.std.specs.Prelude.{◌≡◌, ◌+◌, ◌++◌, ◌∷◌, [], ℕ, Bool, true, false, not, List, Option, Some, None, length, take}
use Rattle.mx_typist.specs.declared.typist.Raise.{Raise}
use Rattle.mx_typist.specs.declared.typist.Seen.{Seen}
use Rattle.mx_typist.specs.Typing.{Typing, nothing_typed, raise_of, typing_after_look, with_typed}

-- The bytes that drivers have stored, the byte whose lines were raised and that isn't stored, and whether the driver
-- that they were raised for has died.
pub record Keyboard : Type 0 where
  pub stored : List ℕ
  pub hearing : Option ℕ
  pub dead : Bool

-- All that was typed, who types, and the keyboard.
pub record Seat : Type 0 where
  pub typed : List ℕ
  pub typing : Typing
  pub keyboard : Keyboard

abbrev pub first_seat : Seat
first_seat = record {
  typed = [];
  typing = nothing_typed;
  keyboard = record { stored = []; hearing = None; dead = false };
}

-- WHAT MAY HAPPEN: a byte is typed; the driver stores the byte that it hears, and counts it; the driver dies; the
-- machine is looked at, and this process owns the lines
pub data Happening : Type 0 where
  Types : (byte : ℕ) → Happening
  Stores : Happening
  Dies : Happening
  Looks : (driver : Option ℕ) → Happening

-- A DRIVER THAT KEEPS THE RULE stores only a byte that it hears, once, and counts it as it does
abbrev pub stores : Keyboard → Option ℕ → Keyboard
stores k None = k
stores k (Some b) = record k { stored = k.stored ++ b ∷ []; hearing = None }

-- what is raised is heard, by a driver that is alive
abbrev pub hears : Keyboard → Option Raise → Keyboard
hears k None = k
hears k (Some r) = record k { hearing = Some r.byte; dead = false }

-- what a look shows: the count of the stored bytes
abbrev pub shown_by : Keyboard → Option ℕ → Seen
shown_by k driver = record { driver = driver; counted = length k.stored; is_alive = not k.dead }

abbrev pub after : Seat → Happening → Seat
after x (Types b) = record x { typed = x.typed ++ b ∷ []; typing = with_typed b x.typing }
after x Stores = record x { keyboard = stores x.keyboard x.keyboard.hearing }
after x Dies = record x { keyboard = (let k : Keyboard = record x.keyboard { hearing = None; dead = true } in k) }
after x (Looks d) =
    let s = shown_by x.keyboard d in
    record x { typing = typing_after_look s x.typing; keyboard = hears x.keyboard (raise_of s x.typing) }

abbrev pub after_all : Seat → List Happening → Seat
after_all x [] = x
after_all x (h ∷ hs) = after_all (after x h) hs

-- what is stored is the front of what was typed: each byte once, in order
abbrev pub IsFrontStored : Seat → Type 0
IsFrontStored x = x.keyboard.stored ≡ take (length x.keyboard.stored) x.typed
