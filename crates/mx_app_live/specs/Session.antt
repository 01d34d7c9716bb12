-- A session: somebody sits at a machine (our own).
use Rattle.std.specs.Prelude.{◌≡◌, ◌⊎◌, ◌==◌, ◌-◌, ◌^◌, ◌&&◌, ◌||◌, ◌++◌, ◌∷◌, [], if◌then◌else◌, nat_lt, not, ℕ, Bool, true, false, List, Option, Some, None, is_none, is_some, length}
use Rattle.mx_machine.specs.declared.events.Event.{Event}
use Rattle.mx_machine.specs.declared.events.Event.TheVariants.{Tick, Kill}
use Rattle.mx_machine.specs.History.{world_after_events}
use Rattle.mx_machine.specs.Rest.{at_rest}
use Rattle.mx_machine.specs.World.{World}
use Rattle.mx_turns.specs.declared.turns.Ending.{Ending}
use Rattle.mx_turns.specs.declared.turns.Ending.TheVariants as turned
use Rattle.mx_turns.specs.Turns.{Course, Offered, offered, turns, world_after}
use Rattle.mx_typist.specs.declared.keys.Pending.{Pending}
use Rattle.mx_typist.specs.declared.keys.Pending.TheVariants.{Nothing as NoPart}
use Rattle.mx_typist.specs.declared.keys.Wanted.{Wanted}
use Rattle.mx_typist.specs.declared.keys.Wanted.TheVariants as wanted
use Rattle.mx_typist.specs.Keys.{pending_after, wanted_of}
use Rattle.mx_typist.specs.Typing.{Typing, has_room, nothing_typed, raise_of, typing_after_key, typing_after_look}
use Rattle.mx_app_live.specs.declared.outside.Heard.{Heard}
use Rattle.mx_app_live.specs.declared.outside.Heard.TheVariants as heard
use Rattle.mx_app_live.specs.declared.outside.Note.{Note}
use Rattle.mx_app_live.specs.declared.outside.Note.TheVariants as note
use Rattle.mx_app_live.specs.declared.session.Session.{Session as Held}
use Rattle.mx_app_live.specs.declared.session.SessionEnding.{SessionEnding}
use Rattle.mx_app_live.specs.declared.session.SessionEnding.TheVariants.{Rest, Full, Left, Stopped}
use Rattle.mx_keyboard.specs.Keyboard.{driver_of, endpoint_in, raise_events, seen_of}

-- The machine's world, what is typed, what was typed of a command, and whether no more keys will come.
pub record Seat : Type 0 where
  pub world : World
  pub typing : Typing
  pub pending : Pending
  pub deaf : Bool

-- What comes of a part of a session: the events that are made, what is told, where that leads, and how the session ends
-- there, if it does. What is shown is what the events write.
pub record Part : Type 0 where
  pub made : List (ℕ × Event)
  pub told : List Note
  pub after : Seat
  pub ending : Option SessionEnding

-- ---- the machine goes on

abbrev pub waiting : Typing → ℕ
waiting t = length t.waiting

-- one turn if typed bytes wait, else sixteen; none if the machine is at rest
abbrev pub round_length : ℕ → ℕ
round_length n = if nat_lt 0 n then 1 else 16

abbrev pub round_turns : ℕ → World → Course
round_turns n w = turns (round_length n) w []

abbrev pub turns_at : Seat → Course
turns_at x = round_turns (waiting x.typing) x.world

abbrev pub is_full : Ending → Bool
is_full turned.Full = true
is_full _ = false

-- NOTHING MORE CAN COME to a machine at rest: no more keys will, and all that were typed are taken or can't be; or keys
-- may come, and neither a driver for them nor ticks
abbrev pub is_over : Bool → Seat → Bool
is_over has_clock x =
    at_rest x.world
    && (if x.deaf then (waiting x.typing == 0) || (is_some x.typing.flight || is_none (driver_of x.world.table))
    else is_none (driver_of x.world.table) && not has_clock)

-- after the turns
abbrev pub seat_after_turns : Seat → Seat
seat_after_turns x = record x { world = world_after_events x.world (turns_at x).made }

-- the next byte is raised, by the first actor that is no processor, if a look says so
abbrev pub raised_at : Seat → Offered
raised_at x =
    offered x.world
    (raise_events (length x.world.cpus) (raise_of (seen_of x.world.table x.typing.flight) x.typing))

abbrev pub seat_after_raise : Seat → Seat
seat_after_raise x =
    record x {
      world = world_after x.world (raised_at x);
      typing = typing_after_look (seen_of x.world.table x.typing.flight) x.typing;
    }

-- how a session ends by this
abbrev pub ending_if : Bool → SessionEnding → Option SessionEnding
ending_if b e = if b then Some e else None

-- TURNS, and the next byte. With a history that the turns filled nothing more is made
abbrev pub going_on : Bool → Seat → Part
going_on has_clock x =
    let y = seat_after_turns x in
    if is_full (turns_at x).ending
    then record { made = (turns_at x).made; told = []; after = y; ending = Some Full }
    else record {
      made = (turns_at x).made ++ (raised_at y).made;
      told = [];
      after = seat_after_raise y;
      ending = if (raised_at y).full then Some Full else ending_if (is_over has_clock (seat_after_raise y)) Rest;
    }

-- ---- what comes from outside

-- nothing happens, but this is told
abbrev pub telling : Seat → List Note → Part
telling x notes = record { made = []; told = notes; after = x; ending = None }

-- the session ends so
abbrev pub ends : Seat → SessionEnding → Part
ends x e = record { made = []; told = []; after = x; ending = Some e }

-- what comes of an event of the first actor that is no processor
abbrev pub offered_outside : World → Event → Offered
offered_outside w e = offered w ((length w.cpus, e) ∷ [])

-- what comes of offers, and this is told
abbrev pub offering : Seat → Offered → List Note → Part
offering x o notes =
    record {
      made = o.made;
      told = notes;
      after = (let y : Seat = record x { world = world_after x.world o } in y);
      ending = ending_if o.full Full;
    }

-- the process of an endpoint is killed, if there is one
abbrev pub killed_at : World → Option ℕ → Offered
killed_at w (Some e) = offered_outside w (Kill e)
killed_at w None = record { made = []; full = false }

-- the process of a slot is killed, if there is the slot
abbrev pub kill_offered : World → ℕ → Offered
kill_offered w s = killed_at w (endpoint_in w.table (Some s))

-- a kill that is made has a record
abbrev pub kill_note : ℕ → ℕ → ℕ → Note
kill_note s before records = if nat_lt before records then note.Killed records else note.NobodyKilled s

abbrev pub kill_told : ℕ → World → World → Note
kill_told s before after = kill_note s before.records after.records

abbrev pub killing : Seat → ℕ → Part
killing x s =
    let o = kill_offered x.world s in offering x o (kill_told s x.world (world_after x.world o) ∷ [])

-- a key is refused
abbrev pub refused_if : Bool → List Note
refused_if b = if b then note.Refused ∷ [] else []

-- a byte is typed, if there is room for it
abbrev pub typing_byte : Seat → ℕ → Part
typing_byte x b =
    telling (let y : Seat = record x { typing = typing_after_key b x.typing } in y)
    (refused_if (not (has_room x.typing)))

-- what a key asks for is done
abbrev pub doing : Seat → Wanted → Part
doing x wanted.More = telling x []
doing x (wanted.Key b) = typing_byte x b
doing x (wanted.Kill s) = killing x s
doing x wanted.Tick = offering x (offered_outside x.world Tick) []
doing x wanted.Help = telling x (note.Help x.world.records ∷ [])
doing x wanted.End = ends x Left
doing x wanted.Unknown = telling x (note.Refused ∷ [])

-- WHAT IS HEARD is done
abbrev pub hearing : Seat → Heard → Part
hearing x heard.Nothing = telling x []
hearing x (heard.Key k) =
    doing (let y : Seat = record x { pending = pending_after x.pending k } in y) (wanted_of x.pending k)
hearing x heard.Tick = offering x (offered_outside x.world Tick) []
hearing x heard.NoMoreKeys = telling (let y : Seat = record x { deaf = true } in y) []
hearing x heard.Stop = ends x Stopped

-- ---- a session

-- one part and then another
abbrev pub then_part : Part → Part → Part
then_part a b =
    record {
      made = a.made ++ b.made;
      told = a.told ++ b.told;
      after = b.after;
      ending = b.ending;
    }

-- A ROUND: the machine goes on, one question is asked, and its answer is done
abbrev pub IsRound : Bool → Seat → Heard → Part → Type 0
IsRound has_clock x h p =
    (is_none (going_on has_clock x).ending ≡ true)
    × (p ≡ then_part (going_on has_clock x) (hearing (going_on has_clock x).after h))

-- ROUNDS, none of which ends the session, with these answers
abbrev pub AreRounds : Bool → Seat → List Heard → Part → Type 0
AreRounds has_clock x [] p = p ≡ telling x []
AreRounds has_clock x (h ∷ hs) p =
    (a b : Part) × IsRound has_clock x h a × (a.ending ≡ None) × AreRounds has_clock a.after hs b
    × (p ≡ then_part a b)

-- A SESSION: rounds, and then a machine that goes on to an end, or a round that ends it. (It also stops after 2 ^ 64 - 1
-- rounds.)
abbrev pub IsSession : Bool → Seat → List Heard → Part → SessionEnding → Type 0
IsSession has_clock x hs p e =
    ((a : Part) × AreRounds has_clock x hs a × ((going_on has_clock a.after).ending ≡ Some e)
    × (p ≡ then_part a (going_on has_clock a.after)))
    ⊎ (((before : List Heard) × (h : Heard) × (a b : Part) × (hs ≡ before ++ h ∷ [])
    × AreRounds has_clock x before a × IsRound has_clock a.after h b × (b.ending ≡ Some e) × (p ≡ then_part a b))
    ⊎ (AreRounds has_clock x hs p × (length hs ≡ 2 ^ 64 - 1) × (e ≡ Stopped)))

-- a session whose screen takes no more: the turns of the last round are made
abbrev pub IsUnshown : Bool → Seat → List Heard → Part → Type 0
IsUnshown has_clock x hs p =
    (a : Part) × AreRounds has_clock x hs a
    × (p ≡ then_part a (record {
      made = (turns_at a.after).made;
      told = [];
      after = seat_after_turns a.after;
      ending = None;
    }))

-- ---- as values

abbrev pub seat_of : World → Held → Seat
seat_of w s = record {
  world = w;
  typing = s.typist;
  pending = s.pending;
  deaf = s.is_deaf;
}

-- at the beginning nothing is typed
abbrev pub first_seat : World → Seat
first_seat w = record { world = w; typing = nothing_typed; pending = NoPart; deaf = false }
