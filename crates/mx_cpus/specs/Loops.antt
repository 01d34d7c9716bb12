-- What the loops of actors do with their seats.
use Rattle.std.specs.Prelude.{◌≡◌, ◌<◌, ◌≤◌, ℕ, suc, List, [], ◌∷◌, ◌++◌, map, None}
use Rattle.mx_machine.specs.declared.history.Record.{Record}
use Rattle.mx_machine.specs.declared.history.Recorded.{Recorded}
use Rattle.mx_machine.specs.declared.history.Recorded.TheVariants.{Tick, Respawn}
use Rattle.mx_cpus.specs.Seats.{SeatView, back_record, record_of, take_record}
use Rattle.mx_cpus.specs.Calls.{Follows}

-- ---- records

-- the records of a processor's turns, by the steps of each: a take, and a return
abbrev pub turns_of : ℕ → List ℕ → List Record
turns_of a [] = []
turns_of a (n ∷ ns) = take_record a ∷ back_record a n ∷ turns_of a ns

-- events that are only ticks and respawns
abbrev pub AreTicksAndRespawns : List Recorded → Type 0
AreTicksAndRespawns [] = Unit {0}
AreTicksAndRespawns (Tick ∷ es) = AreTicksAndRespawns es
AreTicksAndRespawns (Respawn s ∷ es) = AreTicksAndRespawns es
AreTicksAndRespawns (_ ∷ es) = ⊥

-- how many of them are ticks
abbrev pub ticks_among : List Recorded → ℕ
ticks_among [] = 0
ticks_among (Tick ∷ es) = suc (ticks_among es)
ticks_among (_ ∷ es) = ticks_among es

-- ---- loops

-- A processor's loop took the seat s and gave the seat t: it has seen no less, holds nothing, and its own records are
-- longer by turns, each a take and a return, and by nothing else.
pub record HasMadeTurns (s t : SeatView) : Type 0 where
  pub follows : Follows s t
  pub empty : t.held ≡ None
  pub counts : List ℕ
  pub mine : t.mine ≡ s.mine ++ turns_of s.actor counts

-- The respawner's loop took the seat s and gave the seat t: it holds what it held, and its own records are longer by
-- ticks, at most n, and by respawns, and by nothing else.
pub record HasTickedAndRespawned (n : ℕ) (s t : SeatView) : Type 0 where
  pub follows : Follows s t
  pub held : t.held ≡ s.held
  pub events : List Recorded
  pub only : AreTicksAndRespawns events
  pub few : ticks_among events ≤ n
  pub mine : t.mine ≡ s.mine ++ map (record_of s.actor) events

-- ---- all loops

-- a seat before and after all loops, by how many processors and at most how many ticks there are: the first actor
-- that is no processor is the respawner, and the seats of further ones stay
pub record IsDriven (cpus ticks : ℕ) (s t : SeatView) : Type 0 where
  pub processor : s.actor < cpus → HasMadeTurns s t
  pub respawner : s.actor ≡ cpus → HasTickedAndRespawned ticks s t
  pub other : cpus < s.actor → t ≡ s

-- each seat of a list, in its place
abbrev pub AreDriven : ℕ → ℕ → List SeatView → List SeatView → Type 0
AreDriven cpus ticks [] [] = Unit {0}
AreDriven cpus ticks (s ∷ ss) (t ∷ ts) = IsDriven cpus ticks s t × AreDriven cpus ticks ss ts
AreDriven _ _ _ _ = ⊥
