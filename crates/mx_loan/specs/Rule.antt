-- What each seat of the table knows of one history, and how the six kinds of step change it.
--
-- The table has one word for each actor:
--
--              offer        take
--     0 home ───────▶ 1 ───────▶ 2 lent            record: 0 ─▶ 4, and 2 ─▶ 6
--        ▲                         │               note:   4 ─▶ 0, and 6 ─▶ 2, or 0 and 2 stay
--        └─────── 3 ◀──────────────┘
--          close        return
--
-- At 1 the kernel has recorded a Take that the actor hasn't noted yet; at 3 the actor has noted a Back that the
-- kernel hasn't recorded yet; at 4 and 6 the kernel has recorded another event that awaits the actor's note.
use Rattle.std.specs.Prelude.{◌≡◌, ◌≢◌, ℕ, ◌+◌, ◌<◌, ◌⊎◌, true, false, List, [], ◌∷◌, ◌++◌, length, Option, Some, None, slice_index, slice_index_or, slice_set, replicate}
use mathlib.Core.List.{IsPrefix}
use mathlib.Core.Option.{some}
use lib.ListN.{get_elem?}
use Rattle.atomic_table.specs.Table.{Me, Step}
use Rattle.mx_machine.specs.History.{part_of}
use Rattle.mx_machine.specs.declared.history.Record.{Record}
use Rattle.mx_machine.specs.declared.history.Recorded.TheVariants.{Take, Back}
use Rattle.mx_machine.specs.declared.holding.Out.{Out}
use Rattle.mx_loan.specs.declared.ghost_value.Ghost.{Ghost}
use Rattle.mx_loan.specs.declared.knowledge.Knowledge.{Knowledge}
use Rattle.mx_loan.specs.declared.knowledge.Announcement.{Announcement}
use Rattle.mx_loan.specs.declared.knowledge.TableSizes.{TableSizes}

-- what is lent to an actor: the list has a place for each processor
abbrev pub lent_to : List (Option Out) → ℕ → Option Out
lent_to lent a = slice_index_or lent a None

-- ---- the words

abbrev pub at_home : ℕ
at_home = 0

abbrev pub offered : ℕ
offered = 1

abbrev pub lent_out : ℕ
lent_out = 2

abbrev pub brought_back : ℕ
brought_back = 3

-- at home, or lent out, and a record awaits the actor's note
abbrev pub home_with_note : ℕ
home_with_note = 4

abbrev pub out_with_note : ℕ
out_with_note = 6

-- ---- halves: what a seat knows as the kernel's, and as an actor's

-- it knows nothing
abbrev pub spent_view : Knowledge
spent_view =
    record {
      knows = false;
      history = [];
      lent = [];
      sits = false;
      actor = 0;
      mine = [];
      seen = [];
      held = None;
      founding = false;
      made = 0;
      actors = 0;
      phase = 0;
    }

-- the kernel's half: the history, and what is lent
abbrev pub kernel_half : Knowledge → Knowledge
kernel_half v = record spent_view { knows = true; history = v.history; lent = v.lent }

-- an actor's half: its own records, what it has seen, and what it holds
abbrev pub actor_half : Knowledge → Knowledge
actor_half v = record spent_view { sits = true; actor = v.actor; mine = v.mine; seen = v.seen; held = v.held }

-- the word of an actor between two calls
abbrev pub word_at_rest : Option Out → ℕ
word_at_rest None = at_home
word_at_rest (Some x) = lent_out

-- both halves in one seat, for a call: that of k as the kernel's, and that of v as an actor's
abbrev pub joined_view : Knowledge → Knowledge → Knowledge
joined_view k v =
    record (actor_half v) { knows = true; history = k.history; lent = k.lent; phase = word_at_rest v.held }

abbrev pub IsJoined : Knowledge → Type 0
IsJoined v = (v.knows ≡ true) × (v.sits ≡ true) × (v.founding ≡ false)

-- ---- how a table begins

abbrev pub sizes_of : ℕ → ℕ → TableSizes
sizes_of actors cpus = record { actors = actors; cpus = cpus }

-- its first seat, before any actor has its own
abbrev pub founder_view : TableSizes → Knowledge
founder_view n = record spent_view { knows = true; lent = replicate n.cpus None; founding = true; actors = n.actors }

abbrev pub founder_after_birth : Knowledge → Knowledge
founder_after_birth v = record v { made = v.made + 1 }

-- the seat of the next actor
abbrev pub newborn_view : Knowledge → Knowledge
newborn_view v = record spent_view { sits = true; actor = v.made }

-- ---- THE RULE

-- what the word n means for an actor: for its records in the history and those that it knows, and for what the
-- kernel lends it and what it holds
pub data WordMeans (n : ℕ) (all mine : List Record) (lent held : Option Out) : Type 0 where
  home : n ≡ at_home → all ≡ mine → lent ≡ None → held ≡ None → WordMeans n all mine lent held
  offer : (r : Record) (x : Out) → n ≡ offered → r.event ≡ Take → all ≡ mine ++ r ∷ [] → lent ≡ Some x → held ≡ None
      → WordMeans n all mine lent held
  out : (x : Out) → n ≡ lent_out → all ≡ mine → lent ≡ Some x → held ≡ Some x → WordMeans n all mine lent held
  back : (r : Record) (steps : ℕ) (x : Out) → n ≡ brought_back → r.event ≡ Back steps → mine ≡ all ++ r ∷ []
      → lent ≡ Some x → held ≡ None → WordMeans n all mine lent held
  home_with_note_due : (r : Record) → n ≡ home_with_note → all ≡ mine ++ r ∷ [] → lent ≡ None → held ≡ None
      → WordMeans n all mine lent held
  out_with_note_due : (r : Record) (x : Out) → n ≡ out_with_note → all ≡ mine ++ r ∷ [] → lent ≡ Some x → held ≡ Some x
      → WordMeans n all mine lent held

-- between two calls an actor is at home, or something is lent out to it
abbrev pub IsResting : ℕ → Type 0
IsResting n = (n ≡ at_home) ⊎ (n ≡ lent_out)

-- the rule for a view that has the kernel's half: it is the history and what is lent, and every word rests but that
-- of an actor whose half is here too, which is its phase
pub record KernelFacts (words : List ℕ) (log : List Record) (lent : List (Option Out)) (v : Knowledge) : Type 0 where
  pub history : v.history ≡ log
  pub lends : v.lent ≡ lent
  pub still : (b : ℕ) → (v.sits ≡ true → b ≢ v.actor) → IsResting (slice_index words b)
  pub phase : v.sits ≡ true → slice_index words v.actor ≡ v.phase

-- the rule for a view that has an actor's half: what was seen begins the history, the actor's records in it begin
-- its own, and its word gives the rest
pub record ActorFacts (words : List ℕ) (log : List Record) (lent : List (Option Out)) (v : Knowledge) : Type 0 where
  pub inside : v.actor < length words
  pub seen : IsPrefix v.seen log
  pub known : IsPrefix (part_of v.seen v.actor) v.mine
  pub word : WordMeans (slice_index words v.actor) (part_of log v.actor) v.mine (lent_to lent v.actor) v.held

-- the rule for the first seat, while it still makes actors' seats: nothing has happened, and the actors from `made`
-- on have no seat yet
pub record FoundingFacts (words : List ℕ) (views : List Knowledge) (log : List Record) (lent : List (Option Out))
    (v : Knowledge) : Type 0 where
  pub both : (v.knows ≡ true) × (v.sits ≡ false)
  pub empty : log ≡ []
  pub still : (b : ℕ) → slice_index words b ≡ 0
  pub size : v.actors ≡ length words
  pub free : (b : ℕ) → lent_to lent b ≡ None
  pub newer : (j : ℕ) (u : Knowledge) → get_elem? views j ≡ some u → u.sits ≡ true → u.actor < v.made

-- There are one history and one list of what is lent, of which one seat has the kernel's half, and of each actor one
-- seat at most has its half.
pub record RuleHolds (words : List ℕ) (views : List Knowledge) : Type 0 where
  pub log : List Record
  pub lent : List (Option Out)
  -- which seat has the kernel's half, and which an actor's
  pub kernel : ℕ
  pub place : ℕ → ℕ
  -- only this seat has the kernel's half, and it knows this history and this list
  pub knows : (by : ℕ) (v : Knowledge) → get_elem? views by ≡ some v → v.knows ≡ true
      → (by ≡ kernel) × KernelFacts words log lent v
  -- each actor's half is in one seat, and the actor's word relates it to the history and the list
  pub sits : (by : ℕ) (v : Knowledge) → get_elem? views by ≡ some v → v.sits ≡ true
      → (by ≡ place v.actor) × ActorFacts words log lent v
  -- only the kernel's seat makes actors' seats, before anything has happened
  pub found : (by : ℕ) (v : Knowledge) → get_elem? views by ≡ some v → v.founding ≡ true
      → (by ≡ kernel) × FoundingFacts words views log lent v

-- the rule for a view that has both halves, by that view only
pub record JoinedFacts (v : Knowledge) : Type 0 where
  pub seen : IsPrefix v.seen v.history
  pub known : IsPrefix (part_of v.seen v.actor) v.mine
  pub word : WordMeans v.phase (part_of v.history v.actor) v.mine (lent_to v.lent v.actor) v.held

-- ---- THE SIX KINDS OF STEP

-- what is lent by an announcement
abbrev pub value_of_ghost : Option (Ghost Out) → Option Out
value_of_ghost None = None
value_of_ghost (Some x) = Some x.value

-- the kernel records that the actor takes a process, which it lends from then on
abbrev pub view_after_offer : Knowledge → Announcement → Knowledge
view_after_offer v x =
    record v {
      history = v.history ++ x.record ∷ [];
      lent = slice_set v.lent v.actor (value_of_ghost x.lent);
      phase = offered;
    }

-- the actor notes it, and holds what is lent
abbrev pub view_after_take : Knowledge → Announcement → Knowledge
view_after_take v x =
    record v { mine = v.mine ++ x.record ∷ []; seen = v.history; held = value_of_ghost x.lent; phase = lent_out }

-- the actor notes that it brings the process back, and holds nothing
abbrev pub view_after_return : Knowledge → Announcement → Knowledge
view_after_return v x = record v { mine = v.mine ++ x.record ∷ []; held = None; phase = brought_back }

-- the kernel records it, and lends nothing
abbrev pub view_after_close : Knowledge → Announcement → Knowledge
view_after_close v x =
    record v { history = v.history ++ x.record ∷ []; lent = slice_set v.lent v.actor None; phase = at_home }

-- the kernel records another event of the actor
abbrev pub view_after_record : Knowledge → Announcement → Knowledge
view_after_record v x = record v { history = v.history ++ x.record ∷ []; phase = v.phase + 4 }

-- the actor sees all of the history
abbrev pub view_after_note : Knowledge → Announcement → Knowledge
view_after_note v x = record v { mine = part_of v.history v.actor; seen = v.history; phase = word_at_rest v.held }

-- a step makes the view what f gives of it and of what was announced
abbrev pub StepMakes : (Knowledge → Announcement → Knowledge) → Step (Ghost Announcement)
    → Me (Ghost Announcement) Knowledge → ℕ → Me (Ghost Announcement) Knowledge → Type 0
StepMakes f s me n after =
    (x : Ghost Announcement) × (s.said ≡ some x) × (after ≡ (f me.0 x.value, me.1)) × JoinedFacts me.0
    × JoinedFacts (f me.0 x.value)
