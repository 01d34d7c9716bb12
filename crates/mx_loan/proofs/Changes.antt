-- How a step changes the view that has both halves.
use Rattle.std.specs.Prelude.{◌≡◌, ◌≢◌, ℕ, List, [], ◌++◌}
use Rattle.mx_machine.specs.History.{part_of}
use Rattle.mx_machine.specs.declared.history.Record.{Record}
use Rattle.mx_loan.specs.declared.knowledge.Knowledge.{Knowledge}
use Rattle.mx_loan.specs.declared.knowledge.Announcement.{Announcement}
use Rattle.mx_loan.specs.Rule.{IsJoined, JoinedFacts, lent_to}

-- the history and what is lent change for only one actor
pub record ChangesOneActor (v w : Knowledge) : Type 0 where
  pub actor : w.actor ≡ v.actor
  pub both : IsJoined w
  pub history : (e : List Record) × (w.history ≡ v.history ++ e) × ((b : ℕ) → b ≢ v.actor → part_of e b ≡ [])
  pub lent : (b : ℕ) → b ≢ v.actor → lent_to w.lent b ≡ lent_to v.lent b

-- a step of this kind leads from one word to another
abbrev pub StepFacts : Knowledge → Announcement → Knowledge → ℕ → ℕ → Type 0
StepFacts v x w old new = (v.phase ≡ old) × (w.phase ≡ new) × ChangesOneActor v w × JoinedFacts w
