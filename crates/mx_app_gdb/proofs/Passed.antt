-- What is passed isn't met; and walks without their checkpoints.
use Rattle.std.proofs.Common.{◌≡◌, ◌∙◌, ℕ, Bool, true, false, List, [], ◌∷◌, ◌++◌, append_assoc, ap, sym, subst, arith}
use Rattle.mx_machine.specs.declared.events.Event.{Event}
use Rattle.mx_machine.specs.declared.history.Record.{Record}
use Rattle.mx_machine.specs.History.{world_after_events}
use Rattle.mx_machine.specs.Move.{world_after_event}
use Rattle.mx_machine.specs.World.{World}
use Rattle.mx_walk.specs.declared.positions.Position.{Position}
use Rattle.mx_walk.specs.Positions.{IsPosition, IsUpTo, events_before, first, world_at}
use Rattle.mx_walk.specs.Seeking.{IsFirstMarked, IsLastMarked, IsPassed, NoneMarked, is_marked}
use Rattle.mx_walk.specs.Walks.{Walk}
use Rattle.mx_walk.proofs.Arriving.{begins, first_up_to}
use Rattle.mx_walk.proofs.Made.{after_both}
use Rattle.mx_app_look.specs.declared.sight.Sight.{Sight}

same_rest : {X : Type 0} (xs ys zs : List X) → xs ++ ys ≡ xs ++ zs → ys ≡ zs
same_rest [] ys zs e = e
same_rest (x ∷ xs) ys zs e = let t : xs ++ ys ≡ xs ++ zs = cc in same_rest xs ys zs t

-- ---- what is passed isn't met

first_position : (records : List Record) → IsPosition records first
first_position records = record { earlier = omega arith; inside = omega arith }

module _ (f : World → ℕ × Event → World → Bool) where
  -- an event among those of which none is marked
  none_there : (w : World) (xs : List (ℕ × Event)) (y : ℕ × Event) (ys : List (ℕ × Event)) → NoneMarked f w (xs ++ y ∷ ys) → is_marked f (world_after_events w xs) y ≡ true → ⊥
  none_there w [] y ys h e = let no : true ≡ false = sym e ∙ h.0 in cc
  none_there w (x ∷ xs) y ys h e = none_there (world_after_event w x.0 x.1) xs y ys h.1 e

  module _ (boot : World) (records : List Record) where
    pub passed_isnt_first : (from q last : Position) → IsPosition records q → IsPosition records last → IsUpTo q last → IsFirstMarked f boot records from q → IsPassed f boot records from last → ⊥
    passed_isnt_first from q last h l le s p =
        let r = begins records q last h l le in
        let es = events_before records from in
        let whole : es ++ p.0 ≡ es ++ (s.0 ++ s.1 ∷ r.0) =
        sym p.1 ∙ r.1 ∙ ap (λ (xs : List (ℕ × Event)). xs ++ r.0) s.2 ∙ append_assoc es (s.0 ++ s.1 ∷ []) r.0 ∙ ap (λ (xs : List (ℕ × Event)). es ++ xs) (append_assoc s.0 (s.1 ∷ []) r.0) in
        let same : p.0 ≡ s.0 ++ s.1 ∷ r.0 = same_rest es p.0 (s.0 ++ s.1 ∷ r.0) whole in
        none_there (world_at boot records from) s.0 s.1 r.0 (subst (λ (xs : List (ℕ × Event)). NoneMarked f (world_at boot records from) xs) same p.2) s.4

    pub passed_isnt_last : (p here : Position) → IsPosition records p → IsLastMarked f boot records p here → IsPassed f boot records first here → ⊥
    passed_isnt_last p here h s g =
        let none = begins records first p (first_position records) h (first_up_to p) in
        let es = events_before records first in
        let whole : es ++ g.0 ≡ es ++ (none.0 ++ s.0 ∷ s.1) =
        sym g.1 ∙ s.2 ∙ ap (λ (xs : List (ℕ × Event)). xs ++ s.0 ∷ s.1) none.1 ∙ append_assoc es none.0 (s.0 ∷ s.1) in
        let same : g.0 ≡ none.0 ++ s.0 ∷ s.1 = same_rest es g.0 (none.0 ++ s.0 ∷ s.1) whole in
        let world : world_at boot records p ≡ world_after_events (world_at boot records first) none.0 =
        ap (λ (xs : List (ℕ × Event)). world_after_events boot xs) none.1 ∙ after_both boot es none.0 in
        none_there (world_at boot records first) none.0 s.0 s.1 (subst (λ (xs : List (ℕ × Event)). NoneMarked f (world_at boot records first) xs) same g.2)
        (subst (λ (v : World). is_marked f v s.0 ≡ true) world s.3)

-- ---- walks

-- a walk, but for its checkpoints
abbrev pub unmarked : Walk → Walk
unmarked k = record k { checkpoints = [] }

abbrev made_of : World → List Record → Position → Position → Walk
made_of boot records here last = record { boot = boot; records = records; here = here; last = last; checkpoints = [] }

pub same_walk : (j k : Walk) → j.boot ≡ k.boot → j.records ≡ k.records → j.here ≡ k.here → j.last ≡ k.last → unmarked j ≡ unmarked k
same_walk j k boot records here last =
    ap (λ (w : World). made_of w j.records j.here j.last) boot ∙ ap (λ (rs : List Record). made_of k.boot rs j.here j.last) records
    ∙ ap (λ (p : Position). made_of k.boot k.records p j.last) here ∙ ap (λ (p : Position). made_of k.boot k.records k.here p) last

abbrev pub bare : Sight → Sight
bare s = record s { walker = unmarked s.walker }
