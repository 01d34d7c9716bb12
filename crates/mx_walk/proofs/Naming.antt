-- A search names one position.
use Rattle.std.proofs.Common.{◌≡◌, ◌∙◌, ◌⊎◌, ℕ, Bool, true, false, List, [], ◌∷◌, ◌++◌, append_assoc, Some, None, ap, sym, subst, inl, inr, arith}
use Rattle.std.proofs.lemmas.Bool.{cases_lt}
use Rattle.mx_machine.specs.declared.events.Event.{Event}
use Rattle.mx_machine.specs.declared.history.Record.{Record}
use Rattle.mx_machine.specs.History.{world_after_events}
use Rattle.mx_machine.specs.Move.{world_after_event}
use Rattle.mx_machine.specs.World.{World}
use Rattle.mx_walk.specs.declared.positions.Position.{Position}
use Rattle.mx_walk.specs.Positions.{IsBefore, IsPosition, events_before, next_position, world_at}
use Rattle.mx_walk.specs.Seeking.{IsFirstMarked, IsLastMarked, NoneMarked, is_marked}
use Rattle.mx_walk.proofs.Along.{at}
use Rattle.mx_walk.proofs.Made.{after_both}
use Rattle.mx_walk.proofs.Next.{above_it, has_event, is_position_too, next_up_to, not_itself, up_to_of}
use Rattle.mx_walk.specs.Walks.{IsLast}
use Rattle.mx_walk.proofs.Arriving.{begins, not_blocked}

-- ---- lists

none_there : {X : Type 0} (xs : List X) (a : X) (ys : List X) → [] ≡ xs ++ a ∷ ys → ⊥
none_there [] a ys e = cc
none_there (x ∷ xs) a ys e = cc

same_rest : {X : Type 0} (xs ys zs : List X) → xs ++ ys ≡ xs ++ zs → ys ≡ zs
same_rest [] ys zs e = e
same_rest (x ∷ xs) ys zs e = let t : xs ++ ys ≡ xs ++ zs = cc in same_rest xs ys zs t

module _ (f : World → ℕ × Event → World → Bool) where
  none_at : (w : World) (xs : List (ℕ × Event)) (y : ℕ × Event) (ys : List (ℕ × Event)) → NoneMarked f w (xs ++ y ∷ ys) → is_marked f (world_after_events w xs) y ≡ false
  none_at w [] y ys h = h.0
  none_at w (x ∷ xs) y ys h = none_at (world_after_event w x.0 x.1) xs y ys h.1

  -- a marked event isn't among those of which none is
  clash : (w : World) (xs ys : List (ℕ × Event)) (x y e : ℕ × Event) (rest : List (ℕ × Event))
      → NoneMarked f w ys → is_marked f (world_after_events w xs) x ≡ true → ys ++ y ∷ [] ≡ xs ++ x ∷ e ∷ rest → ⊥
  clash w [] [] x y e rest none marked same = let no : [] ≡ e ∷ rest = cc in absurd cc
  clash w [] (b ∷ ys) x y e rest none marked same =
      let one : b ≡ x = cc in
      let no : true ≡ false = sym marked ∙ ap (λ z. is_marked f w z) (sym one) ∙ none.0 in absurd cc
  clash w (a ∷ xs) [] x y e rest none marked same = let t : [] ≡ xs ++ x ∷ e ∷ rest = cc in none_there xs x (e ∷ rest) t
  clash w (a ∷ xs) (b ∷ ys) x y e rest none marked same =
      let one : b ≡ a = cc in
      let t : ys ++ y ∷ [] ≡ xs ++ x ∷ e ∷ rest = cc in
      clash (world_after_event w a.0 a.1) xs ys x y e rest (subst (λ z. NoneMarked f (world_after_event w z.0 z.1) ys) one none.1) marked t

-- ---- the order of two positions

abbrev Three : Position → Position → Type 0
Three p q = (p ≡ q) ⊎ (IsBefore p q ⊎ IsBefore q p)

by_steps : (p q : Position) → p.records ≡ q.records → Three p q
by_steps p q a = elim (cases_lt p.steps q.steps) [
  | inl lt ↦ inr (inl (inr (a, lt)))
  | inr ge ↦ elim (cases_lt q.steps p.steps) [
    | inl lt ↦ inr (inr (inr (sym a, lt)))
    | inr le ↦ let s : p.steps ≡ q.steps = omega (arith, ge, le) in inl (ap (λ r. at r p.steps) a ∙ ap (λ j. at q.records j) s)
  ]
]

three : (p q : Position) → Three p q
three p q = elim (cases_lt p.records q.records) [
  | inl lt ↦ inr (inl (inl lt))
  | inr ge ↦ elim (cases_lt q.records p.records) [
    | inl lt ↦ inr (inr (inl lt))
    | inr le ↦ let a : p.records ≡ q.records = omega (arith, ge, le) in by_steps p q a
  ]
]

one_of : (p q : Position) → Three p q → (IsBefore p q → ⊥) → (IsBefore q p → ⊥) → p ≡ q
one_of p q (inl e) a b = e
one_of p q (inr (inl lt)) a b = absurd (a lt)
one_of p q (inr (inr lt)) a b = absurd (b lt)

-- what is before a position and an event begin what is before a later one
more : (records : List Record) (p q : Position) → IsPosition records p → IsPosition records q → IsBefore p q
    → (e : ℕ × Event) × (rest : List (ℕ × Event)) × (events_before records q ≡ events_before records p ++ e ∷ rest)
more records p q h g lt =
    let x = has_event records p q g lt in
    let r = begins records (next_position records p) q (is_position_too records p x.0 h x.1) g (next_up_to records p q x.0 h g x.1 (up_to_of p q lt) (not_itself p q lt)) in
    (x.0, r.0, r.1 ∙ ap (λ (es : List (ℕ × Event)). es ++ r.0) (above_it records p x.0 h x.1) ∙ append_assoc (events_before records p) (x.0 ∷ []) r.0)

module _ (f : World → ℕ × Event → World → Bool) (w : World) (records : List Record) where
  first_isnt_below : (from p q : Position) → IsPosition records p → IsPosition records q → IsFirstMarked f w records from p → IsFirstMarked f w records from q → IsBefore p q → ⊥
  first_isnt_below from p q h g s t lt =
      let m = more records p q h g lt in
      let es = events_before records from in
      let rest : List (ℕ × Event) = m.0 ∷ m.1 in
      let whole : es ++ (t.0 ++ t.1 ∷ []) ≡ es ++ ((s.0 ++ s.1 ∷ []) ++ rest) =
      sym t.2 ∙ m.2 ∙ ap (λ (xs : List (ℕ × Event)). xs ++ rest) s.2 ∙ append_assoc es (s.0 ++ s.1 ∷ []) rest in
      let same : t.0 ++ t.1 ∷ [] ≡ s.0 ++ s.1 ∷ rest = same_rest es (t.0 ++ t.1 ∷ []) ((s.0 ++ s.1 ∷ []) ++ rest) whole ∙ append_assoc s.0 (s.1 ∷ []) rest in
      clash f (world_at w records from) s.0 t.0 s.1 t.1 m.0 m.1 t.3 s.4 same

  pub first_is_one : (from p q : Position) → IsPosition records p → IsPosition records q → IsFirstMarked f w records from p → IsFirstMarked f w records from q → p ≡ q
  first_is_one from p q h g s t = one_of p q (three p q) (first_isnt_below from p q h g s t) (first_isnt_below from q p g h t s)

  last_isnt_above : (p q to : Position) → IsPosition records p → IsPosition records q → IsLastMarked f w records p to → IsLastMarked f w records q to → IsBefore p q → ⊥
  last_isnt_above p q to h g s t lt =
      let m = more records p q h g lt in
      let es = events_before records p in
      let whole : es ++ s.0 ∷ s.1 ≡ es ++ (m.0 ∷ (m.1 ++ t.0 ∷ t.1)) =
      sym s.2 ∙ t.2 ∙ ap (λ (xs : List (ℕ × Event)). xs ++ t.0 ∷ t.1) m.2 ∙ append_assoc es (m.0 ∷ m.1) (t.0 ∷ t.1) in
      let same : s.0 ∷ s.1 ≡ m.0 ∷ (m.1 ++ t.0 ∷ t.1) = same_rest es (s.0 ∷ s.1) (m.0 ∷ (m.1 ++ t.0 ∷ t.1)) whole in
      let one : s.0 ≡ m.0 = cc in
      let between : s.1 ≡ m.1 ++ t.0 ∷ t.1 = cc in
      let v = world_at w records p in
      let none : NoneMarked f (world_after_event v s.0.0 s.0.1) (m.1 ++ t.0 ∷ t.1) = subst (λ xs. NoneMarked f (world_after_event v s.0.0 s.0.1) xs) between s.4 in
      let there : NoneMarked f (world_after_event v m.0.0 m.0.1) (m.1 ++ t.0 ∷ t.1) = subst (λ (z : ℕ × Event). NoneMarked f (world_after_event v z.0 z.1) (m.1 ++ t.0 ∷ t.1)) one none in
      let unmarked : is_marked f (world_after_events v (m.0 ∷ m.1)) t.0 ≡ false = none_at f (world_after_event v m.0.0 m.0.1) m.1 t.0 t.1 there in
      let world : world_at w records q ≡ world_after_events v (m.0 ∷ m.1) = ap (λ (xs : List (ℕ × Event)). world_after_events w xs) m.2 ∙ after_both w es (m.0 ∷ m.1) in
      let no : true ≡ false = sym t.3 ∙ ap (λ u. is_marked f u t.0) world ∙ unmarked in absurd cc

  pub last_is_one : (p q to : Position) → IsPosition records p → IsPosition records q → IsLastMarked f w records p to → IsLastMarked f w records q to → p ≡ q
  last_is_one p q to h g s t = one_of p q (three p q) (last_isnt_above p q to h g s t) (last_isnt_above q p to g h t s)

-- ---- a history has one last position

stuck_isnt_above : (w : World) (records : List Record) (p q : Position) → IsLast w records p → IsLast w records q → IsBefore p q → ⊥
stuck_isnt_above w records p q l m lt = elim l.stuck [
  | inl none ↦ let x = has_event records p q m.position lt in let no : None ≡ Some x.0 = sym none ∙ x.1 in cc
  | inr blocked ↦ not_blocked w records p q l.position m.position lt m.accepted blocked
]

pub last_is_unique : (w : World) (records : List Record) (p q : Position) → IsLast w records p → IsLast w records q → p ≡ q
last_is_unique w records p q l m = one_of p q (three p q) (stuck_isnt_above w records p q l m) (stuck_isnt_above w records q p m l)
