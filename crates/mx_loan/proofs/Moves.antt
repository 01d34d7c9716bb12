-- Each step preserves the rule.
use Rattle.std.proofs.Common.{◌≡◌, ◌≢◌, ◌==◌, ◌⊎◌, ℕ, zero, suc, ◌+◌, ◌<◌, List, [], ◌∷◌, ◌++◌, length, replicate, set, Some, None, Option, Bool, true, false, true≢false, refl, sym, ap, ◌∙◌, subst, inl, inr, ⊎_elim, arith, length-set, eq-eqb, ne_eqb, get_or-set_same}
use Rattle.std.specs.Prelude.{slice_index}
use Rattle.std.proofs.lemmas.List.{append-nil, get_or-set_other, length-replicate}
use Rattle.std.proofs.lemmas.List.Elements.{filter-append}
use mathlib.Core.List.{IsPrefix}
use mathlib.Core.Logic.{dite}
use mathlib.Core.Option.{some, some-ne-none, some-injective}
use native.Mathlib.Decide.{ℕ_discrete}
use prog.Atomic.{either}
use lib.ListN.{get_elem?}
use Rattle.atomic_table.specs.Table.{step, Allows, keeps, Splits, Joins}
use Rattle.atomic_table.proofs.Lists.{at_set}
use Rattle.mx_machine.specs.History.{part_of}
use Rattle.mx_machine.specs.declared.history.Record.{Record}
use Rattle.mx_machine.specs.declared.holding.Out.{Out}
use Rattle.mx_loan.specs.declared.ghost_value.Ghost.{Ghost}
use Rattle.mx_loan.specs.declared.knowledge.Knowledge.{Knowledge}
use Rattle.mx_loan.specs.declared.knowledge.Announcement.{Announcement}
use Rattle.mx_loan.specs.declared.knowledge.TableSizes.{TableSizes}
use Rattle.mx_loan.specs.Rule.{lent_to, spent_view, kernel_half, actor_half, founder_view, founder_after_birth, newborn_view, FoundingFacts, word_at_rest, joined_view, WordMeans, home, out, offer, back, home_with_note_due, out_with_note_due, IsResting, KernelFacts, ActorFacts, RuleHolds, JoinedFacts, IsJoined, StepMakes}
use Rattle.mx_loan.proofs.Changes.{ChangesOneActor}
use Rattle.mx_loan.proofs.Fronts.{prefix_trans}

off : {A : Type 0} (b : Bool) → b ≡ false → b ≡ true → A
off b never it = absurd (true≢false (sym it ∙ never))

-- the rule for a view that has both halves
pub own_of : (words : List ℕ) (views : List Knowledge) (id : ℕ) (v : Knowledge) → RuleHolds words views → get_elem? views id ≡ some v → IsJoined v
    → (v.actor < length words) × (slice_index words v.actor ≡ v.phase) × JoinedFacts v
own_of words views id v h at both =
    let k = (h.knows id v at both.0).1 in
    let s = (h.sits id v at both.1).1 in
    let n = k.phase both.1 in (
      s.inside,
      n,
      record {
        seen = subst (λ (l : List Record). IsPrefix v.seen l) (sym k.history) s.seen;
        known = s.known;
        word = rw (k.history, k.lends, ← n) s.word;
      },
    )

part_more : (b : ℕ) (h e g : List Record) → g ≡ h ++ e → part_of e b ≡ [] → part_of g b ≡ part_of h b
part_more b h e g same none = ap (λ (l : List Record). part_of l b) same ∙ filter-append (λ (r : Record). r.actor == b) h e ∙ ap (λ (l : List Record). part_of h b ++ l) none ∙ append-nil (part_of h b)

-- a step of a joined_view seat, at its actor's word
pub keeps_rule : (words : List ℕ) (views : List Knowledge) (id : ℕ) (v w : Knowledge) → RuleHolds words views → get_elem? views id ≡ some v → IsJoined v → ChangesOneActor v w → JoinedFacts w
    → RuleHolds (set words v.actor w.phase) (set views id w)
keeps_rule words views id v w h at both alone own =
    let mine = own_of words views id v h at both in
    let kv = h.knows id v at both.0 in
    let sv = h.sits id v at both.1 in
    record {
      log = w.history;
      lent = w.lent;
      kernel = h.kernel;
      place = h.place;
      knows = λ by u e knows. ⊎_elim
          (λ (t : (by ≡ id) × (w ≡ u)). (
            t.0 ∙ kv.0,
            subst (λ (x : Knowledge). KernelFacts (set words v.actor w.phase) w.history w.lent x) t.1 (record {
              history = refl;
              lends = refl;
              still = λ b other. still b (other alone.both.1);
              phase = λ _. here;
            }),
          ))
          (λ (t : (by ≢ id) × (get_elem? views by ≡ some u)). absurd (t.0 ((h.knows by u t.1 knows).0 ∙ sym kv.0)))
          (at_set views id by w u e);
      sits = λ by u e sits. ⊎_elim
          (λ (t : (by ≡ id) × (w ≡ u)). subst (λ (x : Knowledge). (by ≡ h.place x.actor) × ActorFacts (set words v.actor w.phase) w.history w.lent x) t.1 (
            t.0 ∙ sv.0 ∙ ap h.place (sym alone.actor),
            record {
              inside = omega (arith, length-set words v.actor w.phase, alone.actor, mine.0);
              seen = own.seen;
              known = own.known;
              word = rw here own.word;
            },
          ))
          (λ (t : (by ≢ id) × (get_elem? views by ≡ some u)). others by u t.0 t.1 sits)
          (at_set views id by w u e);
      found = λ by u e founding. ⊎_elim
          (λ (t : (by ≡ id) × (w ≡ u)). off u.founding (sym (ap (λ (x : Knowledge). x.founding) t.1) ∙ alone.both.2) founding)
          (λ (t : (by ≢ id) × (get_elem? views by ≡ some u)). absurd (t.0 ((h.found by u t.1 founding).0 ∙ sym kv.0)))
          (at_set views id by w u e);
    }
  where
    mine' : (v.actor < length words) × (slice_index words v.actor ≡ v.phase) × JoinedFacts v
    mine' = own_of words views id v h at both

    here : slice_index (set words v.actor w.phase) w.actor ≡ w.phase
    here = ap (slice_index (set words v.actor w.phase)) alone.actor ∙ get_or-set_same words v.actor w.phase 0 mine'.0

    still : (b : ℕ) → b ≢ w.actor → IsResting (slice_index (set words v.actor w.phase) b)
    still b other =
        let apart : b ≢ v.actor = λ same. other (same ∙ sym alone.actor) in
        subst IsResting (sym (get_or-set_other words v.actor b w.phase 0 apart)) (((h.knows id v at both.0).1).still b (λ _. apart))

    others : (by : ℕ) (u : Knowledge) → by ≢ id → get_elem? views by ≡ some u → u.sits ≡ true → (by ≡ h.place u.actor) × ActorFacts (set words v.actor w.phase) w.history w.lent u
    others by u apart e sits =
        let k = (h.knows id v at both.0).1 in
        let t = h.sits by u e sits in
        let other : u.actor ≢ v.actor = λ same. apart (t.0 ∙ ap h.place same ∙ sym (h.sits id v at both.1).0) in (
          t.0,
          record {
            inside = omega (arith, length-set words v.actor w.phase, t.1.inside);
            seen = prefix_trans u.seen h.log w.history t.1.seen (subst (λ (l : List Record). IsPrefix l w.history) k.history (alone.history.0, sym alone.history.1));
            known = t.1.known;
            word = subst (λ (n : ℕ). WordMeans n (part_of w.history u.actor) u.mine (lent_to w.lent u.actor) u.held) (sym (get_or-set_other words v.actor u.actor w.phase 0 other))
                (subst (λ (l : List Record). WordMeans (slice_index words u.actor) l u.mine (lent_to w.lent u.actor) u.held) (ap (λ (l : List Record). part_of l u.actor) (sym k.history) ∙ sym (part_more u.actor v.history alone.history.0 w.history alone.history.1 (alone.history.2 u.actor other)))
                (subst (λ (l : Option Out). WordMeans (slice_index words u.actor) (part_of h.log u.actor) u.mine l u.held) (ap (λ (l : List (Option Out)). lent_to l u.actor) (sym k.lends) ∙ sym (alone.lent u.actor other))
                t.1.word));
          },
        )

-- the words of a step: any step that preserves the facts of the view with both halves is allowed
pub allows : (f : Knowledge → Announcement → Knowledge) (slots id : ℕ) (v : Knowledge) (c : List (ℕ × Ghost Announcement)) (old new : ℕ) (x : Ghost Announcement) → IsJoined v
    → (JoinedFacts v → (v.phase ≡ old) × ((f v x.value).phase ≡ new) × ChangesOneActor v (f v x.value) × JoinedFacts (f v x.value))
    → Allows {S = Ghost Announcement} {V = Knowledge} (λ s. RuleHolds s.words s.views) slots id (v, c) v.actor (λ n. either (n == old) new n) (StepMakes f (step slots v.actor old new (some x)) (v, c))
allows f slots id v c old new x both go s h _ at _ =
    let o = own_of s.words s.views id v h at both in
    let own : JoinedFacts v = o.2 in
    let t = go own in
    let n : ℕ = slice_index s.words v.actor in
    let hit : n ≡ old = o.1 ∙ t.0 in
    let now : either (n == old) new n ≡ (f v x.value).phase = subst (λ (b : Bool). either b new n ≡ (f v x.value).phase) (sym (eq-eqb n old hit)) (sym t.1) in (
      f v x.value,
      keeps,
      tt,
      subst (λ (m : ℕ). RuleHolds (set s.words v.actor m) (set s.views id (f v x.value))) (sym now) (keeps_rule s.words s.views id v (f v x.value) h at both t.2 t.3),
      (x, refl, refl, own, t.3),
    )

-- the halves are put together
joins_word : (n : ℕ) (p mine : List Record) (lent held : Option Out) → IsResting n → WordMeans n p mine lent held → n ≡ word_at_rest held
joins_word n p mine lent held still (home e _ _ h) = e ∙ sym (ap word_at_rest h)
joins_word n p mine lent held still (out x e _ _ h) = e ∙ sym (ap word_at_rest h)
joins_word n p mine lent held still (offer r x e _ _ _ _) = absurd (⊎_elim (λ (z : n ≡ 0). omega arith) (λ (z : n ≡ 2). omega arith) still)
joins_word n p mine lent held still (back r k x e _ _ _ _) = absurd (⊎_elim (λ (z : n ≡ 0). omega arith) (λ (z : n ≡ 2). omega arith) still)
joins_word n p mine lent held still (home_with_note_due r e _ _ _) = absurd (⊎_elim (λ (z : n ≡ 0). omega arith) (λ (z : n ≡ 2). omega arith) still)
joins_word n p mine lent held still (out_with_note_due r x e _ _ _) = absurd (⊎_elim (λ (z : n ≡ 0). omega arith) (λ (z : n ≡ 2). omega arith) still)

still_rest : (held : Option Out) → IsResting (word_at_rest held)
still_rest None = inl refl
still_rest (Some x) = inr refl

-- the place of one actor becomes i
moved_to : (ℕ → ℕ) → ℕ → ℕ → ℕ → ℕ
moved_to place a i b = either (b == a) i (place b)

moved_here : (place : ℕ → ℕ) (a i b : ℕ) → b ≡ a → moved_to place a i b ≡ i
unfolding moved_to
moved_here place a i b same = subst (λ (t : Bool). either t i (place b) ≡ i) (sym (eq-eqb b a same)) refl

moved_else : (place : ℕ → ℕ) (a i b : ℕ) → b ≢ a → moved_to place a i b ≡ place b
unfolding moved_to
moved_else place a i b other = subst (λ (t : Bool). either t i (place b) ≡ place b) (sym (ne_eqb b a other)) refl

at_end : (l : List Knowledge) (a b : Knowledge) (j : ℕ) → get_elem? (l ++ a ∷ []) j ≡ some b → (get_elem? l j ≡ some b) ⊎ ((j ≡ length l) × (a ≡ b))
at_end [] a b zero e = inr (refl, some-injective a b e)
at_end [] a b (suc j) e = absurd (some-ne-none b (sym e))
at_end (x ∷ xs) a b zero e = inl e
at_end (x ∷ xs) a b (suc j) e = ⊎_elim (λ (h : get_elem? xs j ≡ some b). inl h) (λ (h : (j ≡ length xs) × (a ≡ b)). inr (ap suc h.0, h.1)) (at_end xs a b j e)

pub joins : (id other : ℕ) (k v : Knowledge) → k.knows ≡ true → k.sits ≡ false → v.knows ≡ false → v.sits ≡ true
    → Joins {S = Ghost Announcement} {V = Knowledge} (λ s. RuleHolds s.words s.views) id k other v (joined_view k v) spent_view
joins id other k v kk ks vk vs s h at apart there = record {
  log = h.log;
  lent = h.lent;
  kernel = h.kernel;
  place = place;
  knows = λ by u e knows. ⊎_elim
      (λ (t : (by ≡ other) × (spent_view ≡ u)). absurd (true≢false (sym knows ∙ sym (ap (λ (x : Knowledge). x.knows) t.1))))
      (λ (t : (by ≢ other) × (get_elem? (set s.views id both) by ≡ some u)). ⊎_elim
      (λ (t : (by ≡ id) × (both ≡ u)). (
        t.0 ∙ kernel.0,
        subst (λ (x : Knowledge). KernelFacts s.words h.log h.lent x) t.1 record {
          history = kernel.1.history;
          lends = kernel.1.lends;
          still = λ b _. calm b;
          phase = λ _. joins_word _ _ _ _ _ (calm v.actor) own.1.word;
        },
      ))
      (λ (t : (by ≢ id) × (get_elem? s.views by ≡ some u)). absurd (t.0 ((h.knows by u t.1 knows).0 ∙ sym kernel.0)))
      (at_set s.views id by both u t.1))
      (at_set (set s.views id both) other by spent_view u e);
  sits = λ by u e sits. ⊎_elim
      (λ (t : (by ≡ other) × (spent_view ≡ u)). absurd (true≢false (sym sits ∙ sym (ap (λ (x : Knowledge). x.sits) t.1))))
      (λ (t : (by ≢ other) × (get_elem? (set s.views id both) by ≡ some u)). ⊎_elim
      (λ (r : (by ≡ id) × (both ≡ u)). subst (λ (x : Knowledge). (by ≡ place x.actor) × ActorFacts s.words h.log h.lent x) r.1
      (r.0 ∙ sym (moved_here h.place v.actor id v.actor refl), record { inside = own.1.inside; seen = own.1.seen; known = own.1.known; word = own.1.word }))
      (λ (r : (by ≢ id) × (get_elem? s.views by ≡ some u)).
      let m = h.sits by u r.1 sits in
      (m.0 ∙ sym (moved_else h.place v.actor id u.actor (λ same. t.0 (m.0 ∙ ap h.place same ∙ sym own.0))), m.1))
      (at_set s.views id by both u t.1))
      (at_set (set s.views id both) other by spent_view u e);
  found = λ by u e founding. ⊎_elim
      (λ (t : (by ≡ other) × (spent_view ≡ u)). off u.founding (sym (ap (λ (x : Knowledge). x.founding) t.1)) founding)
      (λ (t : (by ≢ other) × (get_elem? (set s.views id both) by ≡ some u)). ⊎_elim
      (λ (r : (by ≡ id) × (both ≡ u)). off u.founding (sym (ap (λ (x : Knowledge). x.founding) r.1)) founding)
      (λ (r : (by ≢ id) × (get_elem? s.views by ≡ some u)). absurd (r.0 ((h.found by u r.1 founding).0 ∙ sym kernel.0)))
      (at_set s.views id by both u t.1))
      (at_set (set s.views id both) other by spent_view u e);
}
  where
    both : Knowledge
    both = joined_view k v

    place : ℕ → ℕ
    place = moved_to h.place v.actor id

    kernel : (id ≡ h.kernel) × KernelFacts s.words h.log h.lent k
    kernel = h.knows id k at kk

    calm : (b : ℕ) → IsResting (slice_index s.words b)
    calm b = kernel.1.still b (λ yes. off k.sits ks yes)

    was : get_elem? s.views other ≡ some v
    was = ⊎_elim (λ (t : (other ≡ id) × (both ≡ v)). absurd (apart t.0)) (λ (t : (other ≢ id) × (get_elem? s.views other ≡ some v)). t.1) (at_set s.views id other both v there)

    own : (other ≡ h.place v.actor) × ActorFacts s.words h.log h.lent v
    own = h.sits other v was vs

-- and parted again
pub splits : (id : ℕ) (v : Knowledge) → IsJoined v → (v.phase ≡ word_at_rest v.held)
    → Splits {S = Ghost Announcement} {V = Knowledge} (λ s. RuleHolds s.words s.views) id v (kernel_half v) (actor_half v)
splits id v both rest s h at = record {
  log = h.log;
  lent = h.lent;
  kernel = h.kernel;
  place = place;
  knows = λ by u e knows. ⊎_elim
      (λ (old : get_elem? (set s.views id (kernel_half v)) by ≡ some u). ⊎_elim
      (λ (t : (by ≡ id) × (kernel_half v ≡ u)). (
        t.0 ∙ kernel.0,
        subst (λ (x : Knowledge). KernelFacts s.words h.log h.lent x) t.1 record {
          history = kernel.1.history;
          lends = kernel.1.lends;
          still = λ b _. calm b;
          phase = λ yes. off false refl yes;
        },
      ))
      (λ (t : (by ≢ id) × (get_elem? s.views by ≡ some u)). absurd (t.0 ((h.knows by u t.1 knows).0 ∙ sym kernel.0)))
      (at_set s.views id by (kernel_half v) u old))
      (λ (new : (by ≡ length (set s.views id (kernel_half v))) × (actor_half v ≡ u)). absurd (true≢false (sym knows ∙ sym (ap (λ (x : Knowledge). x.knows) new.1))))
      (at_end (set s.views id (kernel_half v)) (actor_half v) u by e);
  sits = λ by u e sits. ⊎_elim
      (λ (old : get_elem? (set s.views id (kernel_half v)) by ≡ some u). ⊎_elim
      (λ (t : (by ≡ id) × (kernel_half v ≡ u)). absurd (true≢false (sym sits ∙ sym (ap (λ (x : Knowledge). x.sits) t.1))))
      (λ (t : (by ≢ id) × (get_elem? s.views by ≡ some u)).
      let m = h.sits by u t.1 sits in
      (m.0 ∙ sym (moved_else h.place v.actor end u.actor (λ same. t.0 (m.0 ∙ ap h.place same ∙ sym own.0))), m.1))
      (at_set s.views id by (kernel_half v) u old))
      (λ (new : (by ≡ length (set s.views id (kernel_half v))) × (actor_half v ≡ u)). subst (λ (x : Knowledge). (by ≡ place x.actor) × ActorFacts s.words h.log h.lent x) new.1
      (new.0 ∙ sym (moved_here h.place v.actor end v.actor refl), record { inside = own.1.inside; seen = own.1.seen; known = own.1.known; word = own.1.word }))
      (at_end (set s.views id (kernel_half v)) (actor_half v) u by e);
  found = λ by u e founding. ⊎_elim
      (λ (old : get_elem? (set s.views id (kernel_half v)) by ≡ some u). ⊎_elim
      (λ (t : (by ≡ id) × (kernel_half v ≡ u)). off u.founding (sym (ap (λ (x : Knowledge). x.founding) t.1)) founding)
      (λ (t : (by ≢ id) × (get_elem? s.views by ≡ some u)). absurd (t.0 ((h.found by u t.1 founding).0 ∙ sym kernel.0)))
      (at_set s.views id by (kernel_half v) u old))
      (λ (new : (by ≡ length (set s.views id (kernel_half v))) × (actor_half v ≡ u)). off u.founding (sym (ap (λ (x : Knowledge). x.founding) new.1)) founding)
      (at_end (set s.views id (kernel_half v)) (actor_half v) u by e);
}
  where
    end : ℕ
    end = length (set s.views id (kernel_half v))

    place : ℕ → ℕ
    place = moved_to h.place v.actor end

    kernel : (id ≡ h.kernel) × KernelFacts s.words h.log h.lent v
    kernel = h.knows id v at both.0

    own : (id ≡ h.place v.actor) × ActorFacts s.words h.log h.lent v
    own = h.sits id v at both.1

    calm : (b : ℕ) → IsResting (slice_index s.words b)
    calm b = dite (ℕ_discrete b v.actor)
        (λ (same : b ≡ v.actor). subst IsResting (sym (ap (slice_index s.words) same ∙ kernel.1.phase both.1 ∙ rest)) (still_rest v.held))
        (λ (other : b ≢ v.actor). kernel.1.still b (λ _. other))

-- as `allows`, if the word's number is known by an equation
pub allows_at : (f : Knowledge → Announcement → Knowledge) (slots id : ℕ) (v : Knowledge) (c : List (ℕ × Ghost Announcement)) (old new : ℕ) (x : Ghost Announcement) (i : ℕ) → i ≡ v.actor → IsJoined v
    → (JoinedFacts v → (v.phase ≡ old) × ((f v x.value).phase ≡ new) × ChangesOneActor v (f v x.value) × JoinedFacts (f v x.value))
    → Allows {S = Ghost Announcement} {V = Knowledge} (λ s. RuleHolds s.words s.views) slots id (v, c) i (λ n. either (n == old) new n) (StepMakes f (step slots i old new (some x)) (v, c))
allows_at f slots id v c old new x i same both go =
    subst (λ (j : ℕ). Allows {S = Ghost Announcement} {V = Knowledge} (λ s. RuleHolds s.words s.views) slots id (v, c) j (λ n. either (n == old) new n) (StepMakes f (step slots j old new (some x)) (v, c)))
    (sym same) (allows f slots id v c old new x both go)

-- an actor's seat is made
pub births : (id : ℕ) (v : Knowledge) → v.founding ≡ true → v.made < v.actors
    → Splits {S = Ghost Announcement} {V = Knowledge} (λ s. RuleHolds s.words s.views) id v (founder_after_birth v) (newborn_view v)
births id v founding room s h at = record {
  log = h.log;
  lent = h.lent;
  kernel = h.kernel;
  place = place;
  knows = λ by u e knows. ⊎_elim
      (λ (old : get_elem? (set s.views id (founder_after_birth v)) by ≡ some u). ⊎_elim
      (λ (t : (by ≡ id) × (founder_after_birth v ≡ u)). (
        t.0 ∙ kernel.0,
        subst (λ (x : Knowledge). KernelFacts s.words h.log h.lent x) t.1 record {
          history = kernel.1.history;
          lends = kernel.1.lends;
          still = kernel.1.still;
          phase = kernel.1.phase;
        },
      ))
      (λ (t : (by ≢ id) × (get_elem? s.views by ≡ some u)). absurd (t.0 ((h.knows by u t.1 knows).0 ∙ sym kernel.0)))
      (at_set s.views id by (founder_after_birth v) u old))
      (λ (new : (by ≡ end) × (newborn_view v ≡ u)). off u.knows (sym (ap (λ (x : Knowledge). x.knows) new.1)) knows)
      (at_end (set s.views id (founder_after_birth v)) (newborn_view v) u by e);
  sits = λ by u e sits. ⊎_elim
      (λ (old : get_elem? (set s.views id (founder_after_birth v)) by ≡ some u). ⊎_elim
      (λ (t : (by ≡ id) × (founder_after_birth v ≡ u)). off u.sits (sym (ap (λ (x : Knowledge). x.sits) t.1) ∙ founds.both.1) sits)
      (λ (t : (by ≢ id) × (get_elem? s.views by ≡ some u)).
      let m = h.sits by u t.1 sits in
      let less : u.actor < v.made = founds.newer by u t.1 sits in
      (m.0 ∙ sym (moved_else h.place v.made end u.actor (λ same. omega arith)), m.1))
      (at_set s.views id by (founder_after_birth v) u old))
      (λ (new : (by ≡ end) × (newborn_view v ≡ u)). subst (λ (x : Knowledge). (by ≡ place x.actor) × ActorFacts s.words h.log h.lent x) new.1 (
        new.0 ∙ sym (moved_here h.place v.made end v.made refl),
        record {
          inside = omega (arith, room, founds.size);
          seen = (h.log, refl);
          known = ([], refl);
          word = home (founds.still v.made) (ap (λ (l : List Record). part_of l v.made) founds.empty) (founds.free v.made) refl;
        },
      ))
      (at_end (set s.views id (founder_after_birth v)) (newborn_view v) u by e);
  found = λ by u e f. ⊎_elim
      (λ (old : get_elem? (set s.views id (founder_after_birth v)) by ≡ some u). ⊎_elim
      (λ (t : (by ≡ id) × (founder_after_birth v ≡ u)). (
        t.0 ∙ kernel.0,
        subst (λ (x : Knowledge). FoundingFacts s.words (set s.views id (founder_after_birth v) ++ newborn_view v ∷ []) h.log h.lent x) t.1 record {
          both = founds.both;
          empty = founds.empty;
          still = founds.still;
          size = founds.size;
          free = founds.free;
          newer = newer;
        },
      ))
      (λ (t : (by ≢ id) × (get_elem? s.views by ≡ some u)). absurd (t.0 ((h.found by u t.1 f).0 ∙ sym kernel.0)))
      (at_set s.views id by (founder_after_birth v) u old))
      (λ (new : (by ≡ end) × (newborn_view v ≡ u)). off u.founding (sym (ap (λ (x : Knowledge). x.founding) new.1)) f)
      (at_end (set s.views id (founder_after_birth v)) (newborn_view v) u by e);
}
  where
    end : ℕ
    end = length (set s.views id (founder_after_birth v))

    place : ℕ → ℕ
    place = moved_to h.place v.made end

    founds : FoundingFacts s.words s.views h.log h.lent v
    founds = (h.found id v at founding).1

    kernel : (id ≡ h.kernel) × KernelFacts s.words h.log h.lent v
    kernel = h.knows id v at founds.both.0

    newer : (j : ℕ) (u : Knowledge) → get_elem? (set s.views id (founder_after_birth v) ++ newborn_view v ∷ []) j ≡ some u → u.sits ≡ true → u.actor < v.made + 1
    newer j u e sits = ⊎_elim
        (λ (old : get_elem? (set s.views id (founder_after_birth v)) j ≡ some u). ⊎_elim
        (λ (t : (j ≡ id) × (founder_after_birth v ≡ u)). off u.sits (sym (ap (λ (x : Knowledge). x.sits) t.1) ∙ founds.both.1) sits)
        (λ (t : (j ≢ id) × (get_elem? s.views j ≡ some u)). let less : u.actor < v.made = founds.newer j u t.1 sits in omega arith)
        (at_set s.views id j (founder_after_birth v) u old))
        (λ (new : (j ≡ end) × (newborn_view v ≡ u)). let same : v.made ≡ u.actor = ap (λ (x : Knowledge). x.actor) new.1 in omega arith)
        (at_end (set s.views id (founder_after_birth v)) (newborn_view v) u j e)

-- all actors' seats are made
pub founded : (id : ℕ) (v : Knowledge) → v.founding ≡ true
    → Splits {S = Ghost Announcement} {V = Knowledge} (λ s. RuleHolds s.words s.views) id v (kernel_half v) spent_view
founded id v founding s h at = record {
  log = h.log;
  lent = h.lent;
  kernel = h.kernel;
  place = h.place;
  knows = λ by u e knows. ⊎_elim
      (λ (old : get_elem? (set s.views id (kernel_half v)) by ≡ some u). ⊎_elim
      (λ (t : (by ≡ id) × (kernel_half v ≡ u)). (
        t.0 ∙ kernel.0,
        subst (λ (x : Knowledge). KernelFacts s.words h.log h.lent x) t.1 record {
          history = kernel.1.history;
          lends = kernel.1.lends;
          still = λ b _. kernel.1.still b (λ yes. off v.sits founds.both.1 yes);
          phase = λ yes. off false refl yes;
        },
      ))
      (λ (t : (by ≢ id) × (get_elem? s.views by ≡ some u)). absurd (t.0 ((h.knows by u t.1 knows).0 ∙ sym kernel.0)))
      (at_set s.views id by (kernel_half v) u old))
      (λ (new : (by ≡ length (set s.views id (kernel_half v))) × (spent_view ≡ u)). off u.knows (sym (ap (λ (x : Knowledge). x.knows) new.1)) knows)
      (at_end (set s.views id (kernel_half v)) spent_view u by e);
  sits = λ by u e sits. ⊎_elim
      (λ (old : get_elem? (set s.views id (kernel_half v)) by ≡ some u). ⊎_elim
      (λ (t : (by ≡ id) × (kernel_half v ≡ u)). off u.sits (sym (ap (λ (x : Knowledge). x.sits) t.1)) sits)
      (λ (t : (by ≢ id) × (get_elem? s.views by ≡ some u)). h.sits by u t.1 sits)
      (at_set s.views id by (kernel_half v) u old))
      (λ (new : (by ≡ length (set s.views id (kernel_half v))) × (spent_view ≡ u)). off u.sits (sym (ap (λ (x : Knowledge). x.sits) new.1)) sits)
      (at_end (set s.views id (kernel_half v)) spent_view u by e);
  found = λ by u e f. ⊎_elim
      (λ (old : get_elem? (set s.views id (kernel_half v)) by ≡ some u). ⊎_elim
      (λ (t : (by ≡ id) × (kernel_half v ≡ u)). off u.founding (sym (ap (λ (x : Knowledge). x.founding) t.1)) f)
      (λ (t : (by ≢ id) × (get_elem? s.views by ≡ some u)). absurd (t.0 ((h.found by u t.1 f).0 ∙ sym kernel.0)))
      (at_set s.views id by (kernel_half v) u old))
      (λ (new : (by ≡ length (set s.views id (kernel_half v))) × (spent_view ≡ u)). off u.founding (sym (ap (λ (x : Knowledge). x.founding) new.1)) f)
      (at_end (set s.views id (kernel_half v)) spent_view u by e);
}
  where
    founds : FoundingFacts s.words s.views h.log h.lent v
    founds = (h.found id v at founding).1

    kernel : (id ≡ h.kernel) × KernelFacts s.words h.log h.lent v
    kernel = h.knows id v at founds.both.0

zeros : (n b : ℕ) → slice_index (replicate n 0) b ≡ 0
zeros zero b = refl
zeros (suc n) zero = refl
zeros (suc n) (suc b) = zeros n b

nones : (n b : ℕ) → lent_to (replicate n None) b ≡ None
nones zero b = refl
nones (suc n) zero = refl
nones (suc n) (suc b) = nones n b

-- a table begins with one seat
pub begins : (n : TableSizes) → RuleHolds (replicate n.actors 0) (founder_view n ∷ [])
begins n = record {
  log = [];
  lent = replicate n.cpus None;
  kernel = 0;
  place = λ _. 0;
  knows = knows;
  sits = sits;
  found = found;
}
  where
    knows : (by : ℕ) (v : Knowledge) → get_elem? (founder_view n ∷ []) by ≡ some v → v.knows ≡ true → (by ≡ 0) × KernelFacts (replicate n.actors 0) [] (replicate n.cpus None) v
    knows zero v e k = (refl, subst (λ (x : Knowledge). KernelFacts (replicate n.actors 0) [] (replicate n.cpus None) x) (some-injective (founder_view n) v e) record { history = refl; lends = refl; still = λ b _. inl (zeros n.actors b); phase = λ yes. off false refl yes })
    knows (suc by) v e k = absurd (some-ne-none v (sym e))

    sits : (by : ℕ) (v : Knowledge) → get_elem? (founder_view n ∷ []) by ≡ some v → v.sits ≡ true → (by ≡ 0) × ActorFacts (replicate n.actors 0) [] (replicate n.cpus None) v
    sits zero v e k = off v.sits (sym (ap (λ (x : Knowledge). x.sits) (some-injective (founder_view n) v e))) k
    sits (suc by) v e k = absurd (some-ne-none v (sym e))

    found : (by : ℕ) (v : Knowledge) → get_elem? (founder_view n ∷ []) by ≡ some v → v.founding ≡ true → (by ≡ 0) × FoundingFacts (replicate n.actors 0) (founder_view n ∷ []) [] (replicate n.cpus None) v
    found zero v e k = (
      refl,
      subst (λ (x : Knowledge). FoundingFacts (replicate n.actors 0) (founder_view n ∷ []) [] (replicate n.cpus None) x) (some-injective (founder_view n) v e) record {
        both = (refl, refl);
        empty = refl;
        still = zeros n.actors;
        size = sym (length-replicate n.actors 0);
        free = nones n.cpus;
        newer = sits_none;
      },
    )
      where
        sits_none : (j : ℕ) (u : Knowledge) → get_elem? (founder_view n ∷ []) j ≡ some u → u.sits ≡ true → u.actor < 0
        sits_none zero u at it = off u.sits (sym (ap (λ (x : Knowledge). x.sits) (some-injective (founder_view n) u at))) it
        sits_none (suc j) u at it = absurd (some-ne-none u (sym at))
    found (suc by) v e k = absurd (some-ne-none v (sym e))
