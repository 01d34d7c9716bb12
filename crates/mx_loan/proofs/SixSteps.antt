-- The six kinds of step, on the view that has both halves.
use Rattle.std.proofs.Common.{◌≡◌, ◌≢◌, ◌==◌, ◌⊎◌, ℕ, zero, suc, ◌+◌, ◌<◌, List, [], ◌∷◌, ◌++◌, length, set, Some, None, Option, Bool, refl, sym, ap, ◌∙◌, subst, ⊎_elim, arith, eq-eqb, ne_eqb, get_or-set_same}
use Rattle.std.specs.Prelude.{cond}
use Rattle.std.proofs.lemmas.List.{append-nil, get_or-set_other, same_from_push}
use Rattle.std.proofs.lemmas.List.Elements.{filter-append}
use mathlib.Core.List.{IsPrefix}
use Rattle.mx_machine.specs.History.{part_of}
use Rattle.mx_machine.specs.declared.history.Record.{Record}
use Rattle.mx_machine.specs.declared.history.Recorded.TheVariants.{Take, Back}
use Rattle.mx_machine.specs.declared.holding.Out.{Out}
use Rattle.mx_loan.specs.declared.knowledge.Knowledge.{Knowledge}
use Rattle.mx_loan.specs.declared.knowledge.Announcement.{Announcement}
use Rattle.mx_loan.specs.Rule.{lent_to, word_at_rest, WordMeans, home, out, offer, back, home_with_note_due, out_with_note_due, JoinedFacts, IsJoined, view_after_offer, view_after_take, view_after_return, view_after_close, view_after_record, view_after_note, value_of_ghost}
use Rattle.mx_loan.proofs.Changes.{ChangesOneActor}
use Rattle.mx_loan.proofs.Fronts.{prefix_self, prefix_trans}

module _ {n : ℕ} {p mine : List Record} {lent held : Option Out} where
  pub at_home : WordMeans n p mine lent held → n ≡ 0 → (p ≡ mine) × (lent ≡ None) × (held ≡ None)
  at_home (home e a b d) z = (a, b, d)
  at_home (out x e _ _ _) z = absurd (omega arith)
  at_home (offer r x e _ _ _ _) z = absurd (omega arith)
  at_home (back r k x e _ _ _ _) z = absurd (omega arith)
  at_home (home_with_note_due r e _ _ _) z = absurd (omega arith)
  at_home (out_with_note_due r x e _ _ _) z = absurd (omega arith)

  pub at_out : WordMeans n p mine lent held → n ≡ 2 → (x : Out) × (p ≡ mine) × (lent ≡ Some x) × (held ≡ Some x)
  at_out (home e a b d) z = absurd (omega arith)
  at_out (out x e a b d) z = (x, a, b, d)
  at_out (offer r x e _ _ _ _) z = absurd (omega arith)
  at_out (back r k x e _ _ _ _) z = absurd (omega arith)
  at_out (home_with_note_due r e _ _ _) z = absurd (omega arith)
  at_out (out_with_note_due r x e _ _ _) z = absurd (omega arith)

  pub at_offer : WordMeans n p mine lent held → n ≡ 1 → (r : Record) × (x : Out) × (p ≡ mine ++ r ∷ []) × (lent ≡ Some x) × (held ≡ None)
  at_offer (home e a b d) z = absurd (omega arith)
  at_offer (out x e a b d) z = absurd (omega arith)
  at_offer (offer r x e _ a b d) z = (r, x, a, b, d)
  at_offer (back r k x e _ _ _ _) z = absurd (omega arith)
  at_offer (home_with_note_due r e _ _ _) z = absurd (omega arith)
  at_offer (out_with_note_due r x e _ _ _) z = absurd (omega arith)

  pub at_back : WordMeans n p mine lent held → n ≡ 3 → (r : Record) × (x : Out) × (mine ≡ p ++ r ∷ []) × (lent ≡ Some x) × (held ≡ None)
  at_back (home e a b d) z = absurd (omega arith)
  at_back (out x e a b d) z = absurd (omega arith)
  at_back (offer r x e _ a b d) z = absurd (omega arith)
  at_back (back r k x e _ a b d) z = (r, x, a, b, d)
  at_back (home_with_note_due r e _ _ _) z = absurd (omega arith)
  at_back (out_with_note_due r x e _ _ _) z = absurd (omega arith)

last_same : (xs ys : List Record) (x y : Record) → xs ++ x ∷ [] ≡ ys ++ y ∷ [] → x ≡ y
last_same xs ys x y e = (same_from_push xs ys x y e).1

pub part_own : (a : ℕ) (h : List Record) (r : Record) → r.actor ≡ a → part_of (h ++ r ∷ []) a ≡ part_of h a ++ r ∷ []
part_own a h r same = filter-append (λ (s : Record). s.actor == a) h (r ∷ []) ∙ ap (λ (l : List Record). part_of h a ++ l) (subst (λ (b : Bool). cond b (r ∷ []) [] ≡ r ∷ []) (sym (eq-eqb r.actor a same)) refl)

pub part_other : (b : ℕ) (r : Record) → b ≢ r.actor → part_of (r ∷ []) b ≡ []
part_other b r other = subst (λ (t : Bool). cond t (r ∷ []) [] ≡ []) (sym (ne_eqb r.actor b (λ same. other (sym same)))) refl

cleared : (xs : List (Option Out)) (a : ℕ) → lent_to (set xs a None) a ≡ None
cleared [] a = refl
cleared (x ∷ xs) zero = refl
cleared (x ∷ xs) (suc a) = cleared xs a

longer : (xs ys : List Record) (r : Record) → IsPrefix xs ys → IsPrefix xs (ys ++ r ∷ [])
longer xs ys r p = prefix_trans xs ys (ys ++ r ∷ []) p (r ∷ [], refl)

whole : (xs ys : List Record) → xs ≡ ys → IsPrefix xs ys
whole xs ys same = ([], append-nil xs ∙ same)

module _ (v : Knowledge) (x : Announcement) (both : IsJoined v) where
  StepFacts : Knowledge → ℕ → Type 0
  StepFacts w old = (v.phase ≡ old) × ChangesOneActor v w × JoinedFacts w

  same_alone : (w : Knowledge) → w.actor ≡ v.actor → IsJoined w → w.history ≡ v.history → w.lent ≡ v.lent → ChangesOneActor v w
  same_alone w a b h l = record {
    actor = a;
    both = b;
    history = ([], h ∙ sym (append-nil v.history), λ b _. refl);
    lent = λ b _. ap (λ (k : List (Option Out)). lent_to k b) l;
  }

  pub offers : x.record.actor ≡ v.actor → x.record.event ≡ Take → (y : Out) → value_of_ghost x.lent ≡ Some y → v.actor < length v.lent → v.phase ≡ 0 → JoinedFacts v → (v.phase ≡ 0) × ((view_after_offer v x).phase ≡ 1) × ChangesOneActor v (view_after_offer v x) × JoinedFacts (view_after_offer v x)
  offers mine take y lent room z own =
      let t = at_home own.word z in (
        z,
        refl,
        record {
          actor = refl;
          both = both;
          history = (x.record ∷ [], refl, λ b other. part_other b x.record (λ same. other (same ∙ mine)));
          lent = λ b other. get_or-set_other v.lent v.actor b (value_of_ghost x.lent) None other;
        },
        record {
          seen = longer v.seen v.history x.record own.seen;
          known = own.known;
          word = offer x.record y refl take (part_own v.actor v.history x.record mine ∙ ap (λ (l : List Record). l ++ x.record ∷ []) t.0)
              (get_or-set_same v.lent v.actor (value_of_ghost x.lent) None room ∙ lent) t.2;
        },
      )

  pub takes : x.record.actor ≡ v.actor → (h : List Record) → v.history ≡ h ++ x.record ∷ [] → value_of_ghost x.lent ≡ lent_to v.lent v.actor → v.phase ≡ 1 → JoinedFacts v → (v.phase ≡ 1) × ((view_after_take v x).phase ≡ 2) × ChangesOneActor v (view_after_take v x) × JoinedFacts (view_after_take v x)
  takes mine h ends lent z own =
      let t = at_offer own.word z in
      let r : t.0 ≡ x.record = last_same v.mine (part_of h v.actor) t.0 x.record (sym t.2 ∙ ap (λ (l : List Record). part_of l v.actor) ends ∙ part_own v.actor h x.record mine) in
      let now : part_of v.history v.actor ≡ v.mine ++ x.record ∷ [] = t.2 ∙ ap (λ (q : Record). v.mine ++ q ∷ []) r in (
        z,
        refl,
        same_alone (view_after_take v x) refl both refl refl,
        record {
          seen = prefix_self v.history;
          known = whole (part_of v.history v.actor) (v.mine ++ x.record ∷ []) now;
          word = out t.1 refl now t.3 (lent ∙ t.3);
        },
      )

  pub returns : (k : ℕ) → x.record.event ≡ Back k → v.phase ≡ 2 → JoinedFacts v → (v.phase ≡ 2) × ((view_after_return v x).phase ≡ 3) × ChangesOneActor v (view_after_return v x) × JoinedFacts (view_after_return v x)
  returns k is z own =
      let t = at_out own.word z in (
        z,
        refl,
        same_alone (view_after_return v x) refl both refl refl,
        record {
          seen = own.seen;
          known = longer (part_of v.seen v.actor) v.mine x.record own.known;
          word = back x.record k t.0 refl is (ap (λ (l : List Record). l ++ x.record ∷ []) (sym t.1)) t.2 refl;
        },
      )

  pub closes : x.record.actor ≡ v.actor → (m : List Record) → v.mine ≡ m ++ x.record ∷ [] → v.phase ≡ 3 → JoinedFacts v → (v.phase ≡ 3) × ((view_after_close v x).phase ≡ 0) × ChangesOneActor v (view_after_close v x) × JoinedFacts (view_after_close v x)
  closes mine m ends z own =
      let t = at_back own.word z in
      let r : t.0 ≡ x.record = last_same (part_of v.history v.actor) m t.0 x.record (sym t.2 ∙ ends) in (
        z,
        refl,
        record {
          actor = refl;
          both = both;
          history = (x.record ∷ [], refl, λ b other. part_other b x.record (λ same. other (same ∙ mine)));
          lent = λ b other. get_or-set_other v.lent v.actor b None None other;
        },
        record {
          seen = longer v.seen v.history x.record own.seen;
          known = own.known;
          word = home refl (part_own v.actor v.history x.record mine ∙ ap (λ (q : Record). part_of v.history v.actor ++ q ∷ []) (sym r) ∙ sym t.2)
              (cleared v.lent v.actor) t.4;
        },
      )

  rec_word : x.record.actor ≡ v.actor → (v.phase ≡ word_at_rest v.held) → WordMeans v.phase (part_of v.history v.actor) v.mine (lent_to v.lent v.actor) v.held → WordMeans (v.phase + 4) (part_of (v.history ++ x.record ∷ []) v.actor) v.mine (lent_to v.lent v.actor) v.held
  rec_word mine z (home e a b d) = home_with_note_due x.record (omega arith) (part_own v.actor v.history x.record mine ∙ ap (λ (l : List Record). l ++ x.record ∷ []) a) b d
  rec_word mine z (out y e a b d) = out_with_note_due x.record y (omega arith) (part_own v.actor v.history x.record mine ∙ ap (λ (l : List Record). l ++ x.record ∷ []) a) b d
  rec_word mine z (offer r y e _ a b d) = let s : v.phase ≡ 0 = z ∙ ap word_at_rest d in absurd (omega arith)
  rec_word mine z (back r k y e _ a b d) = let s : v.phase ≡ 0 = z ∙ ap word_at_rest d in absurd (omega arith)
  rec_word mine z (home_with_note_due r e a b d) = let s : v.phase ≡ 0 = z ∙ ap word_at_rest d in absurd (omega arith)
  rec_word mine z (out_with_note_due r y e a b d) = let s : v.phase ≡ 2 = z ∙ ap word_at_rest d in absurd (omega arith)

  pub records : x.record.actor ≡ v.actor → (old new : ℕ) → v.phase ≡ old → new ≡ old + 4 → v.phase ≡ word_at_rest v.held → JoinedFacts v → (v.phase ≡ old) × ((view_after_record v x).phase ≡ new) × ChangesOneActor v (view_after_record v x) × JoinedFacts (view_after_record v x)
  records mine old new at next z own = (
    at,
    omega arith,
    record {
      actor = refl;
      both = both;
      history = (x.record ∷ [], refl, λ b other. part_other b x.record (λ same. other (same ∙ mine)));
      lent = λ b other. refl;
    },
    record {
      seen = longer v.seen v.history x.record own.seen;
      known = own.known;
      word = rec_word mine z own.word;
    },
  )

  -- the word may be view_after_note: 0, 2, 4 or 6
  note_word : (v.phase ≡ word_at_rest v.held) ⊎ (v.phase ≡ word_at_rest v.held + 4) → WordMeans v.phase (part_of v.history v.actor) v.mine (lent_to v.lent v.actor) v.held → WordMeans (word_at_rest v.held) (part_of v.history v.actor) (part_of v.history v.actor) (lent_to v.lent v.actor) v.held
  note_word z (home e a b d) = home (ap word_at_rest d) refl b d
  note_word z (out y e a b d) = out y (ap word_at_rest d) refl b d
  note_word z (offer r y e _ a b d) = let s : word_at_rest v.held ≡ 0 = ap word_at_rest d in absurd (⊎_elim (λ (t : v.phase ≡ word_at_rest v.held). omega arith) (λ (t : v.phase ≡ word_at_rest v.held + 4). omega arith) z)
  note_word z (back r k y e _ a b d) = let s : word_at_rest v.held ≡ 0 = ap word_at_rest d in absurd (⊎_elim (λ (t : v.phase ≡ word_at_rest v.held). omega arith) (λ (t : v.phase ≡ word_at_rest v.held + 4). omega arith) z)
  note_word z (home_with_note_due r e a b d) = home (ap word_at_rest d) refl b d
  note_word z (out_with_note_due r y e a b d) = out y (ap word_at_rest d) refl b d

  pub notes : (old new : ℕ) → v.phase ≡ old → new ≡ word_at_rest v.held → (v.phase ≡ word_at_rest v.held) ⊎ (v.phase ≡ word_at_rest v.held + 4) → JoinedFacts v → (v.phase ≡ old) × ((view_after_note v x).phase ≡ new) × ChangesOneActor v (view_after_note v x) × JoinedFacts (view_after_note v x)
  notes old new at next z own = (
    at,
    sym next,
    same_alone (view_after_note v x) refl both refl refl,
    record {
      seen = prefix_self v.history;
      known = prefix_self (part_of v.history v.actor);
      word = note_word z own.word;
    },
  )
