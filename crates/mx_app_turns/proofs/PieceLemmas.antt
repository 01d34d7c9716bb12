-- Turns that are made some at a time.
use Rattle.std.proofs.Common.{◌≡◌, ◌≢◌, ◌∙◌, ◌+◌, ◌-◌, ◌≤◌, ℕ, zero, suc, ◌++◌, Bool, true, false, true≢false, List, [], ◌∷◌, drop, refl, ap, sym, subst, arith, append_assoc}
use Rattle.std.proofs.lemmas.List.{append-nil, drop-drop}
use Rattle.mx_machine.specs.History.{world_after_events}
use Rattle.mx_machine.specs.Machine.{MachineState, world_of}
use Rattle.mx_machine.specs.World.{World}
use Rattle.mx_machine.proofs.ReplayLemmas.{after_append}
use Rattle.mx_turns.specs.declared.outside.OutsideLine.{OutsideLine}
use Rattle.mx_turns.specs.declared.turns.Ending.{Ending}
use Rattle.mx_turns.specs.declared.turns.Ending.TheVariants.{Rest, Turns, Full}
use Rattle.mx_turns.specs.Made.{HasMade}
use Rattle.mx_turns.specs.Shown.{goes_on, goes_on_after, part_after, part_of, turns_shown}
use Rattle.mx_turns.specs.Turns.{Course, joined, turns}
use Rattle.mx_turns.proofs.LawLemmas.{turns_ended, turns_joined}
use Rattle.mx_turns.proofs.MadeLemmas.{then_made}
use Rattle.mx_turns.proofs.OfferLemmas.{Offers}
use Rattle.mx_turns.proofs.ShownLemmas.{if_made, shown_all, shown_more}
use Rattle.mx_turns.proofs.TurnLemmas.{IsAfterTurns, StandsAfter}
use Rattle.mx_walk.specs.declared.progress.Part.{Part}
use Rattle.mx_app_turns.specs.declared.turning.TurnsEnd.{TurnsEnd}
use Rattle.mx_app_turns.specs.Turned.{AreSome}

still : (how : Ending) → how ≢ Turns → goes_on how ≡ false
still Rest h = refl
still Turns h = absurd (h refl)
still Full h = refl

module _ (m : MachineState) (coming : List OutsideLine) (made : ℕ) (n : MachineState) (s : StandsAfter m coming made n) where
  -- what comes of k turns more
  abbrev left : ℕ → Course
  left k = turns k (world_of n) (drop made coming)

  after : (k : ℕ) → turns (made + k) (world_of m) coming ≡ joined s.0 (left k)
  after k =
      let le : made ≤ made + k = omega arith in
      let e : (made + k) - made ≡ k = omega arith in
      s.2 (made + k) le ∙ ap (λ i. joined s.0 (turns i (world_of n) (drop made coming))) e

  -- ---- what is shown

  goes : (k : ℕ) → goes_on_after (world_of m) coming (made + k) ≡ goes_on_after (world_of n) (drop made coming) k
  goes k = ap (λ (c : Course). goes_on c.ending) (after k)

  part : (log k : ℕ) → part_after log (world_of m) coming (made + k) ≡ part_after log (world_of n) (drop made coming) k
  part log k =
      let e : (made + k) + 1 ≡ made + (k + 1) = omega arith in
      ap (λ i. part_of log (world_after_events (world_of m) (turns i (world_of m) coming).made)) e
      ∙ ap (λ (c : Course). part_of log (world_after_events (world_of m) c.made)) (after (k + 1))
      ∙ ap (part_of log) (after_append (world_of m) s.0 (left (k + 1)).made)
      ∙ ap (λ (w : World). part_of log (world_after_events w (left (k + 1)).made)) (sym s.1.world)

  same : (log : ℕ) (b : Bool) (k : ℕ) → if_made log (world_of m) coming b (made + k) ≡ if_made log (world_of n) (drop made coming) b k
  same log true k = ap (λ (p : Part). p ∷ []) (part log k)
  same log false k = refl

  more : (log k : ℕ) → turns_shown log (made + k) (world_of m) coming ≡ turns_shown log made (world_of m) coming ++ turns_shown log k (world_of n) (drop made coming)
  more log zero = let e : made + zero ≡ made = omega arith in ap (λ i. turns_shown log i (world_of m) coming) e ∙ sym (append-nil (turns_shown log made (world_of m) coming))
  more log (suc k) =
      let w = world_of m in
      let v = world_of n in
      let rest = drop made coming in
      let b = goes_on_after v rest k in
      let so_far = turns_shown log made w coming in
      let e : made + suc k ≡ (made + k) + 1 = omega arith in
      let one : suc k ≡ k + 1 = omega arith in
      ap (λ i. turns_shown log i w coming) e
      ∙ shown_more log w coming b (made + k) (goes k)
      ∙ ap (λ (l : List Part). l ++ if_made log w coming b (made + k)) (more log k)
      ∙ append_assoc so_far (turns_shown log k v rest) (if_made log w coming b (made + k))
      ∙ ap (λ (l : List Part). so_far ++ (turns_shown log k v rest ++ l)) (same log b k)
      ∙ ap (λ (l : List Part). so_far ++ l) (sym (shown_more log v rest b k refl))
      ∙ ap (λ i. so_far ++ turns_shown log i v rest) (sym one)

  module _ (log : ℕ) (before now then : List Part) (shown : now ≡ before ++ turns_shown log made (world_of m) coming) where
    pub shown_so : (k : ℕ) → then ≡ now ++ turns_shown log k (world_of n) (drop made coming) → then ≡ before ++ turns_shown log (made + k) (world_of m) coming
    shown_so k h =
        h ∙ ap (λ (l : List Part). l ++ turns_shown log k (world_of n) (drop made coming)) shown
        ∙ append_assoc before (turns_shown log made (world_of m) coming) (turns_shown log k (world_of n) (drop made coming))
        ∙ ap (λ (l : List Part). before ++ l) (sym (more log k))

    -- all that were asked for are made
    pub shown_last : (bound k : ℕ) → made + k ≡ bound → then ≡ now ++ turns_shown log k (world_of n) (drop made coming) → then ≡ before ++ turns_shown log bound (world_of m) coming
    shown_last bound k e h = shown_so k h ∙ ap (λ i. before ++ turns_shown log i (world_of m) coming) e

  -- ---- k turns more

  -- others are left
  pub stands_more : (k : ℕ) (p : MachineState) → HasMade n (left k).made p → (left k).ending ≡ Turns → StandsAfter m coming (made + k) p
  stands_more k p h e = (
    s.0 ++ (left k).made,
    then_made m n p s.0 (left k).made s.1 h,
    (λ bound le.
        let below : made ≤ bound = omega (arith, le) in
        let rest = bound - (made + k) in
        let split : bound - made ≡ k + (bound - (made + k)) = omega (arith, le) in
        let later = turns rest (world_of p) (drop (made + k) coming) in
        s.2 bound below
        ∙ ap (λ i. joined s.0 (turns i (world_of n) (drop made coming))) split
        ∙ ap (joined s.0) (turns_joined k rest (world_of n) (drop made coming) e)
        ∙ ap (λ (u : World). joined s.0 (joined (left k).made (turns rest u (drop k (drop made coming))))) (sym h.world)
        ∙ ap (λ (l : List OutsideLine). joined s.0 (joined (left k).made (turns rest (world_of p) l))) (drop-drop k made coming)
        ∙ ap (λ (l : Offers). let z : Course = record { made = l; ending = later.ending } in z) (sym (append_assoc s.0 (left k).made later.made))),
  )

  made_by : (bound k : ℕ) (p : MachineState) (how : Ending) → turns bound (world_of m) coming ≡ joined s.0 (left k) → HasMade n (left k).made p → how ≡ (left k).ending → IsAfterTurns bound m coming p how
  made_by bound k p how all h is = record {
    made = subst (λ (c : Course). HasMade m c.made p) (sym all) (then_made m n p s.0 (left k).made s.1 h);
    ending = is ∙ ap (λ (c : Course). c.ending) (sym all);
  }

  -- no others are asked for
  pub made_last : (bound k : ℕ) (p : MachineState) (how : Ending) → made + k ≡ bound → HasMade n (left k).made p → how ≡ (left k).ending → IsAfterTurns bound m coming p how
  made_last bound k p how e h is = made_by bound k p how (ap (λ i. turns i (world_of m) coming) (sym e) ∙ after k) h is

  -- they ended before
  over : (bound k : ℕ) → made + k ≤ bound → (left k).ending ≢ Turns → turns bound (world_of m) coming ≡ joined s.0 (left k)
  over bound k le ends =
      let rest = bound - (made + k) in
      let split : bound ≡ made + (k + (bound - (made + k))) = omega (arith, le) in
      ap (λ i. turns i (world_of m) coming) split ∙ after (k + rest) ∙ ap (joined s.0) (turns_ended k rest (world_of n) (drop made coming) ends)

  pub made_over : (bound k : ℕ) (p : MachineState) (how : Ending) → made + k ≤ bound → how ≢ Turns → HasMade n (left k).made p → how ≡ (left k).ending → IsAfterTurns bound m coming p how
  made_over bound k p how le ends h is = made_by bound k p how (over bound k le (λ x. ends (is ∙ x))) h is

  pub shown_over : (log : ℕ) (before now then : List Part) (bound k : ℕ) (how : Ending) → now ≡ before ++ turns_shown log made (world_of m) coming → made + k ≤ bound → how ≢ Turns → how ≡ (left k).ending
      → then ≡ now ++ turns_shown log k (world_of n) (drop made coming) → then ≡ before ++ turns_shown log bound (world_of m) coming
  shown_over log before now then bound k how shown le ends is h =
      let none : (left k).ending ≢ Turns = λ x. ends (is ∙ x) in
      shown_so log before now then shown k h
      ∙ ap (λ (l : List Part). before ++ l) (sym (shown_all log (world_of m) coming (made + k) bound le (λ j above. ap (λ (c : Course). goes_on c.ending) (over j k above none) ∙ still (left k).ending none)))

-- ---- whether they were stopped

-- all that were asked for are made, or there are no others
pub all_made : (stops : Bool) (n : ℕ) (how : TurnsEnd) → how.is_stopped ≡ false → AreSome stops n how n
all_made stops n how off = record {
  most = omega arith;
  all = λ h. refl;
  stopped = λ on. absurd (true≢false (sym on ∙ off));
}

pub stopped_at : (stops : Bool) (n made : ℕ) (how : TurnsEnd) → made ≤ n → how.is_stopped ≡ true → stops ≡ true → AreSome stops n how made
stopped_at stops n made how few on may = record {
  most = few;
  all = λ off. absurd (true≢false (sym on ∙ off));
  stopped = λ h. may;
}
