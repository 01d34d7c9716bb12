-- Back to right before the last event that is marked.
use Rattle.std.proofs.Common.{◌≡◌, ◌∙◌, ◌⊎◌, ◌-◌, ℕ, Bool, true, false, true≢false, eqb, leb, ltb, cond, List, [], ◌++◌, append_assoc, length, map, Option, Some, None, refl, ap, sym, inl, inr, arith}
use Rattle.std.specs.Prelude.{is_some}
use Rattle.std.specs.List.{range_with_len}
use Rattle.std.specs.Option.{unwrap_or}
use Rattle.std.proofs.lemmas.Bool.{eq-eqb, le-ltb, lt-leb, ne_eqb}
use Rattle.mx_machine.specs.declared.events.Event.{Event}
use Rattle.mx_machine.specs.declared.history.Record.{Record}
use Rattle.mx_machine.specs.World.{World}
use Rattle.mx_walk.specs.declared.positions.Position.{Position}
use Rattle.mx_walk.specs.declared.progress.Part.{Part}
use Rattle.mx_walk.specs.Parts.{part_after, walk_between, walk_shown}
use Rattle.mx_walk.specs.Positions.{IsBefore, IsPosition, IsUpTo, first, is_up_to}
use Rattle.mx_walk.specs.Seeking.{HasSoughtBack, IsLastMarked, IsPassed}
use Rattle.mx_walk.specs.Walks.{Walk, checkpoint_before, shown_to}
use Rattle.mx_walk.proofs.Arriving.{first_up_to}
use Rattle.mx_walk.proofs.Next.{above_trans, up_to_of}

-- where a look back from a position leads, whose machine is at another one: to right before the event that it found, or
-- to the first position
pub record LeadsBack (f : World → ℕ × Event → World → Bool) (boot : World) (records : List Record) (here there to : Position) (met : Bool) : Type 0 where
  pub position : IsPosition records to
  pub early : IsUpTo to there
  pub back : (to ≡ first) ⊎ IsBefore to there
  pub found : met ≡ true → IsLastMarked f boot records to here
  pub nowhere : met ≡ false → (to ≡ first) × IsPassed f boot records first here

pub leads_back : (f : World → ℕ × Event → World → Bool) (boot : World) (records : List Record) (here there : Position) (o : Option Position)
    → HasSoughtBack f boot records here first there o → LeadsBack f boot records here there (unwrap_or o first) (is_some o)
leads_back f boot records here there None h = record {
  position = record { earlier = omega arith; inside = omega arith };
  early = first_up_to there;
  back = inl refl;
  found = λ e. absurd (true≢false (sym e));
  nowhere = λ e. (refl, h);
}
leads_back f boot records here there (Some p) h = record {
  position = h.0;
  early = up_to_of p there h.1;
  back = inr h.1;
  found = λ e. h.2;
  nowhere = λ e. absurd (true≢false e);
}

-- ---- what the walk there shows

isnt_up : (p q : Position) → IsBefore q p → is_up_to p q ≡ false
isnt_up p q (inl lt) =
    let other : eqb p.records q.records ≡ false = ne_eqb p.records q.records (λ e. omega (arith, e, lt)) in
    ap (λ b. cond b (leb p.steps q.steps) (ltb p.records q.records)) other ∙ le-ltb p.records q.records (omega (arith, lt))
isnt_up p q (inr h) =
    ap (λ b. cond b (leb p.steps q.steps) (ltb p.records q.records)) (eq-eqb p.records q.records (sym h.0)) ∙ lt-leb p.steps q.steps h.1

back_shown : (k : Walk) (to : Position) → IsBefore to k.here → shown_to k to ≡ walk_between k.records (checkpoint_before k.checkpoints to) to
back_shown k to lt = ap (λ b. walk_between k.records (let q : Position = cond b k.here (checkpoint_before k.checkpoints to) in q) to) (isnt_up k.here to lt)

first_shown : (k : Walk) (to : Position) → to ≡ first → shown_to k to ≡ []
first_shown k to e =
    let m : ℕ = (let q : Position = cond (is_up_to k.here to) k.here (checkpoint_before k.checkpoints to) in q).records in
    let none : to.records ≡ 0 = ap (λ (p : Position). p.records) e in
    let less : to.records - m ≡ 0 = omega (arith, none) in
    ap (λ i. map (part_after (length k.records)) (range_with_len m i)) less

-- it is the same from where the machine is as from where the look back began
pub same_shown : (k : Walk) (there to : Position) → IsUpTo there k.here → (to ≡ first) ⊎ IsBefore to there → shown_to (record k { here = there }) to ≡ shown_to k to
same_shown k there to up (inl e) = first_shown (record k { here = there }) to e ∙ sym (first_shown k to e)
same_shown k there to up (inr lt) = back_shown (record k { here = there }) to lt ∙ sym (back_shown k to (above_trans to there k.here lt up))

-- and comes after each record up to where that began
pub then_back : (k w l : Walk) (to : Position) (before now after : List Part) → w ≡ record k { here = w.here } → l ≡ record w { here = to } → IsUpTo w.here k.here → (to ≡ first) ⊎ IsBefore to w.here
    → now ≡ before ++ walk_shown k.records k.here → after ≡ now ++ shown_to w to → after ≡ before ++ (walk_shown k.records k.here ++ shown_to k l.here)
then_back k w l to before now after same gone up back shown more =
    more ∙ ap (λ (v : Walk). now ++ shown_to v to) same ∙ ap (λ (ps : List Part). now ++ ps) (same_shown k w.here to up back)
    ∙ ap (λ (ps : List Part). ps ++ shown_to k to) shown ∙ append_assoc before (walk_shown k.records k.here) (shown_to k to)
    ∙ ap (λ (v : Walk). before ++ (walk_shown k.records k.here ++ shown_to k v.here)) (sym gone)
