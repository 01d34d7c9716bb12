-- What comes from outside in a history: what is past at a position, and what is left.
use Rattle.std.proofs.Common.{◌≡◌, ◌∙◌, ◌<◌, ◌≤◌, ◌+◌, ◌-◌, ℕ, suc, ◌++◌, true, false, true≢false, List, [], ◌∷◌, Option, Some, None, is_some, drop, take, get_or, length, length-append, refl, ap, arith, sym}
use Rattle.std.proofs.Math.Seq.{drop-append_seam, drop-cons}
use Rattle.std.proofs.lemmas.List.{take-append-drop}
use Rattle.mx_machine.specs.declared.history.Record.{Record}
use Rattle.mx_turns.specs.declared.coming.Coming.{Coming}
use Rattle.mx_turns.specs.declared.faulted_run.Place.{Place}
use Rattle.mx_turns.specs.declared.outside.OutsideLine.{OutsideLine}
use Rattle.mx_turns.specs.Sweep.{coming, outside_event, with_first}
use Rattle.mx_turns.specs.Swept.{IsAlong, IsComing, IsPlace}
use Rattle.mx_turns.proofs.AlongLemmas.{taken_on}

first_append : (o : Option OutsideLine) (xs ys : List OutsideLine) → with_first o (xs ++ ys) ≡ with_first o xs ++ ys
first_append None xs ys = refl
first_append (Some e) xs ys = refl

coming_append : (xs ys : List Record) → coming (xs ++ ys) ≡ coming xs ++ coming ys
coming_append [] ys = refl
coming_append (x ∷ xs) ys = ap (with_first (outside_event x.event)) (coming_append xs ys) ∙ first_append (outside_event x.event) (coming xs) (coming ys)

-- ---- one record more

first_some : (o : Option OutsideLine) (xs : List OutsideLine) → is_some o ≡ true → length (with_first o xs) ≡ 1 + length xs
first_some None xs h = absurd (true≢false (sym h))
first_some (Some e) xs h = let one : length (e ∷ xs) ≡ 1 + length xs = omega arith in one

first_none : (o : Option OutsideLine) (xs : List OutsideLine) → is_some o ≡ false → length (with_first o xs) ≡ length xs
first_none None xs h = refl
first_none (Some e) xs h = absurd (true≢false h)

module _ (records : List Record) (i : ℕ) (d : Record) (h : i < length records) where
  abbrev here : Option OutsideLine
  here = outside_event (get_or records i d).event

  next : length (coming (drop i records)) ≡ length (with_first here (coming (drop (i + 1) records)))
  next =
      let one : suc i ≡ i + 1 = omega arith in
      ap (λ (xs : List Record). length (coming xs)) (drop-cons records i d h) ∙ ap (λ n. length (with_first here (coming (drop n records)))) one

  pub past_some : is_some here ≡ true → length (coming (drop i records)) ≡ 1 + length (coming (drop (i + 1) records))
  past_some is = next ∙ first_some here (coming (drop (i + 1) records)) is

  pub past_none : is_some here ≡ false → length (coming (drop i records)) ≡ length (coming (drop (i + 1) records))
  past_none is = next ∙ first_none here (coming (drop (i + 1) records)) is

-- ---- at a position

module _ (records : List Record) (k : ℕ) where
  parts : coming (take k records) ++ coming (drop k records) ≡ coming records
  parts = sym (coming_append (take k records) (drop k records)) ∙ ap coming (take-append-drop k records)

  module _ (c : Coming) (is : IsComing records k c) where
    pub past_within : c.past ≤ length c.all.items
    past_within =
        let all = ap length parts in
        let both = length-append (coming (take k records)) (coming (drop k records)) in
        let listed = ap length is.all in
        omega (arith, all, both, listed, is.past)

    left : drop c.past c.all.items ≡ coming (drop k records)
    left =
        ap (λ n. drop n c.all.items) is.past ∙ ap (drop (length (coming (take k records)))) (is.all ∙ sym parts)
        ∙ drop-append_seam (coming (take k records)) (coming (drop k records))

-- a place, whose events are the part of the list that is left
pub is_place : (records : List Record) (p : Place) (c : Coming) → IsComing records p.position c → IsAlong records p.position p.along.now → p.checkpoint.now ≡ p.along.now → p.events.now ≡ drop c.past c.all.items
    → p.position ≤ length records → IsPlace records p
is_place records p c is along same events within =
    record { along = along; same = same; events = events ∙ left records p.position c is; within = within }

-- ---- from one position to a later one

module _ (records : List Record) (from to : ℕ) (later : from ≤ to) (c : Coming) (is : IsComing records from c) where
  abbrev between : List Record
  between = take (to - from) (drop from records)

  passed : length (coming (take to records)) ≡ c.past + length (coming between)
  passed =
      let whole = ap (λ (xs : List Record). length (coming xs)) (taken_on records from to later) in
      let both = ap length (coming_append (take from records) between) in
      let sum = length-append (coming (take from records)) (coming between) in
      omega (arith, whole, both, sum, is.past)

  pub room : c.past + length (coming between) ≤ length c.all.items
  room =
      let listed = ap length is.all in
      let all = ap length (parts records to) in
      let both = length-append (coming (take to records)) (coming (drop to records)) in
      omega (arith, listed, all, both, passed)

  pub coming_on : (d : Coming) → d.all ≡ c.all → d.past ≡ c.past + length (coming between) → IsComing records to d
  coming_on d all past = record { all = ap (λ l. l.items) all ∙ is.all; past = past ∙ sym passed }
