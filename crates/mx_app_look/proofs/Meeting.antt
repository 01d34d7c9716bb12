-- The first record in which something happens.
use Rattle.std.proofs.Common.{◌≡◌, ◌∙◌, ◌≤◌, ◌<◌, ◌++◌, ℕ, suc, ◌+◌, ◌-◌, cond, true, false, List, length, get_or, Option, Some, slice_get, find, ap, sym, arith}
use Rattle.std.specs.List.{range_with_len}
use Rattle.mx_machine.specs.declared.history.Record.{Record}
use Rattle.mx_look.specs.declared.transition.Transition.{Transition}
use Rattle.mx_look.specs.Trace.{record_text}
use Rattle.mx_walk.specs.declared.positions.Position.{Position}
use Rattle.mx_walk.specs.Walks.{Walk}
use Rattle.mx_app_look.proofs.Moving.{read_is}
use Rattle.mx_app_look.proofs.WhyTexts.{why_is}
use Rattle.mx_app_look.specs.declared.happening.Happening.{Happening}
use Rattle.mx_app_look.specs.Happenings.{happens}
use Rattle.mx_app_look.specs.Before.{step_before, why_text}
use Rattle.mx_app_look.specs.Until.{past, halt_after, has, has_by, met, until_halt}

-- those that are left from record n + 1 on
abbrev pub met_from : Walk → Happening → ℕ → Option ℕ
met_from k h n = find (has k h) (range_with_len n (k.last.records - n))

one_more : (k : Walk) (h : Happening) (n : ℕ) → n < k.last.records → met_from k h n ≡ cond (has k h n) (Some n) (met_from k h (n + 1))
one_more k h n lt =
    let more : k.last.records - n ≡ suc (k.last.records - (n + 1)) = omega (arith, lt) in
    ap (λ m. find (has k h) (range_with_len n m)) more

has_here : (k : Walk) (h : Happening) (n : ℕ) (x : Record) → slice_get k.records n ≡ Some x → has k h n ≡ happens h (step_before k.boot k.records n x)
has_here k h n x e = ap (λ (o : Option Record). has_by k h n o) e

-- it happens in this one
met_here : (k : Walk) (h : Happening) (n : ℕ) (x : Record) → n < k.last.records → slice_get k.records n ≡ Some x → happens h (step_before k.boot k.records n x) ≡ true → met_from k h n ≡ Some n
met_here k h n x lt e is = one_more k h n lt ∙ ap (λ b. cond b (Some n) (met_from k h (n + 1))) (has_here k h n x e ∙ is)

-- it doesn't
met_later : (k : Walk) (h : Happening) (n : ℕ) (x : Record) → n < k.last.records → slice_get k.records n ≡ Some x → happens h (step_before k.boot k.records n x) ≡ false
    → met_from k h n ≡ met_from k h (n + 1)
met_later k h n x lt e isnt = one_more k h n lt ∙ ap (λ b. cond b (Some n) (met_from k h (n + 1))) (has_here k h n x e ∙ isnt)

-- ---- what a walker w sees that goes along the walk k

module _ (k w : Walk) (h : Happening) (records : List Record) (n : ℕ) (x : Record) (s : Transition)
    (there : w ≡ record k { here = w.here }) (same : records ≡ w.records) (lt : n < k.last.records) (few : k.last.records ≤ length k.records)
    (seen : s ≡ step_before w.boot w.records n (get_or records n x)) where
  abbrev y : Record
  y = get_or records n x

  of_walk : records ≡ k.records
  of_walk = same ∙ ap (λ (j : Walk). j.records) there

  read : slice_get k.records n ≡ Some y
  read = read_is k.records n x (omega (arith, lt, few)) ∙ ap (λ (rs : List Record). Some (get_or rs n x)) (sym of_walk)

  it_is : s ≡ step_before k.boot k.records n y
  it_is = seen ∙ ap (λ (j : Walk). step_before j.boot j.records n y) there

  -- it happens there, and nowhere before
  module _ (none : met_from k h n ≡ met k h) (is : happens h s ≡ true) where
    halt_is : until_halt k h ≡ (past n, why_text (record k { here = past n }))
    halt_is = ap (λ (o : Option ℕ). halt_after k o) (sym none ∙ met_here k h n y lt read (ap (λ (t : Transition). happens h t) (sym it_is) ∙ is))

    pub halts_here : (u : Walk) → u ≡ record w { here = past n } → u ≡ record k { here = (until_halt k h).0 }
    halts_here u moved =
        moved ∙ ap (λ (j : Walk). let i : Walk = record j { here = past n } in i) there
        ∙ ap (λ (p : Position × List ℕ). let i : Walk = record k { here = p.0 } in i) (sym halt_is)

    pub appends_it : (out old new : List ℕ) → out ≡ old → new ≡ out ++ record_text s → new ≡ old ++ (until_halt k h).1
    appends_it out old new nothing added =
        let one : n + 1 ≡ suc n = omega arith in
        let why : record_text s ≡ why_text (record k { here = past n }) = ap (λ (t : Transition). record_text t) it_is ∙ sym (why_is (record k { here = past n }) n y one read) in
        added ∙ ap (λ t. t ++ record_text s) nothing ∙ ap (λ t. old ++ t) why ∙ ap (λ (p : Position × List ℕ). old ++ p.1) (sym halt_is)

  -- it doesn't
  pub goes_by : met_from k h n ≡ met k h → happens h s ≡ false → met_from k h (n + 1) ≡ met k h
  goes_by none isnt = sym (met_later k h n y lt read (ap (λ (t : Transition). happens h t) (sym it_is) ∙ isnt)) ∙ none

  pub goes_on : (u : Walk) → u ≡ record w { here = past n } → u ≡ record k { here = u.here }
  goes_on u moved =
      let on : u ≡ record k { here = past n } = moved ∙ ap (λ (j : Walk). let i : Walk = record j { here = past n } in i) there in
      on ∙ ap (λ (j : Walk). let i : Walk = record k { here = j.here } in i) (sym on)
