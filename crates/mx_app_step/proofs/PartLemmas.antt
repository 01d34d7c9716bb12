-- Parts of a trace.
use Rattle.std.proofs.Common.{◌≡◌, ◌∙◌, ℕ, zero, suc, ◌+◌, ◌≤◌, ◌<◌, nat_lt, Bool, true, false, cond, List, [], ◌∷◌, ◌++◌, take, append_assoc, refl, sym, ap, ap₂, arith}
use Rattle.std.proofs.lemmas.Bool.{lt-ltb, ltb-true}
use Rattle.mx_machine.specs.declared.history.Record.{Record}
use Rattle.mx_machine.specs.History.{world_after_events, events_of}
use Rattle.mx_machine.specs.World.{World}
use Rattle.mx_look.specs.declared.transition.Transition.{Transition}
use Rattle.mx_look.specs.Trace.{record_text}
use Rattle.mx_app_step.specs.Traces.{transition_of, told_of, trace_text}

-- nothing is printed of a transition before the first that is printed
untold : (from : ℕ) (x : Transition) → x.number < from → told_of from x ≡ []
untold from x lt = ap (λ b. cond b [] (record_text x)) (lt-ltb x.number from lt)

not_below : (n from : ℕ) → from ≤ n → nat_lt n from ≡ false
not_below n from le = by_bool (nat_lt n from) refl
  where
    by_bool : (b : Bool) → nat_lt n from ≡ b → b ≡ false
    by_bool true e = absurd (omega (arith, ltb-true n from e, le))
    by_bool false e = refl

told : (from : ℕ) (x : Transition) → from ≤ x.number → told_of from x ≡ record_text x
told from x le = ap (λ b. cond b [] (record_text x)) (not_below x.number from le)

-- from any place before them all are printed
all_told : (a b : ℕ) (w : World) (n : ℕ) (xs : List Record) → a ≤ n → b ≤ n → trace_text a w n xs ≡ trace_text b w n xs
all_told a b w n [] le also = refl
all_told a b w n (x ∷ xs) le also =
    let v = world_after_events w (events_of x.actor x.event) in
    ap₂ (λ s t. s ++ t) (told a (transition_of w n x) le ∙ sym (told b (transition_of w n x) also)) (all_told a b v (n + 1) xs (omega (arith, le)) (omega (arith, also)))

-- the first i records and those after them, up to the j-th; the first that is printed of these is the one after the i-th
pub parts_join : (a : ℕ) (w : World) (n i j : ℕ) (xs : List Record) (next : ℕ) → next ≡ n + i → a ≤ n + i → i ≤ j
    → trace_text a w n (take i xs) ++ trace_text next w n (take j xs) ≡ trace_text a w n (take j xs)
parts_join a w n zero j xs next e le few = all_told next a w n (take j xs) (omega (arith, e)) (omega (arith, le))
parts_join a w n (suc i) zero xs next e le few = absurd (omega (arith, few))
parts_join a w n (suc i) (suc j) [] next e le few = refl
parts_join a w n (suc i) (suc j) (x ∷ xs) next e le few =
    let v = world_after_events w (events_of x.actor x.event) in
    let first = told_of a (transition_of w n x) in
    append_assoc first (trace_text a v (n + 1) (take i xs)) (told_of next (transition_of w n x) ++ trace_text next v (n + 1) (take j xs))
    ∙ ap (λ t. first ++ (trace_text a v (n + 1) (take i xs) ++ (t ++ trace_text next v (n + 1) (take j xs)))) (untold next (transition_of w n x) (omega (arith, e)))
    ∙ ap (λ t. first ++ t) (parts_join a v (n + 1) i j xs next (omega (arith, e)) (omega (arith, le)) (omega (arith, few)))
