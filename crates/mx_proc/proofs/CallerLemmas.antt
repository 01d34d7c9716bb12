use Rattle.std.proofs.Common.{◌≡◌, ◌≢◌, ℕ, zero, suc, ◌+◌, ◌-◌, ◌<◌, ◌≤◌, ◌==◌, nat_lt, Bool, true, false, cond, inl, inr, List, [], ◌∷◌, ◌++◌, length, map, get_or, slice_set, slice_get, slice_index, replicate, Some, None, refl, sym, ap, ◌∙◌, arith, subst, length-set, length-append, get_or-set_same, get_or-set_other}
use Rattle.std.proofs.lemmas.Bool.{cases_eq, cases_lt, cases_Bool, eq-eqb, ne_eqb, lt-ltb, le-ltb}
use Rattle.std.proofs.lemmas.List.{length-map, length-replicate}
use Rattle.std.proofs.Math.ListN.{get_or-eq_default}
use Rattle.mx_proc.specs.declared.process.Partner.TheVariants.{Any, System, Only}
use Rattle.mx_proc.specs.declared.process.Source.TheVariants.{Hardware, Clock, Slot}
use Rattle.mx_proc.specs.Callers.{pairs_of, senders_to, AreCallers}
use Rattle.mx_proc.specs.Queues.{tally, times, without, list_at, InNoList}
use Rattle.mx_proc.specs.Waits.{sends_of, without_from, next_of, caller_of}
use Rattle.mx_proc.proofs.ChainLemmas.{without-absent}
use Rattle.mx_proc.proofs.ListLemmas.{all_same, get_or-any, has_room, tally-same, tally-other, times-push, times-without_same, times-without_other, list_at-cases}

-- ---- pairs and queues of a list of slots

pub sends-pairs : (to : List ℕ) (s : ℕ) (slots : List ℕ) → sends_of s (pairs_of to slots) ≡ times s slots
sends-pairs to s [] = refl
sends-pairs to s (x ∷ xs) = ap (λ n. tally (x == s) + n) (sends-pairs to s xs)

-- who sends, in order
pub senders_of : (to slots : List ℕ) → map (λ (p : ℕ × ℕ). p.0) (pairs_of to slots) ≡ slots
senders_of to [] = refl
senders_of to (x ∷ xs) = ap (λ l. x ∷ l) (senders_of to xs)

pub pairs-push : (to : List ℕ) (s : ℕ) (slots : List ℕ) → pairs_of to (slots ++ s ∷ []) ≡ pairs_of to slots ++ (s, slice_index to s) ∷ []
pairs-push to s [] = refl
pairs-push to s (x ∷ xs) = ap (λ l. (x, slice_index to x) ∷ l) (pairs-push to s xs)

pub pairs-without : (to : List ℕ) (s : ℕ) (slots : List ℕ) → pairs_of to (without s slots) ≡ without_from s (pairs_of to slots)
pairs-without to s [] = refl
pairs-without to s (x ∷ xs) = elim (cases_eq x s) [
  | inl e ↦ rw (eq-eqb x s e) (pairs-without to s xs)
  | inr n ↦ rw (ne_eqb x s n) (ap (λ l. (x, slice_index to x) ∷ l) (pairs-without to s xs))
]

-- whom a slot sends to that isn't there plays no part
pub pairs_frame : (to : List ℕ) (s v : ℕ) (slots : List ℕ) → times s slots ≡ 0 → pairs_of (slice_set to s v) slots ≡ pairs_of to slots
pairs_frame to s v [] z = refl
pairs_frame to s v (x ∷ xs) z =
    let n : x ≢ s = λ e. absurd (omega (arith, tally-same x s e)) in
    ap (λ y. (x, y) ∷ pairs_of (slice_set to s v) xs) (get_or-set_other to s x v 0 n) ∙ ap (λ l. (x, slice_index to x) ∷ l) (pairs_frame to s v xs (omega arith))

pub senders_frame : (to : List ℕ) (s v d : ℕ) (slots : List ℕ) → times s slots ≡ 0 → senders_to (slice_set to s v) d slots ≡ senders_to to d slots
senders_frame to s v d [] z = refl
senders_frame to s v d (x ∷ xs) z =
    let n : x ≢ s = λ e. absurd (omega (arith, tally-same x s e)) in
    ap (λ y. cond (y == d) (x ∷ senders_to (slice_set to s v) d xs) (senders_to (slice_set to s v) d xs)) (get_or-set_other to s x v 0 n)
    ∙ ap (λ l. cond (slice_index to x == d) (x ∷ l) l) (senders_frame to s v d xs (omega arith))

pub senders-push_same : (to : List ℕ) (s d : ℕ) (slots : List ℕ) → slice_index to s ≡ d → senders_to to d (slots ++ s ∷ []) ≡ senders_to to d slots ++ s ∷ []
senders-push_same to s d [] e = rw (eq-eqb (slice_index to s) d e) refl
senders-push_same to s d (x ∷ xs) e = elim (cases_Bool (slice_index to x == d)) [
  | inl y ↦ rw y (ap (λ l. x ∷ l) (senders-push_same to s d xs e))
  | inr n ↦ rw n (senders-push_same to s d xs e)
]

pub senders-push_other : (to : List ℕ) (s d : ℕ) (slots : List ℕ) → slice_index to s ≢ d → senders_to to d (slots ++ s ∷ []) ≡ senders_to to d slots
senders-push_other to s d [] m = rw (ne_eqb (slice_index to s) d m) refl
senders-push_other to s d (x ∷ xs) m = elim (cases_Bool (slice_index to x == d)) [
  | inl y ↦ rw y (ap (λ l. x ∷ l) (senders-push_other to s d xs m))
  | inr n ↦ rw n (senders-push_other to s d xs m)
]

pub senders-without : (to : List ℕ) (s d : ℕ) (slots : List ℕ) → senders_to to d (without s slots) ≡ without s (senders_to to d slots)
senders-without to s d [] = refl
senders-without to s d (x ∷ xs) = elim (cases_eq x s) [
  | inl e ↦ rw (eq-eqb x s e) (senders-without to s d xs ∙ gone (slice_index to x == d) (senders_to to d xs) e)
  | inr n ↦ rw (ne_eqb x s n) (stays (slice_index to x == d) (senders_to to d (without s xs)) (senders_to to d xs) n (senders-without to s d xs))
]
  where
    gone : (b : Bool) (q : List ℕ) → x ≡ s → without s q ≡ without s (cond b (x ∷ q) q)
    gone true q e = rw (eq-eqb x s e) refl
    gone false q e = refl

    stays : (b : Bool) (p q : List ℕ) → x ≢ s → p ≡ without s q → cond b (x ∷ p) p ≡ without s (cond b (x ∷ q) q)
    stays true p q n e = rw (ne_eqb x s n) (ap (λ l. x ∷ l) e)
    stays false p q n e = e

pub times-senders_same : (to : List ℕ) (s d : ℕ) (slots : List ℕ) → slice_index to s ≡ d → times s (senders_to to d slots) ≡ times s slots
times-senders_same to s d [] e = refl
times-senders_same to s d (x ∷ xs) e = elim (cases_eq x s) [
  | inl is ↦ rw (eq-eqb (slice_index to x) d (ap (slice_index to) is ∙ e)) (ap (λ n. tally (x == s) + n) (times-senders_same to s d xs e))
  | inr n ↦ elim (cases_Bool (slice_index to x == d)) [
    | inl y ↦ rw y (ap (λ n. tally (x == s) + n) (times-senders_same to s d xs e))
    | inr m ↦ rw m (omega (arith, tally-other x s n, times-senders_same to s d xs e))
  ]
]

pub times-senders_le : (to : List ℕ) (s d : ℕ) (slots : List ℕ) → times s (senders_to to d slots) ≤ times s slots
times-senders_le to s d [] = omega arith
times-senders_le to s d (x ∷ xs) = elim (cases_Bool (slice_index to x == d)) [
  | inl y ↦ rw y (omega (arith, times-senders_le to s d xs))
  | inr n ↦ rw n (omega (arith, times-senders_le to s d xs))
]

pub times-senders_other : (to : List ℕ) (s d : ℕ) (slots : List ℕ) → slice_index to s ≢ d → times s (senders_to to d slots) ≡ 0
times-senders_other to s d [] m = refl
times-senders_other to s d (x ∷ xs) m = elim (cases_eq x s) [
  | inl is ↦ rw (ne_eqb (slice_index to x) d (λ k. m (ap (slice_index to) (sym is) ∙ k))) (times-senders_other to s d xs m)
  | inr n ↦ elim (cases_Bool (slice_index to x == d)) [
    | inl y ↦ rw y (omega (arith, tally-other x s n, times-senders_other to s d xs m))
    | inr k ↦ rw k (times-senders_other to s d xs m)
  ]
]

pub length-without : (s : ℕ) (slots : List ℕ) → length (without s slots) + times s slots ≡ length slots
length-without s [] = refl
length-without s (x ∷ xs) = elim (cases_eq x s) [
  | inl e ↦ rw (eq-eqb x s e) (omega (arith, length-without s xs))
  | inr n ↦ rw (ne_eqb x s n) (omega (arith, length-without s xs))
]

-- ---- what is read

pub next_there : (to : List ℕ) (s : ℕ) (slots : List ℕ) → 1 ≤ times s slots → next_of s (pairs_of to slots) ≡ Some (slice_index to s)
next_there to s [] h = absurd (omega arith)
next_there to s (x ∷ xs) h = elim (cases_eq x s) [
  | inl e ↦ rw (eq-eqb x s e) (ap (λ y. Some (slice_index to y)) e)
  | inr n ↦ rw (ne_eqb x s n) (next_there to s xs (omega (arith, tally-other x s n)))
]

pub next_none : (to : List ℕ) (s : ℕ) (slots : List ℕ) → times s slots ≡ 0 → next_of s (pairs_of to slots) ≡ None
next_none to s [] h = refl
next_none to s (x ∷ xs) h =
    let n : x ≢ s = λ e. absurd (omega (arith, tally-same x s e)) in
    rw (ne_eqb x s n) (next_none to s xs (omega arith))

-- the first caller is the first of the queue
pub caller_any : (to : List ℕ) (d : ℕ) (slots : List ℕ) → caller_of d Any (pairs_of to slots) ≡ slice_get (senders_to to d slots) 0
caller_any to d [] = refl
caller_any to d (x ∷ xs) = elim (cases_Bool (slice_index to x == d)) [
  | inl y ↦ rw y refl
  | inr n ↦ rw n (caller_any to d xs)
]

pub caller_system : (d : ℕ) (pairs : List (ℕ × ℕ)) → caller_of d System pairs ≡ None
caller_system d [] = refl
caller_system d (p ∷ ps) = elim (cases_Bool (p.1 == d)) [ inl y ↦ rw y (caller_system d ps) | inr n ↦ rw n (caller_system d ps) ]

pub caller_hardware : (d : ℕ) (pairs : List (ℕ × ℕ)) → caller_of d (Only Hardware) pairs ≡ None
caller_hardware d [] = refl
caller_hardware d (p ∷ ps) = elim (cases_Bool (p.1 == d)) [
  | inl y ↦ rw y (rw (ne_eqb 0 (2 + p.0) (λ e. absurd (omega arith))) (caller_hardware d ps))
  | inr n ↦ rw n (caller_hardware d ps)
]

pub caller_clock : (d : ℕ) (pairs : List (ℕ × ℕ)) → caller_of d (Only Clock) pairs ≡ None
caller_clock d [] = refl
caller_clock d (p ∷ ps) = elim (cases_Bool (p.1 == d)) [
  | inl y ↦ rw y (rw (ne_eqb 1 (2 + p.0) (λ e. absurd (omega arith))) (caller_clock d ps))
  | inr n ↦ rw n (caller_clock d ps)
]

-- one slot alone: the question is whom it sends to
pub caller_absent : (d s : ℕ) (pairs : List (ℕ × ℕ)) → sends_of s pairs ≡ 0 → caller_of d (Only (Slot s)) pairs ≡ None
caller_absent d s [] h = refl
caller_absent d s (p ∷ ps) h =
    let n : p.0 ≢ s = λ e. absurd (omega (arith, tally-same p.0 s e)) in
    elim (cases_Bool (p.1 == d)) [
      | inl y ↦ rw y (rw (ne_eqb (2 + s) (2 + p.0) (λ e. n (omega arith))) (caller_absent d s ps (omega arith)))
      | inr m ↦ rw m (caller_absent d s ps (omega arith))
    ]

pub caller_one : (d s : ℕ) (pairs : List (ℕ × ℕ)) → sends_of s pairs ≤ 1 → next_of s pairs ≡ Some d → caller_of d (Only (Slot s)) pairs ≡ Some s
caller_one d s [] u h = cc
caller_one d s (p ∷ ps) u h = elim (cases_eq p.0 s) [
  | inl e ↦
      let k : Some p.1 ≡ Some d = subst (λ b. cond b (Some p.1) (next_of s ps) ≡ Some d) (eq-eqb p.0 s e) h in
      let is : p.1 ≡ d = cc in
      rw (eq-eqb p.1 d is) (rw (eq-eqb (2 + s) (2 + p.0) (omega arith)) (ap Some e))
  | inr n ↦
      let k : next_of s ps ≡ Some d = subst (λ b. cond b (Some p.1) (next_of s ps) ≡ Some d) (ne_eqb p.0 s n) h in
      let rest : caller_of d (Only (Slot s)) ps ≡ Some s = caller_one d s ps (omega arith) k in
      elim (cases_Bool (p.1 == d)) [
        | inl y ↦ rw y (rw (ne_eqb (2 + s) (2 + p.0) (λ e. n (omega arith))) rest)
        | inr m ↦ rw m rest
      ]
]

pub caller_other : (d s : ℕ) (pairs : List (ℕ × ℕ)) → sends_of s pairs ≤ 1 → (next_of s pairs ≡ Some d → ⊥) → caller_of d (Only (Slot s)) pairs ≡ None
caller_other d s [] u h = refl
caller_other d s (p ∷ ps) u h = elim (cases_eq p.0 s) [
  | inl e ↦
      let m : p.1 ≢ d = λ q. h (rw (eq-eqb p.0 s e) (ap Some q)) in
      rw (ne_eqb p.1 d m) (caller_absent d s ps (omega (arith, tally-same p.0 s e)))
  | inr n ↦
      let rest : caller_of d (Only (Slot s)) ps ≡ None = caller_other d s ps (omega arith) (λ q. h (rw (ne_eqb p.0 s n) q)) in
      elim (cases_Bool (p.1 == d)) [
        | inl y ↦ rw y (rw (ne_eqb (2 + s) (2 + p.0) (λ e. n (omega arith))) rest)
        | inr m ↦ rw m rest
      ]
]

-- ---- the lists that are kept

pub none_calls : (order callers : List (List ℕ)) → order ≡ replicate 1 [] → callers ≡ replicate 32 [] → AreCallers (replicate 32 255) order callers 0
none_calls order callers e f =
    let none : list_at order 0 ≡ [] = ap (λ l. list_at l 0) e in record {
      to_long = length-replicate {A = ℕ} 32 255;
      order_long = ap length e;
      callers_long = ap length f ∙ length-replicate {A = List ℕ} 32 [];
      counted = sym (ap length none);
      each = λ d b. ap (λ l. list_at l d) f ∙ all_same (List ℕ) 32 d [] ∙ sym (ap (senders_to (replicate 32 255) d) none);
      stands = λ s. ap (times s) none ∙ sym (ap (λ v. tally (nat_lt v 32)) (all_same ℕ 32 s 255));
      nobody = λ s b. all_same ℕ 32 s 255;
    }

beyond : (lists : List (List ℕ)) (n l : ℕ) → length lists ≡ n → n ≤ l → list_at lists l ≡ []
beyond lists n l e b = get_or-eq_default lists [] (omega arith)

-- who sends to nobody is in no list
pub in_no_order : {to : List ℕ} {order callers : List (List ℕ)} {count : ℕ} (s : ℕ) → AreCallers to order callers count → times s (list_at order 0) ≡ 0 → InNoList order s
in_no_order s h z zero = z
in_no_order {order = order} s h z (suc l) = ap (times s) (beyond order 1 (suc l) h.order_long (omega arith))

pub in_no_queue : {to : List ℕ} {order callers : List (List ℕ)} {count : ℕ} (s : ℕ) → AreCallers to order callers count → times s (list_at order 0) ≡ 0 → InNoList callers s
in_no_queue {to = to} {order = order} {callers = callers} s h z l = elim (cases_lt l 32) [
  | inl b ↦ omega (arith, ap (times s) (h.each l b), times-senders_le to s l (list_at order 0))
  | inr b ↦ ap (times s) (beyond callers 32 l h.callers_long b)
]

-- who is in the order sends to a slot
pub sends_below : {to : List ℕ} {order callers : List (List ℕ)} {count : ℕ} (s : ℕ) → AreCallers to order callers count → 1 ≤ times s (list_at order 0) → (s < 32) × (slice_index to s < 32)
sends_below {to = to} {order = order} s h m =
    let low : get_or to s 255 < 32 = elim (cases_lt (get_or to s 255) 32) [
      | inl y ↦ y
      | inr n ↦ absurd (omega (arith, h.stands s, ap tally (le-ltb (get_or to s 255) 32 n)))
    ] in
    let b : s < 32 = elim (cases_lt s 32) [
      | inl y ↦ y
      | inr n ↦ absurd (omega (arith, get_or-eq_default to 255 (subst (λ k. k ≤ s) (sym h.to_long) n)))
    ] in
    (b, subst (λ v. v < 32) (get_or-any to s 255 0 (omega (arith, h.to_long))) low)

pub counted_once : {to : List ℕ} {order callers : List (List ℕ)} {count : ℕ} (s : ℕ) → AreCallers to order callers count → times s (list_at order 0) ≤ tally (nat_lt s 32)
counted_once {to = to} s h = elim (cases_lt s 32) [
  | inl b ↦ rw (lt-ltb s 32 b) (omega (arith, h.stands s, most (nat_lt (get_or to s 255) 32)))
  | inr n ↦ omega (arith, h.stands s, ap (λ v. tally (nat_lt v 32)) (get_or-eq_default to 255 (subst (λ k. k ≤ s) (sym h.to_long) n)))
]
  where
    most : (b : Bool) → tally b ≤ 1
    most true = omega arith
    most false = omega arith

pub few_call : {to : List ℕ} {order callers : List (List ℕ)} {count : ℕ} (s : ℕ) → AreCallers to order callers count → s < 32 → times s (list_at order 0) ≡ 0 → count < 32
few_call {order = order} s h b z = omega (arith, h.counted, has_room (list_at order 0) s (λ t. counted_once t h) b z)

-- ---- one more send

pub one_calls : {to : List ℕ} {order callers : List (List ℕ)} {count : ℕ} (s d : ℕ) (order' callers' : List (List ℕ)) → AreCallers to order callers count → s < 32 → d < 32 → times s (list_at order 0) ≡ 0
    → order' ≡ slice_set order 0 (list_at order 0 ++ s ∷ []) → callers' ≡ slice_set callers d (list_at callers d ++ s ∷ []) → AreCallers (slice_set to s d) order' callers' (count + 1)
one_calls {to = to} {order = order} {callers = callers} {count = count} s d order' callers' h b c z e f =
    let old = list_at order 0 in
    let new : list_at order' 0 ≡ old ++ s ∷ [] = ap (λ l. list_at l 0) e ∙ get_or-set_same order 0 (old ++ s ∷ []) [] (omega (arith, h.order_long)) in
    let at : get_or (slice_set to s d) s 0 ≡ d = get_or-set_same to s d 0 (omega (arith, h.to_long)) in
    let at2 : get_or (slice_set to s d) s 255 ≡ d = get_or-set_same to s d 255 (omega (arith, h.to_long)) in
    record {
      to_long = length-set to s d ∙ h.to_long;
      order_long = ap length e ∙ length-set order 0 _ ∙ h.order_long;
      callers_long = ap length f ∙ length-set callers d _ ∙ h.callers_long;
      counted = omega (arith, h.counted, ap length new, length-append old (s ∷ []));
      each = λ x y. ap (λ l. list_at l x) f ∙ elim (list_at-cases callers d x (list_at callers d ++ s ∷ []) (omega (arith, h.callers_long))) [
        | inl q ↦ q.1 ∙ ap (λ l. l ++ s ∷ []) (h.each d c ∙ sym (senders_frame to s d d old z)) ∙ sym (senders-push_same (slice_set to s d) s d old at)
            ∙ ap (λ k. senders_to (slice_set to s d) k (old ++ s ∷ [])) (sym q.0) ∙ ap (senders_to (slice_set to s d) x) (sym new)
        | inr q ↦ q.1 ∙ h.each x y ∙ sym (senders_frame to s d x old z) ∙ sym (senders-push_other (slice_set to s d) s x old (λ k. q.0 (sym k ∙ at))) ∙ ap (senders_to (slice_set to s d) x) (sym new)
      ];
      stands = λ t. ap (times t) new ∙ times-push t s old ∙ elim (cases_eq t s) [
        | inl q ↦ omega (arith, tally-same s t (sym q), ap (λ k. times k old) q, ap tally (lt-ltb d 32 c), ap (λ v. tally (nat_lt v 32)) (ap (λ k. get_or (slice_set to s d) k 255) q ∙ at2))
        | inr n ↦ omega (arith, tally-other s t (λ q. n (sym q)), h.stands t, ap (λ v. tally (nat_lt v 32)) (get_or-set_other to s t d 255 n))
      ];
      nobody = λ t m. elim (cases_eq t s) [
        | inl q ↦ absurd (omega (arith, ap (λ k. get_or (slice_set to s d) k 255) q, at2))
        | inr n ↦ let k : get_or (slice_set to s d) t 255 ≡ get_or to t 255 = get_or-set_other to s t d 255 n in k ∙ h.nobody t (omega arith)
      ];
    }

pub one_calls_pairs : {to : List ℕ} {order callers : List (List ℕ)} {count : ℕ} (s d : ℕ) (order' : List (List ℕ)) → AreCallers to order callers count → s < 32 → times s (list_at order 0) ≡ 0
    → order' ≡ slice_set order 0 (list_at order 0 ++ s ∷ []) → pairs_of (slice_set to s d) (list_at order' 0) ≡ pairs_of to (list_at order 0) ++ (s, d) ∷ []
one_calls_pairs {to = to} {order = order} s d order' h b z e =
    let old = list_at order 0 in
    let new : list_at order' 0 ≡ old ++ s ∷ [] = ap (λ l. list_at l 0) e ∙ get_or-set_same order 0 (old ++ s ∷ []) [] (omega (arith, h.order_long)) in
    ap (pairs_of (slice_set to s d)) new ∙ pairs-push (slice_set to s d) s old ∙ ap (λ v. pairs_of (slice_set to s d) old ++ (s, v) ∷ []) (get_or-set_same to s d 0 (omega (arith, h.to_long)))
    ∙ ap (λ l. l ++ (s, d) ∷ []) (pairs_frame to s d old z)

-- ---- a send less

-- who sends is in the queue of the one that it sends to
pub in_queue : {to : List ℕ} {order callers : List (List ℕ)} {count : ℕ} (s : ℕ) → AreCallers to order callers count → 1 ≤ times s (list_at order 0) → 1 ≤ times s (list_at callers (slice_index to s))
in_queue {to = to} {order = order} s h m = omega (arith, ap (times s) (h.each (slice_index to s) (sends_below s h m).1), times-senders_same to s (slice_index to s) (list_at order 0) refl)

pub one_left : {to : List ℕ} {order callers : List (List ℕ)} {count : ℕ} (s d : ℕ) (order' callers' : List (List ℕ)) → AreCallers to order callers count → 1 ≤ times s (list_at order 0) → slice_index to s ≡ d
    → order' ≡ slice_set order 0 (without s (list_at order 0)) → callers' ≡ slice_set callers d (without s (list_at callers d)) → AreCallers (slice_set to s 255) order' callers' (count - 1)
one_left {to = to} {order = order} {callers = callers} {count = count} s d order' callers' h m i e f =
    let old = list_at order 0 in
    let low = sends_below s h m in
    let c : d < 32 = subst (λ v. v < 32) i low.1 in
    let once : times s old ≡ 1 = omega (arith, counted_once s h, ap tally (lt-ltb s 32 low.0)) in
    let new : list_at order' 0 ≡ without s old = ap (λ l. list_at l 0) e ∙ get_or-set_same order 0 (without s old) [] (omega (arith, h.order_long)) in
    let gone : times s (without s old) ≡ 0 = times-without_same s old in
    let at : get_or (slice_set to s 255) s 255 ≡ 255 = get_or-set_same to s 255 255 (omega (arith, h.to_long, low.0)) in
    record {
      to_long = length-set to s 255 ∙ h.to_long;
      order_long = ap length e ∙ length-set order 0 _ ∙ h.order_long;
      callers_long = ap length f ∙ length-set callers d _ ∙ h.callers_long;
      counted = omega (arith, h.counted, ap length new, length-without s old);
      each = λ x y. ap (λ l. list_at l x) f ∙ elim (list_at-cases callers d x (without s (list_at callers d)) (omega (arith, h.callers_long))) [
        | inl q ↦ q.1 ∙ ap (without s) (h.each d c) ∙ sym (senders-without to s d old) ∙ sym (senders_frame to s 255 d (without s old) gone)
            ∙ ap (λ k. senders_to (slice_set to s 255) k (without s old)) (sym q.0) ∙ ap (senders_to (slice_set to s 255) x) (sym new)
        | inr q ↦ q.1 ∙ h.each x y ∙ sym (without-absent s (senders_to to x old) (times-senders_other to s x old (λ k. q.0 (sym k ∙ i)))) ∙ sym (senders-without to s x old)
            ∙ sym (senders_frame to s 255 x (without s old) gone) ∙ ap (senders_to (slice_set to s 255) x) (sym new)
      ];
      stands = λ t. ap (times t) new ∙ elim (cases_eq t s) [
        | inl q ↦ omega (arith, ap (λ k. times k (without s old)) q, ap (λ v. tally (nat_lt v 32)) (ap (λ k. get_or (slice_set to s 255) k 255) q ∙ at))
        | inr n ↦ times-without_other s t old n ∙ h.stands t ∙ sym (ap (λ v. tally (nat_lt v 32)) (get_or-set_other to s t 255 255 n))
      ];
      nobody = λ t m. elim (cases_eq t s) [
        | inl q ↦ ap (λ k. get_or (slice_set to s 255) k 255) q ∙ at
        | inr n ↦ let k : get_or (slice_set to s 255) t 255 ≡ get_or to t 255 = get_or-set_other to s t 255 255 n in k ∙ h.nobody t (omega arith)
      ];
    }

pub one_left_pairs : {to : List ℕ} {order callers : List (List ℕ)} {count : ℕ} (s : ℕ) (order' : List (List ℕ)) → AreCallers to order callers count
    → order' ≡ slice_set order 0 (without s (list_at order 0)) → pairs_of (slice_set to s 255) (list_at order' 0) ≡ without_from s (pairs_of to (list_at order 0))
one_left_pairs {to = to} {order = order} s order' h e =
    let old = list_at order 0 in
    ap (pairs_of (slice_set to s 255)) (ap (λ l. list_at l 0) e ∙ get_or-set_same order 0 (without s old) [] (omega (arith, h.order_long)))
    ∙ pairs_frame to s 255 (without s old) (times-without_same s old) ∙ pairs-without to s old

-- ---- what is answered

-- the field of who sends, and of who doesn't
pub next_given : {to : List ℕ} {order callers : List (List ℕ)} {count : ℕ} (s : ℕ) → AreCallers to order callers count → s < 32 → slice_index to s ≢ 255 → next_of s (pairs_of to (list_at order 0)) ≡ Some (slice_index to s)
next_given {to = to} {order = order} s h b n =
    let e : get_or to s 255 ≡ slice_index to s = get_or-any to s 255 0 (omega (arith, h.to_long)) in
    let low : get_or to s 255 < 32 = elim (cases_lt (get_or to s 255) 32) [ inl y ↦ y | inr k ↦ absurd (n (sym e ∙ h.nobody s k)) ] in
    next_there to s (list_at order 0) (omega (arith, h.stands s, ap tally (lt-ltb (get_or to s 255) 32 low)))

none_next : {to : List ℕ} {order callers : List (List ℕ)} {count : ℕ} (s : ℕ) → AreCallers to order callers count → get_or to s 255 ≡ 255 → next_of s (pairs_of to (list_at order 0)) ≡ None
none_next {to = to} {order = order} s h e =
    next_none to s (list_at order 0) (h.stands s ∙ ap (λ v. tally (nat_lt v 32)) e)

pub next_missing : {to : List ℕ} {order callers : List (List ℕ)} {count : ℕ} (s : ℕ) → AreCallers to order callers count → s < 32 → slice_index to s ≡ 255 → next_of s (pairs_of to (list_at order 0)) ≡ None
next_missing {to = to} s h b e = none_next s h (get_or-any to s 255 0 (omega (arith, h.to_long)) ∙ e)

pub next_beyond : {to : List ℕ} {order callers : List (List ℕ)} {count : ℕ} (s : ℕ) → AreCallers to order callers count → 32 ≤ s → next_of s (pairs_of to (list_at order 0)) ≡ None
next_beyond {to = to} s h b = none_next s h (get_or-eq_default to 255 (subst (λ k. k ≤ s) (sym h.to_long) b))

pub first_calls : {to : List ℕ} {order callers : List (List ℕ)} {count : ℕ} (d : ℕ) → AreCallers to order callers count → d < 32 → slice_get (list_at callers d) 0 ≡ caller_of d Any (pairs_of to (list_at order 0))
first_calls {to = to} {order = order} d h b = ap (λ l. slice_get l 0) (h.each d b) ∙ sym (caller_any to d (list_at order 0))

-- a slot past the table has no callers
pub none_call : {to : List ℕ} {order callers : List (List ℕ)} {count : ℕ} (d : ℕ) → AreCallers to order callers count → 32 ≤ d → None ≡ caller_of d Any (pairs_of to (list_at order 0))
none_call {to = to} {order = order} d h b = sym (caller_any to d (list_at order 0) ∙ ap (λ l. slice_get l 0) (nobody_to (list_at order 0) (λ s m. sends_below s h m)))
  where
    nobody_to : (slots : List ℕ) → ((s : ℕ) → 1 ≤ times s slots → (s < 32) × (slice_index to s < 32)) → senders_to to d slots ≡ []
    nobody_to [] f = refl
    nobody_to (x ∷ xs) f =
        let low : slice_index to x < 32 = (f x (omega (arith, tally-same x x refl))).1 in
        rw (ne_eqb (slice_index to x) d (λ e. absurd (omega arith))) (nobody_to xs (λ s m. f s (omega arith)))

pub sends_once : {to : List ℕ} {order callers : List (List ℕ)} {count : ℕ} (s : ℕ) → AreCallers to order callers count → sends_of s (pairs_of to (list_at order 0)) ≤ 1
sends_once {to = to} {order = order} s h = omega (arith, sends-pairs to s (list_at order 0), counted_once s h, most (nat_lt s 32))
  where
    most : (b : Bool) → tally b ≤ 1
    most true = omega arith
    most false = omega arith

-- ---- as the table sees it

pub times_none : (to slots : List ℕ) (pairs : List (ℕ × ℕ)) (s : ℕ) → pairs_of to slots ≡ pairs → sends_of s pairs ≡ 0 → times s slots ≡ 0
times_none to slots pairs s v z = omega (arith, sends-pairs to s slots, ap (sends_of s) v)

pub times_some : (to slots : List ℕ) (pairs : List (ℕ × ℕ)) (s : ℕ) → pairs_of to slots ≡ pairs → 1 ≤ sends_of s pairs → 1 ≤ times s slots
times_some to slots pairs s v m = omega (arith, sends-pairs to s slots, ap (sends_of s) v)

pub counted_pairs : {to : List ℕ} {order callers : List (List ℕ)} {count : ℕ} (pairs : List (ℕ × ℕ)) → AreCallers to order callers count → pairs_of to (list_at order 0) ≡ pairs → count ≡ length pairs
counted_pairs {to = to} {order = order} pairs h v = h.counted ∙ sym (length-map (list_at order 0) (λ s. (s, slice_index to s))) ∙ ap length v
