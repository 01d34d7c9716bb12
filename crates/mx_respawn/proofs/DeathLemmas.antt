use Rattle.std.proofs.Common.{◌≡◌, ◌≢◌, ℕ, zero, suc, ◌+◌, ◌<◌, ◌≤◌, ◌==◌, ◌&&◌, Bool, true, false, cond, not, List, [], ◌∷◌, ◌++◌, length, drop, map, Some, None, inl, inr, refl, sym, ap, ◌∙◌, arith, subst, get_or, get_or-set_same, get_or-set_other, slice_set}
use Rattle.std.proofs.lemmas.Bool.{cases_eq, cases_Bool, cases_lt, eq-eqb, ne_eqb}
use Rattle.std.proofs.Math.Seq.{drop-cons}
use Rattle.std.proofs.Math.ListN.{drop_of_length-le, get_or-eq_default}
use Rattle.mx_ipc.specs.Proc.declared.process.Process.{Process}
use Rattle.mx_ipc.specs.Proc.declared.process.State.{State}
use Rattle.mx_ipc.specs.Proc.declared.process.State.TheVariants.{Home, Ready, Out, Doomed, Sending, Calling, Receiving, Awaiting, Down}
use Rattle.mx_ipc.specs.Proc.declared.process.Partner.TheVariants.{Any}
use Rattle.mx_ipc.specs.Proc.declared.errors.Errno.TheVariants.{Dead}
use Rattle.mx_ipc.specs.Proc.Errors.{errno_bits}
use Rattle.mx_ipc.specs.Proc.Queues.{tally}
use Rattle.mx_ipc.specs.Proc.Waits.{sends_of, without_from, caller_of}
use Rattle.mx_ipc.specs.Proc.States.{is_ready, is_sending, IsAlone}
use Rattle.mx_ipc.specs.Proc.Frame.{Frame, frame}
use Rattle.mx_ipc.specs.Proc.TableState.{TableState, process_at, nobody, table_after_dequeue, table_after_unblock}
use Rattle.mx_ipc.specs.Proc.Sound.{Sound}
use Rattle.mx_ipc.specs.Calls.{goes_on}
use Rattle.std.proofs.lemmas.List.{length-map, get_or-map}
use Rattle.mx_ipc.specs.Proc.declared.process.DeathCause.{DeathCause}
use Rattle.mx_ipc.specs.Proc.declared.process.DeathCause.TheVariants.{Exit}
use Rattle.mx_ipc.specs.Proc.Serving.{without_bit_of, table_after_forgetting, table_after_burial}
use Rattle.mx_respawn.specs.Death.{callers, receivers, receives_from_alone, table_after_taking_out, table_after_freeing, table_after_freeing_all, waiting_for, table_after_death}
use Rattle.mx_respawn.specs.Waking.{table_after_waking}

-- ---- states

pub sending_ready : (st : State) → is_sending st ≡ true → is_ready st ≡ false
sending_ready Sending h = refl
sending_ready Calling h = refl
sending_ready Home h = refl
sending_ready Ready h = cc
sending_ready Out h = refl
sending_ready Doomed h = refl
sending_ready (Receiving x) h = refl
sending_ready (Awaiting x) h = refl
sending_ready (Down x) h = refl

pub sending_names : (st : State) (s : ℕ) → is_sending st ≡ true → receives_from_alone st s ≡ false
sending_names Sending s h = refl
sending_names Calling s h = refl
sending_names Home s h = refl
sending_names Ready s h = refl
sending_names Out s h = refl
sending_names Doomed s h = refl
sending_names (Receiving x) s h = cc
sending_names (Awaiting x) s h = cc
sending_names (Down x) s h = refl

-- ---- one slot

pub apart_at : (ps : List Process) (s t : ℕ) (p : Process) → t ≢ s → get_or (slice_set ps s p) t nobody ≡ get_or ps t nobody
apart_at ps s t p n = get_or-set_other ps s t p nobody n

chosen : {A : Type 0} (st : State) (a b c : A) → is_sending st ≡ true → cond (is_ready st) a (cond (is_sending st) b c) ≡ b
chosen st a b c h = rw (sending_ready st h) (rw h refl)

pub taken_out-sending : (w : TableState) (s : ℕ) → is_sending (process_at w s).state ≡ true → table_after_taking_out w s ≡ table_after_unblock w s
unfolding table_after_taking_out
taken_out-sending w s h = chosen (process_at w s).state (table_after_dequeue w s) (table_after_unblock w s) w h

pub taken_out-alone : (w : TableState) (s : ℕ) → IsAlone (process_at w s).state → table_after_taking_out w s ≡ w
unfolding table_after_taking_out
taken_out-alone w s h = rw (h.0) (rw (h.1) refl)

-- ---- callers

-- a slot that doesn't send has no pair to take away
without_none : (s : ℕ) (ps : List (ℕ × ℕ)) → sends_of s ps ≡ 0 → without_from s ps ≡ ps
without_none s [] h = refl
without_none s (x ∷ xs) h = elim (cases_eq x.0 s) [
  | inl e ↦ absurd (omega (arith, ap tally (eq-eqb x.0 s e)))
  | inr n ↦ rw (ne_eqb x.0 s n) (ap (λ l. x ∷ l) (without_none s xs (omega arith)))
]

pub fewer : (s : ℕ) (ps : List (ℕ × ℕ)) → 0 < sends_of s ps → length (without_from s ps) < length ps
fewer s [] h = absurd (omega arith)
fewer s (x ∷ xs) h = elim (cases_eq x.0 s) [
  | inl e ↦ rw (eq-eqb x.0 s e) (omega (arith, no_more s xs))
  | inr n ↦ rw (ne_eqb x.0 s n) (let k : length (without_from s xs) < length xs = fewer s xs (omega (arith, ap tally (ne_eqb x.0 s n))) in omega arith)
]
  where
    no_more : (s : ℕ) (ps : List (ℕ × ℕ)) → length (without_from s ps) ≤ length ps
    no_more s [] = omega arith
    no_more s (x ∷ xs) = elim (cases_eq x.0 s) [
      | inl e ↦ rw (eq-eqb x.0 s e) (omega (arith, no_more s xs))
      | inr n ↦ rw (ne_eqb x.0 s n) (omega (arith, no_more s xs))
    ]

caller_here : (s p : ℕ) (x : ℕ × ℕ) (xs : List (ℕ × ℕ)) → (x.1 == s) ≡ true → caller_of s Any (x ∷ xs) ≡ Some p → x.0 ≡ p
caller_here s p x xs y e = let k : cond (true && true) (Some x.0) (caller_of s Any xs) ≡ Some p = subst (λ b. cond (b && true) (Some x.0) (caller_of s Any xs) ≡ Some p) y e in cc

caller_later : (s p : ℕ) (x : ℕ × ℕ) (xs : List (ℕ × ℕ)) → (x.1 == s) ≡ false → caller_of s Any (x ∷ xs) ≡ Some p → caller_of s Any xs ≡ Some p
caller_later s p x xs n e = subst (λ b. cond (b && true) (Some x.0) (caller_of s Any xs) ≡ Some p) n e

-- the first caller comes first
first_caller : (s p : ℕ) (ps : List (ℕ × ℕ)) → caller_of s Any ps ≡ Some p → sends_of p ps ≤ 1 → callers s ps ≡ p ∷ callers s (without_from p ps)
first_caller s p [] e u = cc
first_caller s p (x ∷ xs) e u = elim (cases_Bool (x.1 == s)) [
  | inl y ↦ let is : x.0 ≡ p = caller_here s p x xs y e in
      let none : sends_of p xs ≡ 0 = omega (arith, ap tally (eq-eqb x.0 p is)) in
      rw y (rw (eq-eqb x.0 p is) (ap (λ q. q ∷ callers s xs) is ∙ ap (λ l. p ∷ callers s l) (sym (without_none p xs none))))
  | inr n ↦ let i : callers s xs ≡ p ∷ callers s (without_from p xs) = first_caller s p xs (caller_later s p x xs n e) (omega arith) in
      rw n (elim (cases_eq x.0 p) [
        | inl q ↦ rw (eq-eqb x.0 p q) i
        | inr m ↦ rw (ne_eqb x.0 p m) (rw n i)
      ])
]

pub no_caller : (s : ℕ) (ps : List (ℕ × ℕ)) → caller_of s Any ps ≡ None → callers s ps ≡ []
no_caller s [] e = refl
no_caller s (x ∷ xs) e = elim (cases_Bool (x.1 == s)) [
  | inl y ↦ let k : cond (true && true) (Some x.0) (caller_of s Any xs) ≡ None = subst (λ b. cond (b && true) (Some x.0) (caller_of s Any xs) ≡ None) y e in cc
  | inr n ↦ rw n (no_caller s xs (subst (λ b. cond (b && true) (Some x.0) (caller_of s Any xs) ≡ None) n e))
]

tally-le : (b : Bool) → tally b ≤ 1
tally-le true = omega arith
tally-le false = omega arith

-- once the first is freed, the others are left
pub freed_next : (w v u : TableState) (s p : ℕ) → Sound w → caller_of s Any w.waits ≡ Some p → is_sending (process_at w p).state ≡ true → v ≡ table_after_unblock w p → u ≡ goes_on v p (errno_bits Dead) → u.waits ≡ v.waits
    → table_after_freeing_all u (callers s u.waits) ≡ table_after_freeing_all w (callers s w.waits)
freed_next w v u s p h e y f g k =
    let left : u.waits ≡ without_from p w.waits = k ∙ ap (λ (x : TableState). x.waits) f in
    let is : u ≡ table_after_freeing w p = g ∙ ap (λ x. goes_on x p (errno_bits Dead)) (f ∙ sym (taken_out-sending w p y)) in
    let once : sends_of p w.waits ≤ 1 = omega (arith, (h.each p).waiting, tally-le (is_sending (process_at w p).state)) in
    ap (λ l. table_after_freeing_all u (callers s l)) left ∙ ap (λ x. table_after_freeing_all x (callers s (without_from p w.waits))) is ∙ ap (table_after_freeing_all w) (sym (first_caller s p w.waits e once))

pub fewer_wait : (w v u : TableState) (p : ℕ) → Sound w → is_sending (process_at w p).state ≡ true → v ≡ table_after_unblock w p → u.waits ≡ v.waits → length u.waits < length w.waits
fewer_wait w v u p h y f k =
    let left : length u.waits ≡ length (without_from p w.waits) = ap length (k ∙ ap (λ (x : TableState). x.waits) f) in
    let some : 0 < sends_of p w.waits = omega (arith, (h.each p).waiting, ap tally y) in
    let less : length (without_from p w.waits) < length w.waits = fewer p w.waits some in
    omega arith

pub all_freed-append : (w : TableState) (ps qs : List ℕ) → table_after_freeing_all w (ps ++ qs) ≡ table_after_freeing_all (table_after_freeing_all w ps) qs
all_freed-append w [] qs = refl
all_freed-append w (p ∷ ps) qs = all_freed-append (table_after_freeing w p) ps qs

-- ---- receivers

-- who receives from a slot depends on the states
pub receivers-same : (s n : ℕ) (ps qs : List Process) → length ps ≡ length qs → ((t : ℕ) → receives_from_alone (get_or ps t nobody).state s ≡ receives_from_alone (get_or qs t nobody).state s) → receivers s n ps ≡ receivers s n qs
receivers-same s n [] [] e h = refl
receivers-same s n [] (q ∷ qs) e h = absurd (omega arith)
receivers-same s n (p ∷ ps) [] e h = absurd (omega arith)
receivers-same s n (p ∷ ps) (q ∷ qs) e h =
    let later : receivers s (n + 1) ps ≡ receivers s (n + 1) qs = receivers-same s (n + 1) ps qs (omega arith) (λ t. h (suc t)) in
    ap (λ b. cond (not (n == s) && b) (n ∷ receivers s (n + 1) ps) (receivers s (n + 1) ps)) (h 0)
    ∙ ap (λ l. cond (not (n == s) && receives_from_alone q.state s) (n ∷ l) l) later

receivers_next : (s t : ℕ) (ps : List Process) → t < length ps
    → receivers s t (drop t ps) ≡ cond (not (t == s) && receives_from_alone (get_or ps t nobody).state s) (t ∷ receivers s (t + 1) (drop (t + 1) ps)) (receivers s (t + 1) (drop (t + 1) ps))
receivers_next s t ps h = let k : suc t ≡ t + 1 = omega arith in ap (receivers s t) (drop-cons ps t nobody h)
    ∙ ap (λ i. cond (not (t == s) && receives_from_alone (get_or ps t nobody).state s) (t ∷ receivers s (t + 1) (drop i ps)) (receivers s (t + 1) (drop i ps))) k

-- a process in no queue goes on as it is freed
pub woken_is : (w : TableState) (s t : ℕ) → IsAlone (process_at w t).state → goes_on w t (errno_bits Dead) ≡ table_after_freeing w t
woken_is w s t h = ap (λ x. goes_on x t (errno_bits Dead)) (sym (taken_out-alone w t h))

pub none_left : (s t : ℕ) (ps : List Process) → length ps ≤ t → receivers s t (drop t ps) ≡ []
none_left s t ps h = ap (receivers s t) (drop_of_length-le ps h)

pub freed_all : (w : TableState) (s : ℕ) → caller_of s Any w.waits ≡ None → table_after_freeing_all w (callers s w.waits) ≡ w
freed_all w s e = ap (table_after_freeing_all w) (no_caller s w.waits e)

pub home_sending : (st : State) → st ≡ Home → is_sending st ≡ false
home_sending st h = ap is_sending h

pub home_names : (st : State) (s : ℕ) → st ≡ Home → receives_from_alone st s ≡ false
home_names st s h = ap (λ x. receives_from_alone x s) h

-- once one is looked at, the later ones are left
pub woken_next : (w u : TableState) (s t : ℕ) (ps : List Process) → t < length ps → process_at w t ≡ get_or ps t nobody → u ≡ table_after_waking w s t
    → table_after_freeing_all u (receivers s (t + 1) (drop (t + 1) ps)) ≡ table_after_freeing_all w (receivers s t (drop t ps))
woken_next w u s t ps h same e =
    let rest = receivers s (t + 1) (drop (t + 1) ps) in
    let b = not (t == s) && receives_from_alone (process_at w t).state s in
    ap (λ x. table_after_freeing_all x rest) e ∙ both w t rest b ∙ ap (λ (p : Process). table_after_freeing_all w (cond (not (t == s) && receives_from_alone p.state s) (t ∷ rest) rest)) same ∙ ap (table_after_freeing_all w) (sym (receivers_next s t ps h))
  where
    both : (w : TableState) (t : ℕ) (rest : List ℕ) (b : Bool) → table_after_freeing_all (cond b (table_after_freeing w t) w) rest ≡ table_after_freeing_all w (cond b (t ∷ rest) rest)
    both w t rest true = refl
    both w t rest false = refl

-- who receives only from that slot goes on
pub woken_goes : (w u : TableState) (s t v : ℕ) → t ≢ s → receives_from_alone (process_at w t).state s ≡ true → IsAlone (process_at w t).state → u ≡ goes_on w t v → v ≡ errno_bits Dead → u ≡ table_after_waking w s t
woken_goes w u s t v n y a e is = rw (ne_eqb t s n) (rw y (e ∙ ap (goes_on w t) is ∙ woken_is w s t a))

-- ---- the whole

pub home_used : (w : TableState) (t : ℕ) → (process_at w t).state ≡ Home → t < length w.slots
home_used w t h = elim (cases_lt t (length w.slots)) [
  | inl lt ↦ lt
  | inr ge ↦ let e : (process_at w t).state ≡ Down Exit = ap (λ (p : Process). p.state) (get_or-eq_default w.slots nobody ge) in absurd (let f : Down Exit ≡ Home = sym e ∙ h in cc)
]

pub forgotten-at : (w : TableState) (s t : ℕ) → t < length w.slots → process_at (table_after_forgetting w s) t ≡ without_bit_of s (process_at w t)
forgotten-at w s t b = get_or-map (without_bit_of s) w.slots t nobody nobody b

pub forgotten-used : (w : TableState) (s : ℕ) → length (table_after_forgetting w s).slots ≡ length w.slots
forgotten-used w s = length-map w.slots (without_bit_of s)

pub forgotten-state : (s : ℕ) (ps : List Process) (t : ℕ) → (get_or (map (without_bit_of s) ps) t nobody).state ≡ (get_or ps t nobody).state
forgotten-state s [] t = refl
forgotten-state s (p ∷ ps) zero = refl
forgotten-state s (p ∷ ps) (suc t) = forgotten-state s ps t

pub buried-state : (w : TableState) (s : ℕ) (cause : DeathCause) → s < length w.slots → (process_at (table_after_burial w s cause) s).state ≡ Down cause
buried-state w s cause b = ap (λ (p : Process). p.state) (get_or-set_same w.slots s _ nobody b)

pub same_devices : (w n : TableState) → frame w ≡ frame n → w.devices ≡ n.devices
unfolding frame
same_devices w n e = ap (λ (f : Frame). f.devices) e

-- the steps of a death
pub died_is : (w left fc wr f b : TableState) (s : ℕ) (cause : DeathCause) → left ≡ table_after_taking_out w s → fc ≡ table_after_freeing_all left (callers s left.waits) → wr ≡ table_after_freeing_all fc (receivers s 0 fc.slots)
    → receivers s 0 fc.slots ≡ receivers s 0 left.slots → f ≡ table_after_forgetting wr s → b ≡ table_after_burial f s cause → b ≡ table_after_death w s cause
unfolding table_after_death
died_is w left fc wr f b s cause e1 e2 e3 e4 e5 e6 =
    let told : wr ≡ table_after_freeing_all left (waiting_for left s) = e3 ∙ ap (table_after_freeing_all fc) e4 ∙ ap (λ x. table_after_freeing_all x (receivers s 0 left.slots)) e2 ∙ sym (all_freed-append left (callers s left.waits) (receivers s 0 left.slots)) in
    e6 ∙ ap (λ x. table_after_burial x s cause) (e5 ∙ ap (λ x. table_after_forgetting x s) (told ∙ ap (λ x. table_after_freeing_all x (waiting_for x s)) e1))
