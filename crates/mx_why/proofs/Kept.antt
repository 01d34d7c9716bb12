-- What stays of some slots as a table changes, where others are touched.
use Rattle.std.proofs.Common.{◌≡◌, ◌∙◌, ℕ, zero, suc, ◌==◌, Bool, true, false, cond, nat_lt, List, [], ◌∷◌, ◌++◌, length, map, Option, Some, None, refl, sym, ap, subst, get_or, get_or-set_other, length-set, slice_set, inl, inr, ◌⊎◌, ⊎_elim, arith}
use Rattle.std.proofs.lemmas.Bool.{cases_eq, eq-eqb, ne_eqb}
use Rattle.std.proofs.lemmas.List.{length-map}
use Rattle.mx_proc.specs.declared.process.DeathCause.{DeathCause}
use Rattle.mx_proc.specs.declared.process.Process.{Process}
use Rattle.mx_proc.specs.declared.process.Source.{Source}
use Rattle.mx_proc.specs.declared.process.State.{State}
use Rattle.mx_proc.specs.declared.process.State.TheVariants.{Home}
use Rattle.mx_proc.specs.declared.windows.Window.{Window}
use Rattle.mx_proc.specs.Serving.{owner_but, table_after_burial, table_after_forgetting, with_alarm, with_copy, with_line, with_owner, with_window, without_bit_of}
use Rattle.mx_proc.specs.TableState.{TableState, nobody, process_at, with_message, with_pending, with_process, with_result, with_state, table_after_block, table_after_delivery, table_after_dequeue, table_after_notice, table_after_unblock, table_with_first, table_with_last, without_pending}
use Rattle.mx_proc.specs.Waits.{IsPair, next_of, without_from}
use Rattle.mx_proc.proofs.WaitLemmas.{pair_push, pair_without}
use Rattle.mx_kcall.specs.Calls.{goes_on}
use Rattle.mx_kcall.specs.Queueing.{is_last_renewed, next_level, table_after_queueing}
use Rattle.mx_kcall.specs.Refusals.{owner_of}

-- of a process, what stays while it waits or is down
abbrev pub stay_of : Process → State × ℕ × ℕ
stay_of p = (p.state, p.generation, p.restarts_used)

-- What is kept, from one table to another, of the slots of C: their processes, for whom they wait, that they own no
-- other lines and have no other alarms; and everybody's terms.
pub record Keeps (C : ℕ → Type 0) (t u : TableState) : Type 0 where
  pub inside : (p : ℕ) → C p → stay_of (process_at u p) ≡ stay_of (process_at t p)
  pub alarm : (p : ℕ) → C p → (process_at t p).alarm ≡ None → (process_at u p).alarm ≡ None
  pub next : (p : ℕ) → C p → next_of p u.waits ≡ next_of p t.waits
  pub pairs : (p q : ℕ) → C p → IsPair u.waits p q → IsPair t.waits p q
  pub owned : (p l : ℕ) → C p → owner_of u l ≡ Some p → owner_of t l ≡ Some p
  pub terms : (q : ℕ) → (process_at u q).schedule.terms ≡ (process_at t q).schedule.terms
  pub long : length u.slots ≡ length t.slots

pub keeps_all : (C : ℕ → Type 0) (t : TableState) → Keeps C t t
keeps_all C t = record {
  inside = λ p c. refl;
  alarm = λ p c e. e;
  next = λ p c. refl;
  pairs = λ p q c h. h;
  owned = λ p l c e. e;
  terms = λ q. refl;
  long = refl;
}

pub keeps_then : (C : ℕ → Type 0) (t u v : TableState) → Keeps C t u → Keeps C u v → Keeps C t v
keeps_then C t u v h k = record {
  inside = λ p c. k.inside p c ∙ h.inside p c;
  alarm = λ p c e. k.alarm p c (h.alarm p c e);
  next = λ p c. k.next p c ∙ h.next p c;
  pairs = λ p q c e. h.pairs p q c (k.pairs p q c e);
  owned = λ p l c e. h.owned p l c (k.owned p l c e);
  terms = λ q. k.terms q ∙ h.terms q;
  long = k.long ∙ h.long;
}

pub keeps_either : (C : ℕ → Type 0) (t x y : TableState) (b : Bool) → (b ≡ true → Keeps C t x) → (b ≡ false → Keeps C t y) → Keeps C t (cond b x y)
keeps_either C t x y true f g = f refl
keeps_either C t x y false f g = g refl

-- ---- one slot

-- what a new process of a slot shows, if that is what it showed
pub at_set : {X : Type 0} (f : Process → X) (ps : List Process) (s q : ℕ) (p : Process) → f p ≡ f (get_or ps s nobody) → f (get_or (slice_set ps s p) q nobody) ≡ f (get_or ps q nobody)
at_set f [] s q p e = refl
at_set f (r ∷ ps) zero zero p e = e
at_set f (r ∷ ps) zero (suc q) p e = refl
at_set f (r ∷ ps) (suc s) zero p e = refl
at_set f (r ∷ ps) (suc s) (suc q) p e = at_set f ps s q p e

-- what holds of it, if it held
at_set_if : (P : Process → Type 0) (ps : List Process) (s q : ℕ) (p : Process) → (P (get_or ps s nobody) → P p) → P (get_or ps q nobody) → P (get_or (slice_set ps s p) q nobody)
at_set_if P [] s q p f h = h
at_set_if P (r ∷ ps) zero zero p f h = f h
at_set_if P (r ∷ ps) zero (suc q) p f h = h
at_set_if P (r ∷ ps) (suc s) zero p f h = h
at_set_if P (r ∷ ps) (suc s) (suc q) p f h = at_set_if P ps s q p f h

-- of a process that takes another's place: what stays, and no alarm
abbrev pub IsAsBefore : Process → Process → Type 0
IsAsBefore q p = (stay_of p ≡ stay_of q) × (q.alarm ≡ None → p.alarm ≡ None)

-- one slot has another process, and nothing else is another that counts
pub keeps_put : (C : ℕ → Type 0) (t u : TableState) (s : ℕ) (p : Process) → u.slots ≡ slice_set t.slots s p → u.waits ≡ t.waits → u.devices.owners ≡ t.devices.owners
    → p.schedule.terms ≡ (process_at t s).schedule.terms → (C s → IsAsBefore (process_at t s) p) → Keeps C t u
keeps_put C t u s p slots waits owners terms as_before = record {
  inside = λ q c. ap (λ xs. stay_of (get_or xs q nobody)) slots ∙ elim (cases_eq q s) [
    | inl e ↦ at_set stay_of t.slots s q p (as_before (subst C e c)).0
    | inr n ↦ ap stay_of (get_or-set_other t.slots s q p nobody n)
  ];
  alarm = λ q c none. ap (λ xs. (get_or xs q nobody).alarm) slots ∙ elim (cases_eq q s) [
    | inl e ↦ at_set_if (λ x. x.alarm ≡ None) t.slots s q p (as_before (subst C e c)).1 none
    | inr n ↦ ap (λ (x : Process). x.alarm) (get_or-set_other t.slots s q p nobody n) ∙ none
  ];
  next = λ q c. ap (next_of q) waits;
  pairs = λ q r c h. subst (λ xs. IsPair xs q r) waits h;
  owned = λ q l c e. ap (λ (xs : List (Option ℕ)). get_or xs l None) (sym owners) ∙ e;
  terms = λ q. ap (λ xs. (get_or xs q nobody).schedule.terms) slots ∙ at_set (λ x. x.schedule.terms) t.slots s q p terms;
  long = ap length slots ∙ length-set t.slots s p;
}

-- a slot that isn't of C
pub keeps_other : (C : ℕ → Type 0) (t u : TableState) (s : ℕ) (p : Process) → u.slots ≡ slice_set t.slots s p → u.waits ≡ t.waits → u.devices.owners ≡ t.devices.owners
    → p.schedule.terms ≡ (process_at t s).schedule.terms → (C s → ⊥) → Keeps C t u
keeps_other C t u s p slots waits owners terms n = keeps_put C t u s p slots waits owners terms (λ c. absurd (n c))

-- other waits
keeps_waits : (C : ℕ → Type 0) (t u : TableState) → u.slots ≡ t.slots → u.devices.owners ≡ t.devices.owners → ((p : ℕ) → C p → next_of p u.waits ≡ next_of p t.waits)
    → ((p q : ℕ) → C p → IsPair u.waits p q → IsPair t.waits p q) → Keeps C t u
keeps_waits C t u slots owners next pairs = record {
  inside = λ q c. ap (λ xs. stay_of (get_or xs q nobody)) slots;
  alarm = λ q c e. ap (λ xs. (get_or xs q nobody).alarm) slots ∙ e;
  next = next;
  pairs = pairs;
  owned = λ q l c e. ap (λ (xs : List (Option ℕ)). get_or xs l None) (sym owners) ∙ e;
  terms = λ q. ap (λ xs. (get_or xs q nobody).schedule.terms) slots;
  long = ap length slots;
}

-- other owners
keeps_owners : (C : ℕ → Type 0) (t u : TableState) → u.slots ≡ t.slots → u.waits ≡ t.waits → ((p l : ℕ) → C p → owner_of u l ≡ Some p → owner_of t l ≡ Some p) → Keeps C t u
keeps_owners C t u slots waits owned = record {
  inside = λ q c. ap (λ xs. stay_of (get_or xs q nobody)) slots;
  alarm = λ q c e. ap (λ xs. (get_or xs q nobody).alarm) slots ∙ e;
  next = λ q c. ap (next_of q) waits;
  pairs = λ q r c h. subst (λ xs. IsPair xs q r) waits h;
  owned = owned;
  terms = λ q. ap (λ xs. (get_or xs q nobody).schedule.terms) slots;
  long = ap length slots;
}

-- neither slots nor waits nor owners
pub keeps_rest : (C : ℕ → Type 0) (t u : TableState) → u.slots ≡ t.slots → u.waits ≡ t.waits → u.devices.owners ≡ t.devices.owners → Keeps C t u
keeps_rest C t u slots waits owners = keeps_owners C t u slots waits (λ p l c e. ap (λ (xs : List (Option ℕ)). get_or xs l None) (sym owners) ∙ e)

-- ---- waits

next_push : (w : List (ℕ × ℕ)) (s d p : ℕ) → (s ≡ p → ⊥) → next_of p (w ++ (s, d) ∷ []) ≡ next_of p w
next_push [] s d p n = rw (ne_eqb s p n) refl
next_push (x ∷ w) s d p n = ap (λ (o : Option ℕ). cond (x.0 == p) (Some x.1) o) (next_push w s d p n)

next_without : (w : List (ℕ × ℕ)) (s p : ℕ) → (p ≡ s → ⊥) → next_of p (without_from s w) ≡ next_of p w
next_without [] s p n = refl
next_without (x ∷ w) s p n = elim (cases_eq x.0 s) [
  | inl e ↦ let m : x.0 ≡ p → ⊥ = λ f. n (sym f ∙ e) in rw (eq-eqb x.0 s e) (rw (ne_eqb x.0 p m) (next_without w s p n))
  | inr m ↦ rw (ne_eqb x.0 s m) (ap (λ (o : Option ℕ). cond (x.0 == p) (Some x.1) o) (next_without w s p n))
]

module _ (C : ℕ → Type 0) (t : TableState) (s : ℕ) (n : C s → ⊥) where
  apart : (p : ℕ) → C p → p ≡ s → ⊥
  apart p c e = n (subst C e c)

  pub keeps_state : (st : State) → Keeps C t (with_state t s st)
  keeps_state st = keeps_other C t _ s _ refl refl refl refl n

  pub keeps_block : (d : ℕ) (st : State) → Keeps C t (table_after_block t s d st)
  keeps_block d st =
      let v = with_state t s st in
      keeps_then C t v _ (keeps_state st)
      (keeps_waits C v (table_after_block t s d st) refl refl (λ p c. next_push t.waits s d p (λ e. apart p c (sym e)))
      (λ p q c h. ⊎_elim (λ k. k) (λ k. absurd (apart p c (sym k.0))) (pair_push t.waits s d p q h)))

  pub keeps_unblock : Keeps C t (table_after_unblock t s)
  keeps_unblock =
      let v = with_state t s Home in
      keeps_then C t v _ (keeps_state Home)
      (keeps_waits C v (table_after_unblock t s) refl refl (λ p c. next_without t.waits s p (apart p c)) (λ p q c h. pair_without t.waits s p q h))

  pub keeps_dequeue : Keeps C t (table_after_dequeue t s)
  keeps_dequeue = keeps_other C t _ s _ refl refl refl refl n

  pub keeps_queueing : Keeps C t (table_after_queueing t s)
  unfolding table_after_queueing
  keeps_queueing = keeps_either C t (table_with_first t s) (table_with_last t s (next_level (process_at t s) (is_last_renewed t s))) (nat_lt 0 (process_at t s).schedule.ticks)
      (λ e. keeps_other C t _ s _ refl refl refl refl n) (λ e. keeps_other C t _ s _ refl refl refl refl n)

  pub keeps_result : (r : ℕ) → Keeps C t (with_result t s r)
  keeps_result r = keeps_other C t _ s _ refl refl refl refl n

  pub keeps_burial : (cause : DeathCause) → Keeps C t (table_after_burial t s cause)
  keeps_burial cause = keeps_other C t _ s _ refl refl refl refl n

  pub keeps_owner : (l : ℕ) (o : Option ℕ) → (o ≡ None) ⊎ (o ≡ Some s) → Keeps C t (with_owner t l o)
  keeps_owner l o is = keeps_owners C t _ refl refl (λ p k c e. elim (cases_eq k l) [
    | inl same ↦ absurd (owner_set t.devices.owners l k o p (λ f. elim is [
      | inl g ↦ none_some (sym g ∙ f)
      | inr g ↦ apart p c (some_is (sym f ∙ g))
    ]) same e)
    | inr other ↦ sym (get_or-set_other t.devices.owners l k o None other) ∙ e
  ])
    where
      none_some : {p : ℕ} → None ≡ Some p → ⊥
      none_some e = cc

      some_is : {p q : ℕ} → Some p ≡ Some q → p ≡ q
      some_is e = cc

      owner_set : (os : List (Option ℕ)) (l k : ℕ) (o : Option ℕ) (p : ℕ) → (o ≡ Some p → ⊥) → k ≡ l → get_or (slice_set os l o) k None ≡ Some p → ⊥
      owner_set [] l k o p m e h = none_some h
      owner_set (x ∷ os) zero zero o p m e h = m h
      owner_set (x ∷ os) zero (suc k) o p m e h = absurd (omega (arith, e))
      owner_set (x ∷ os) (suc l) zero o p m e h = absurd (omega (arith, e))
      owner_set (x ∷ os) (suc l) (suc k) o p m e h = owner_set os l k o p m (omega (arith, e)) h

pub keeps_goes_on : (C : ℕ → Type 0) (t : TableState) (s r : ℕ) → (C s → ⊥) → Keeps C t (goes_on t s r)
unfolding goes_on
keeps_goes_on C t s r n = keeps_then C t (with_result t s r) _ (keeps_result C t s n r) (keeps_queueing C (with_result t s r) s n)

pub then_goes_on : (C : ℕ → Type 0) (t u : TableState) (s r : ℕ) → (C s → ⊥) → Keeps C t u → Keeps C t (goes_on u s r)
then_goes_on C t u s r n k = keeps_then C t u _ k (keeps_goes_on C u s r n)

-- ---- what a process has besides

module _ (C : ℕ → Type 0) (t : TableState) (s : ℕ) where
  pub keeps_message : (bytes : List ℕ) → Keeps C t (with_message t s bytes)
  keeps_message bytes = keeps_put C t _ s _ refl refl refl refl (λ c. (refl, λ e. e))

  pub keeps_delivery : (from : ℕ) → Keeps C t (table_after_delivery t from s)
  unfolding table_after_delivery
  keeps_delivery from = keeps_put C t _ s _ refl refl refl refl (λ c. (refl, λ e. e))

  pub keeps_notice : (x : Source) → Keeps C t (table_after_notice t s x)
  unfolding table_after_notice
  keeps_notice x =
      let v = with_process t s (without_pending (process_at t s) x) in
      keeps_then C t v _ (keeps_put C t v s _ refl refl refl refl (λ c. (refl, λ e. e))) (keeps_put C v _ s _ refl refl refl refl (λ c. (refl, λ e. e)))

  pub keeps_pending : (place : ℕ) (bit : Bool) → Keeps C t (with_pending t s place bit)
  keeps_pending place bit = keeps_put C t _ s _ refl refl refl refl (λ c. (refl, λ e. e))

  pub keeps_line : (l : ℕ) → Keeps C t (with_line t s l)
  keeps_line l = keeps_put C t _ s _ refl refl refl refl (λ c. (refl, λ e. e))

  pub keeps_window : (user : ℕ) (x : Option Window) → Keeps C t (with_window t s user x)
  keeps_window user x = keeps_put C t _ s _ refl refl refl refl (λ c. (refl, λ e. e))

  pub keeps_copy : (from at place count : ℕ) → Keeps C t (with_copy t from at s place count)
  keeps_copy from at place count = keeps_put C t _ s _ refl refl refl refl (λ c. (refl, λ e. e))

  pub keeps_no_alarm : Keeps C t (with_alarm t s None)
  keeps_no_alarm = keeps_put C t _ s _ refl refl refl refl (λ c. (refl, λ e. refl))

  pub keeps_alarm : (due : Option ℕ) → (C s → ⊥) → Keeps C t (with_alarm t s due)
  keeps_alarm due n = keeps_other C t _ s _ refl refl refl refl n

-- ---- all slots

pub keeps_forgetting : (C : ℕ → Type 0) (t : TableState) (s : ℕ) → Keeps C t (table_after_forgetting t s)
keeps_forgetting C t s = record {
  inside = λ p c. at_map stay_of (λ x. refl) t.slots p;
  alarm = λ p c e. at_map (λ x. x.alarm) (λ x. refl) t.slots p ∙ e;
  next = λ p c. refl;
  pairs = λ p q c h. h;
  owned = λ p l c e. owner_was t.devices.owners l p e;
  terms = λ q. at_map (λ x. x.schedule.terms) (λ x. refl) t.slots q;
  long = length-map t.slots (without_bit_of s);
}
  where
    at_map : {X : Type 0} (f : Process → X) → ((x : Process) → f (without_bit_of s x) ≡ f x) → (ps : List Process) (q : ℕ) → f (get_or (map (without_bit_of s) ps) q nobody) ≡ f (get_or ps q nobody)
    at_map f e [] q = refl
    at_map f e (p ∷ ps) zero = e p
    at_map f e (p ∷ ps) (suc q) = at_map f e ps q

    was : (o : Option ℕ) (p : ℕ) → owner_but s o ≡ Some p → o ≡ Some p
    was None p e = e
    was (Some x) p e = by_bool (x == s) e
      where
        by_bool : (b : Bool) → cond b None (Some x) ≡ Some p → Some x ≡ Some p
        by_bool true f = cc
        by_bool false f = f

    owner_was : (os : List (Option ℕ)) (l p : ℕ) → get_or (map (owner_but s) os) l None ≡ Some p → get_or os l None ≡ Some p
    owner_was [] l p e = e
    owner_was (o ∷ os) zero p e = was o p e
    owner_was (o ∷ os) (suc l) p e = owner_was os l p e
