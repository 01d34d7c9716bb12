-- A sound machine lends each process once, and whoever is picked isn't lent.
use Rattle.std.proofs.Common.{◌≡◌, ◌∙◌, ℕ, zero, suc, ◌<◌, ◌==◌, Bool, true, false, cond, List, [], ◌∷◌, map, Option, Some, None, refl, sym, ap, subst, get_or, arith, inl, inr}
use Rattle.std.proofs.lemmas.Bool.{cases_eq, eq-eqb, ne_eqb}
use Rattle.mx_exec.specs.declared.image.Image.{Image}
use Rattle.mx_proc.specs.declared.process.Process.{Process}
use Rattle.mx_proc.specs.declared.process.State.{State}
use Rattle.mx_proc.specs.declared.process.State.TheVariants.{Home, Ready, Out, Doomed, Sending, Calling, Receiving, Awaiting, Down}
use Rattle.mx_proc.specs.Frame.{loan_of}
use Rattle.mx_proc.specs.Queues.{list_at, first_ready, tally, times}
use Rattle.mx_proc.specs.Sound.{Sound, belongs}
use Rattle.mx_proc.specs.States.{is_ready, is_out}
use Rattle.mx_proc.specs.TableState.{TableState, process_at}
use Rattle.mx_machine.specs.Sound.{IsSound, lease_of, lease_at}
use Rattle.mx_machine.specs.World.{World, HeldProcess, held_by}
use Rattle.mx_laws.specs.Diaries.{image_held_in}
use Rattle.mx_laws.proofs.DiaryMoves.{IsHeldOnce}

leases_at : (xs : List (Option HeldProcess)) (a : ℕ) → lease_at (map lease_of xs) a ≡ lease_of (get_or xs a None)
leases_at [] a = refl
leases_at (x ∷ xs) zero = refl
leases_at (x ∷ xs) (suc a) = leases_at xs a

leased : (w : World) (a : ℕ) (l : HeldProcess) → held_by w a ≡ Some l → lease_at (map lease_of w.cpus) a ≡ lease_of (Some l)
leased w a l e = leases_at w.cpus a ∙ ap lease_of e

-- ---- who is picked

ready_in : (lists : List (List ℕ)) (s : ℕ) → first_ready lists ≡ Some s → (level : ℕ) × (0 < times s (list_at lists level))
ready_in [] s e = cc
ready_in ([] ∷ lists) s e = let h = ready_in lists s e in (suc h.0, h.1)
ready_in ((x ∷ xs) ∷ lists) s e = elim (cases_eq x s) [
  | inl g ↦ (0, omega (arith, ap tally (eq-eqb x s g)))
  | inr n ↦ absurd (n (some_is x s e))
]
  where
    some_is : (x s : ℕ) → Some x ≡ Some s → x ≡ s
    some_is x s e = cc

belongs_none : (p : Process) (level : ℕ) → is_ready p.state ≡ false → belongs p level ≡ 0
belongs_none p level e = ap (λ b. cond b (tally (p.schedule.level == level)) 0) e

ready_stays : (st : State) → is_ready st ≡ true → is_out st ≡ false
ready_stays Home e = cc
ready_stays Ready e = refl
ready_stays Out e = cc
ready_stays Doomed e = cc
ready_stays Sending e = cc
ready_stays Calling e = cc
ready_stays (Receiving p) e = cc
ready_stays (Awaiting d) e = cc
ready_stays (Down c) e = cc

picked_ready : (w : TableState) (s : ℕ) → Sound w → first_ready w.ready ≡ Some s → is_ready (process_at w s).state ≡ true
picked_ready w s h e =
    let k = ready_in w.ready s e in
    by_bool (is_ready (process_at w s).state) refl k.0 k.1
  where
    by_bool : (b : Bool) → is_ready (process_at w s).state ≡ b → (level : ℕ) → 0 < times s (list_at w.ready level) → b ≡ true
    by_bool true f level g = refl
    by_bool false f level g = absurd (omega (arith, g, (h.each s).listed level, belongs_none (process_at w s) level f))

-- ---- who is lent

held_found : (s : ℕ) (xs : List (Option HeldProcess)) (m : Image) → image_held_in s xs ≡ Some m → (a : ℕ) × (l : HeldProcess) × (get_or xs a None ≡ Some l) × (l.slot ≡ s)
held_found s [] m e = cc
held_found s (None ∷ xs) m e = let h = held_found s xs m e in (suc h.0, h.1, h.2, h.3)
held_found s (Some l ∷ xs) m e = elim (cases_eq l.slot s) [
  | inl g ↦ (0, l, refl, g)
  | inr n ↦ let h = held_found s xs m (ap (λ b. cond b (Some l.out.image) (image_held_in s xs)) (sym (ne_eqb l.slot s n)) ∙ e) in (suc h.0, h.1, h.2, h.3)
]

loan_none : (p : Process) (n : ℕ) → is_out p.state ≡ false → loan_of p ≡ Some n → ⊥
loan_none p n e f = none_some (loan_of p) n (ap (λ b. cond b (Some p.schedule.ticks) None) e) f
  where
    none_some : (o : Option ℕ) (n : ℕ) → o ≡ None → o ≡ Some n → ⊥
    none_some o n e f = cc

-- who is held is out
pub held_is_out : (w : World) (a : ℕ) (l : HeldProcess) → IsSound w → held_by w a ≡ Some l → is_out (process_at w.table l.slot).state ≡ false → ⊥
held_is_out w a l h e n =
    loan_none (process_at w.table l.slot) l.out.budget n (h.holds.leased a (record { slot = l.slot; budget = l.out.budget }) (leased w a l e))

-- who isn't out is held by no processor
pub not_held : (w : World) (s : ℕ) → IsSound w → is_out (process_at w.table s).state ≡ false → image_held_in s w.cpus ≡ None
not_held w s h n = by_image (image_held_in s w.cpus) refl
  where
    by_image : (o : Option Image) → image_held_in s w.cpus ≡ o → o ≡ None
    by_image None f = refl
    by_image (Some m) f =
        let k = held_found s w.cpus m f in
        absurd (held_is_out w k.0 k.1 h k.2 (subst (λ z. is_out (process_at w.table z).state ≡ false) (sym k.3) n))

pub held_once : (w : World) → IsSound w → IsHeldOnce w
held_once w h = record {
  apart = λ a b l k e f g. h.holds.apart a b (record { slot = l.slot; budget = l.out.budget }) (record { slot = k.slot; budget = k.out.budget }) (leased w a l e) (leased w b k f) g;
  picked_free = λ s e. not_held w s h (ready_stays (process_at w.table s).state (picked_ready w.table s h.table e));
}
