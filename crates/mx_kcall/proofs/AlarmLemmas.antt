use Rattle.std.proofs.Common.{◌≡◌, ◌∙◌, ◌<◌, ◌≤◌, ◌+◌, ℕ, zero, suc, Bool, true, false, cond, nat_lt, List, [], ◌∷◌, length, drop, get_or, slice_set, refl, ap, sym, arith, inl, inr}
use Rattle.std.proofs.lemmas.Bool.{cases_Bool}
use Rattle.std.proofs.Math.Seq.{drop-cons}
use Rattle.std.proofs.Math.ListN.{drop_of_length-le}
use Rattle.mx_respawn.specs.Proc.declared.process.Process.{Process}
use Rattle.mx_respawn.specs.Proc.declared.process.Source.{Source}
use Rattle.mx_respawn.specs.Proc.TableState.{TableState, process_at, nobody, table_after_notice, with_result, with_process, without_pending}
use Rattle.mx_respawn.specs.Queueing.{table_after_queueing, next_level, is_last_renewed}
use Rattle.mx_respawn.specs.Calls.{goes_on, table_after_notifying, hears}
use Rattle.mx_kcall.specs.Clock.{is_due, due_slots, table_after_ring, table_after_rings}
use Rattle.mx_kcall.specs.Ringing.{table_after_ring_if_due}

-- a process is changed, and not its alarm
kept : (ps : List Process) (d : ℕ) (p : Process) → p.alarm ≡ (get_or ps d nobody).alarm → (t : ℕ) → (get_or (slice_set ps d p) t nobody).alarm ≡ (get_or ps t nobody).alarm
kept [] d p e t = refl
kept (x ∷ xs) zero p e zero = e
kept (x ∷ xs) zero p e (suc t) = refl
kept (x ∷ xs) (suc d) p e zero = refl
kept (x ∷ xs) (suc d) p e (suc t) = kept xs d p e t

queued-alarm : (w : TableState) (s t : ℕ) → (process_at (table_after_queueing w s) t).alarm ≡ (process_at w t).alarm
unfolding table_after_queueing
queued-alarm w s t = let p = process_at w s in let l = next_level p (is_last_renewed w s) in elim (cases_Bool (nat_lt 0 p.schedule.ticks)) [
  | inl y ↦ rw y (kept w.slots s _ refl t)
  | inr n ↦ rw n (kept w.slots s _ refl t)
]

goes_on-alarm : (w : TableState) (s r t : ℕ) → (process_at (goes_on w s r) t).alarm ≡ (process_at w t).alarm
unfolding goes_on
goes_on-alarm w s r t = queued-alarm (with_result w s r) s t ∙ kept w.slots s _ refl t

noticed-alarm : (w : TableState) (d : ℕ) (from : Source) (t : ℕ) → (process_at (table_after_notice w d from) t).alarm ≡ (process_at w t).alarm
unfolding table_after_notice
noticed-alarm w d from t = kept (with_process w d (without_pending (process_at w d) from)).slots d _ refl t ∙ kept w.slots d (without_pending (process_at w d) from) refl t

-- a notification leaves the alarms
pub told-alarm : (w : TableState) (from : Source) (d t : ℕ) → (process_at (table_after_notifying w from d) t).alarm ≡ (process_at w t).alarm
unfolding table_after_notifying
told-alarm w from d t = elim (cases_Bool (hears (process_at w d).state from)) [
  | inl y ↦ rw y (goes_on-alarm (table_after_notice w d from) d 0 t ∙ noticed-alarm w d from t)
  | inr n ↦ rw n (kept w.slots d _ refl t)
]

due_next : (uptime t : ℕ) (ps : List Process) → t < length ps
    → due_slots uptime t (drop t ps) ≡ cond (is_due uptime (get_or ps t nobody).alarm) (t ∷ due_slots uptime (t + 1) (drop (t + 1) ps)) (due_slots uptime (t + 1) (drop (t + 1) ps))
due_next uptime t ps h = let k : suc t ≡ t + 1 = omega arith in ap (due_slots uptime t) (drop-cons ps t nobody h)
    ∙ ap (λ i. cond (is_due uptime (get_or ps t nobody).alarm) (t ∷ due_slots uptime (t + 1) (drop i ps)) (due_slots uptime (t + 1) (drop i ps))) k

-- once one is looked at, the later ones are left
pub rung_next : (w u : TableState) (uptime t : ℕ) (ps : List Process) → t < length ps → w.uptime ≡ uptime → (process_at w t).alarm ≡ (get_or ps t nobody).alarm → u ≡ table_after_ring_if_due w t
    → table_after_rings u (due_slots uptime (t + 1) (drop (t + 1) ps)) ≡ table_after_rings w (due_slots uptime t (drop t ps))
rung_next w u uptime t ps h clock same e =
    let rest = due_slots uptime (t + 1) (drop (t + 1) ps) in
    ap (λ x. table_after_rings x rest) e ∙ both w t rest (is_due w.uptime (process_at w t).alarm)
    ∙ ap (λ c. table_after_rings w (cond (is_due c (process_at w t).alarm) (t ∷ rest) rest)) clock
    ∙ ap (λ a. table_after_rings w (cond (is_due uptime a) (t ∷ rest) rest)) same ∙ ap (table_after_rings w) (sym (due_next uptime t ps h))
  where
    both : (w : TableState) (t : ℕ) (rest : List ℕ) (b : Bool) → table_after_rings (cond b (table_after_ring w t) w) rest ≡ table_after_rings w (cond b (t ∷ rest) rest)
    both w t rest true = refl
    both w t rest false = refl

pub none_due : (uptime t : ℕ) (ps : List Process) → length ps ≤ t → due_slots uptime t (drop t ps) ≡ []
none_due uptime t ps h = ap (due_slots uptime t) (drop_of_length-le ps h)
