use Rattle.std.proofs.Common.{◌≡◌, ◌≢◌, ℕ, ◌+◌, ◌^◌, ◌<◌, ◌≤◌, ◌==◌, true, false, cond, List, [], ◌∷◌, ◌++◌, length, get_or, slice_set, refl, sym, ap, ◌∙◌, arith, subst, inl, inr, Option, IfSome}
use Rattle.std.proofs.lemmas.Bool.{cases_eq}
use Rattle.mx_proc.specs.declared.process.Process.{Process}
use Rattle.mx_proc.specs.declared.process.State.{State}
use Rattle.mx_proc.specs.declared.process.State.TheVariants.{Home, Ready, Out, Doomed, Sending, Calling, Receiving, Awaiting, Down}
use Rattle.mx_proc.specs.Queues.{tally, times, without, list_at}
use Rattle.mx_proc.specs.States.{IsAlone, is_ready, is_sending, is_blocked, is_down, is_out}
use Rattle.mx_proc.specs.Waits.{sends_of, without_from, Reaches}
use Rattle.mx_proc.specs.TableState.{TableState, nobody, process_at, with_process}
use Rattle.mx_proc.specs.Sound.{Sound, IsProcess, HasBuffer, belongs}
use Rattle.mx_proc.proofs.ListLemmas.{get_or-any, tally-same}
use Rattle.mx_proc.proofs.SoundLemmas.{process-same, process-other, alone, stays, placed, left, freed, waits_for}

pub the_process : (w n : TableState) (s : ℕ) (q : Process) → w ≡ n → s < length n.slots → q ≡ get_or w.slots s q → q ≡ process_at n s
the_process w n s q v b e = e ∙ get_or-any w.slots s q nobody (subst (λ (x : TableState). s < length x.slots) (sym v) b) ∙ ap (λ x. process_at x s) v

pub is_process : (w n : TableState) (s : ℕ) (q : Process) → w ≡ n → Sound w → q ≡ process_at n s → IsProcess n.uptime q
is_process w n s q v h e = subst (IsProcess n.uptime) (sym e) ((subst Sound v h).each s).process

-- the same at the table's own uptime
pub is_process_here : (w n : TableState) (s : ℕ) (q : Process) → w ≡ n → Sound w → q ≡ process_at n s → IsProcess w.uptime q
is_process_here w n s q v h e = subst (λ (x : TableState). IsProcess x.uptime q) (sym v) (is_process w n s q v h e)

-- the same table by another name
pub renamed : (w n : TableState) (s : ℕ) (p : Process) → w ≡ n → Sound (with_process n s p) → Sound (with_process w s p)
renamed w n s p v h = subst (λ x. Sound (with_process x s p)) (sym v) h

pub state_set : (w n : TableState) (s : ℕ) (q : Process) (st : State) → w ≡ n → Sound w → s < length n.slots → q ≡ get_or w.slots s q
    → IsAlone (process_at n s).state → IsAlone st → (is_blocked st ≡ true → HasBuffer (process_at n s)) → Sound (with_process w s (record q { state = st }))
state_set w n s q st v h b e o still room =
    let is = the_process w n s q v b e in
    let k = is_process w n s q v h is in
    renamed w n s (record q { state = st }) v (alone n s (record q { state = st }) (subst Sound v h) b o still (record {
      generation = k.generation;
      pending = k.pending;
      windows = k.windows;
      alarm = k.alarm;
      buffer = λ m. subst (λ p. HasBuffer p) (sym is) (room m);
    }))

-- what a change leaves of what holds of a process
pub record Alike (q p : Process) : Type 0 where
  pub state : p.state ≡ q.state
  pub level : p.schedule.level ≡ q.schedule.level
  pub generation : p.generation ≡ q.generation
  pub pending : length p.pending ≡ length q.pending
  pub windows : length p.windows ≡ length q.windows
  pub alarm : p.alarm ≡ q.alarm
  pub buffer : p.image.regs.ebx ≡ q.image.regs.ebx
  pub memory : length p.image.memory ≡ length q.image.memory

pub alike : (w n : TableState) (s : ℕ) (q p : Process) → w ≡ n → Sound w → s < length n.slots → q ≡ get_or w.slots s q → Alike q p → Sound (with_process w s p)
alike w n s q p v h b e a =
    let is = the_process w n s q v b e in
    let k = is_process w n s q v h is in
    renamed w n s p v (stays n s p (subst Sound v h) b (a.state ∙ ap (λ x. x.state) is) (a.level ∙ ap (λ (x : Process). x.schedule.level) is) (record {
      generation = subst (λ g. g < 2 ^ 20) (sym a.generation) k.generation;
      pending = a.pending ∙ k.pending;
      windows = a.windows ∙ k.windows;
      alarm = subst (λ o. IfSome o (λ due. due < n.uptime + 2 ^ 32)) (sym a.alarm) k.alarm;
      buffer = λ m. let r : HasBuffer q = k.buffer (ap is_blocked (sym a.state) ∙ m) in omega (arith, r, a.buffer, a.memory);
    }))

-- an alarm is set, or cleared
pub alarm_set : (w n : TableState) (s : ℕ) (q : Process) (due : Option ℕ) → w ≡ n → Sound w → s < length n.slots → q ≡ get_or w.slots s q → IfSome due (λ d. d < n.uptime + 2 ^ 32) → Sound (with_process w s (record q { alarm = due }))
alarm_set w n s q due v h b e bound =
    let is = the_process w n s q v b e in
    let k = is_process w n s q v h is in
    renamed w n s (record q { alarm = due }) v (stays n s (record q { alarm = due }) (subst Sound v h) b (ap (λ (p : Process). p.state) is) (ap (λ (p : Process). p.schedule.level) is)
    (record { generation = k.generation; pending = k.pending; windows = k.windows; alarm = bound; buffer = k.buffer }))

-- who is ready is in the list of its level
pub ready_listed : (w n : TableState) (s : ℕ) (q : Process) → w ≡ n → Sound w → s < length n.slots → q ≡ get_or w.slots s q → is_ready (process_at n s).state ≡ true → 1 ≤ times s (list_at w.ready q.schedule.level)
ready_listed w n s q v h b e y =
    let same : q ≡ process_at w s = the_process w n s q v b e ∙ ap (λ x. process_at x s) (sym v) in
    let ready : is_ready q.state ≡ true = ap (λ (p : Process). is_ready p.state) same ∙ subst (λ x. is_ready (process_at x s).state ≡ true) (sym v) y in
    let once : belongs q q.schedule.level ≡ 1 = ap (λ r. cond r (tally (q.schedule.level == q.schedule.level)) 0) ready ∙ tally-same q.schedule.level q.schedule.level refl in
    omega (arith, (h.each s).listed q.schedule.level, once, ap (λ p. belongs p q.schedule.level) same)

-- who is sending is among the blocked sends
pub sending_waits : (w n : TableState) (s : ℕ) → w ≡ n → Sound w → is_sending (process_at n s).state ≡ true → 1 ≤ sends_of s w.waits
sending_waits w n s v h y =
    let sends : is_sending (process_at w s).state ≡ true = subst (λ x. is_sending (process_at x s).state ≡ true) (sym v) y in
    omega (arith, (h.each s).waiting, ap tally sends)

-- ready, in the list of a level
pub listed : (w n w' : TableState) (s level : ℕ) (list : List ℕ) (q p : Process) → w ≡ n → Sound w → s < length n.slots → q ≡ get_or w.slots s q → IsAlone (process_at n s).state
    → p.schedule.level ≡ level → p.state ≡ Ready → p.generation ≡ q.generation → p.pending ≡ q.pending → p.windows ≡ q.windows → p.alarm ≡ q.alarm
    → w'.slots ≡ slice_set w.slots s p → w'.ready ≡ slice_set w.ready level list → w'.waits ≡ w.waits → w'.devices ≡ w.devices → w'.uptime ≡ w.uptime → ((t : ℕ) → times t list ≡ tally (s == t) + times t (list_at w.ready level)) → Sound w'
listed w n w' s level list q p v h b e o at st generation notes panes alarm slots r u f g counts =
    let is = the_process w n s q v b e in
    let k = is_process_here w n s q v h is in
    placed w w' s level list p h (subst (λ (x : TableState). s < length x.slots) (sym v) b) (subst (λ x. IsAlone (process_at x s).state) (sym v) o) (omega (arith, at, p.schedule.lowest)) at st (record {
      generation = subst (λ g. g < 2 ^ 20) (sym generation) k.generation;
      pending = ap length notes ∙ k.pending;
      windows = ap length panes ∙ k.windows;
      alarm = subst (λ o. IfSome o (λ due. due < w.uptime + 2 ^ 32)) (sym alarm) k.alarm;
      buffer = λ m. let f : false ≡ true = ap is_blocked (sym st) ∙ m in cc;
    }) slots r u f g counts

homed : (uptime : ℕ) (q : Process) → IsProcess uptime q → IsProcess uptime (record q { state = Home })
homed uptime q k = record { generation = k.generation; pending = k.pending; windows = k.windows; alarm = k.alarm; buffer = λ m. cc }

pub unlisted : (w n w' : TableState) (s : ℕ) (q : Process) → w ≡ n → Sound w → s < length n.slots → q ≡ get_or w.slots s q → is_ready (process_at n s).state ≡ true
    → w'.slots ≡ slice_set w.slots s (record q { state = Home }) → w'.ready ≡ slice_set w.ready q.schedule.level (without s (list_at w.ready q.schedule.level)) → w'.waits ≡ w.waits → w'.devices ≡ w.devices → w'.uptime ≡ w.uptime → Sound w'
unlisted w n w' s q v h b e y slots r u f g =
    let is = the_process w n s q v b e in
    let same : q ≡ process_at w s = is ∙ ap (λ x. process_at x s) (sym v) in
    left w w' s (record q { state = Home }) h (subst (λ (x : TableState). s < length x.slots) (sym v) b) (subst (λ x. is_ready (process_at x s).state ≡ true) (sym v) y) refl (homed w.uptime q (is_process_here w n s q v h is)) slots
    (r ∙ ap (λ (p : Process). slice_set w.ready p.schedule.level (without s (list_at w.ready p.schedule.level))) same) u f g

pub unwaiting : (w n w' : TableState) (s : ℕ) (q : Process) → w ≡ n → Sound w → s < length n.slots → q ≡ get_or w.slots s q → is_sending (process_at n s).state ≡ true
    → w'.slots ≡ slice_set w.slots s (record q { state = Home }) → w'.ready ≡ w.ready → w'.waits ≡ without_from s w.waits → w'.devices ≡ w.devices → w'.uptime ≡ w.uptime → Sound w'
unwaiting w n w' s q v h b e y slots r u f g =
    let is = the_process w n s q v b e in
    freed w w' s (record q { state = Home }) h (subst (λ (x : TableState). s < length x.slots) (sym v) b) (subst (λ x. is_sending (process_at x s).state ≡ true) (sym v) y) refl (homed w.uptime q (is_process_here w n s q v h is)) slots r u f g

pub waiting : (w n w' : TableState) (s d : ℕ) (q : Process) (st : State) → w ≡ n → Sound w → s < length n.slots → q ≡ get_or w.slots s q → d < length n.slots → s ≢ d → (Reaches n.waits d s → ⊥)
    → IsAlone (process_at n s).state → is_ready st ≡ false → is_sending st ≡ true → HasBuffer (process_at n s)
    → w'.slots ≡ slice_set w.slots s (record q { state = st }) → w'.ready ≡ w.ready → w'.waits ≡ w.waits ++ (s, d) ∷ [] → w'.devices ≡ w.devices → w'.uptime ≡ w.uptime → Sound w'
waiting w n w' s d q st v h b e i apart free o still sends room slots r u g same =
    let is = the_process w n s q v b e in
    let k = is_process_here w n s q v h is in
    waits_for w w' s d (record q { state = st }) h (subst (λ (x : TableState). s < length x.slots) (sym v) b) (subst (λ (x : TableState). d < length x.slots) (sym v) i) apart (λ m. free (subst (λ (x : TableState). Reaches x.waits d s) v m))
    (subst (λ x. IsAlone (process_at x s).state) (sym v) o) still sends (record {
      generation = k.generation;
      pending = k.pending;
      windows = k.windows;
      alarm = k.alarm;
      buffer = λ m. subst (λ p. HasBuffer p) (sym is) room;
    }) slots r u g same

-- a change of a process that is in no queue, and stays in none
pub alone_changed : (w n : TableState) (s : ℕ) (q p : Process) → w ≡ n → Sound w → s < length n.slots → q ≡ get_or w.slots s q → IsAlone (process_at n s).state → IsAlone p.state → (IsProcess n.uptime q → IsProcess n.uptime p) → Sound (with_process w s p)
alone_changed w n s q p v h b e o still f =
    let is = the_process w n s q v b e in
    renamed w n s p v (alone n s p (subst Sound v h) b o still (f (is_process w n s q v h is)))

pub out_alone : (st : State) → is_out st ≡ true → IsAlone st
out_alone Out h = (refl, refl)
out_alone Doomed h = (refl, refl)
out_alone Home h = cc
out_alone Ready h = cc
out_alone Sending h = cc
out_alone Calling h = cc
out_alone (Receiving x) h = cc
out_alone (Awaiting x) h = cc
out_alone (Down x) h = cc

pub down_alone : (st : State) → is_down st ≡ true → IsAlone st
down_alone (Down x) h = (refl, refl)
down_alone Out h = cc
down_alone Doomed h = cc
down_alone Home h = cc
down_alone Ready h = cc
down_alone Sending h = cc
down_alone Calling h = cc
down_alone (Receiving x) h = cc
down_alone (Awaiting x) h = cc

pub down_idle : (st : State) → is_down st ≡ true → is_blocked st ≡ true → false ≡ true
down_idle (Down x) h b = b
down_idle Out h b = b
down_idle Doomed h b = b
down_idle Home h b = b
down_idle Ready h b = b
down_idle Sending h b = h
down_idle Calling h b = h
down_idle (Receiving x) h b = h
down_idle (Awaiting x) h b = h

-- a change of a process that keeps its state
pub kept_states : (w w' : TableState) (d : ℕ) (p : Process) → d < length w.slots → w'.slots ≡ slice_set w.slots d p → p.state ≡ (process_at w d).state → (s : ℕ) → (process_at w' s).state ≡ (process_at w s).state
kept_states w w' d p b e k s = elim (cases_eq s d) [
  | inl m ↦ subst (λ x. (process_at w' x).state ≡ (process_at w x).state) (sym m) (ap (λ (p : Process). p.state) (process-same w w' d p b e) ∙ k)
  | inr n ↦ ap (λ (p : Process). p.state) (process-other w w' d s p n e)
]

pub kept_at : (w n : TableState) (d : ℕ) (q p : Process) → w ≡ n → d < length n.slots → q ≡ get_or w.slots d q → p.state ≡ q.state → (s : ℕ) → (process_at (with_process w d p) s).state ≡ (process_at n s).state
kept_at w n d q p v b e st s =
    kept_states w (with_process w d p) d p (subst (λ (x : TableState). d < length x.slots) (sym v) b) refl (st ∙ ap (λ (x : Process). x.state) (the_process w n d q v b e ∙ ap (λ x. process_at x d) (sym v))) s
    ∙ ap (λ x. (process_at x s).state) v

pub ready_home : (st : State) → is_ready st ≡ true → is_out st ≡ false
ready_home Ready h = refl
ready_home Out h = cc
ready_home Doomed h = cc
ready_home Home h = refl
ready_home Sending h = refl
ready_home Calling h = refl
ready_home (Receiving x) h = refl
ready_home (Awaiting x) h = refl
ready_home (Down x) h = refl

pub sending_home : (st : State) → is_sending st ≡ true → is_out st ≡ false
sending_home Ready h = refl
sending_home Out h = cc
sending_home Doomed h = cc
sending_home Home h = refl
sending_home Sending h = refl
sending_home Calling h = refl
sending_home (Receiving x) h = refl
sending_home (Awaiting x) h = refl
sending_home (Down x) h = refl

pub home_of : (w n : TableState) (s : ℕ) (q : Process) → w ≡ n → s < length n.slots → q ≡ get_or w.slots s q → is_out (process_at n s).state ≡ false → is_out q.state ≡ false
home_of w n s q v b e h = ap (λ (p : Process). is_out p.state) (the_process w n s q v b e) ∙ h
