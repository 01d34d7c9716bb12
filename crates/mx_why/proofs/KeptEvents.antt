-- Slots that are shut stay so over any events by which nobody is killed.
use Rattle.std.proofs.Common.{◌≡◌, ◌∙◌, ℕ, zero, suc, ◌+◌, ◌-◌, ◌%◌, ◌==◌, ◌<◌, Bool, true, false, cond, not, List, [], ◌∷◌, length, Option, Some, None, refl, sym, ap, ap₂, subst, get_or, slice_get, map, arith}
use Rattle.std.proofs.lemmas.Bool.{and_parts, both_ways, cond-false, eqb-true, false≢true, ltb-true, not-false, not-true}
use Rattle.mx_image.specs.declared.runs.Stop.{Stop}
use Rattle.mx_image.specs.declared.runs.Stop.TheVariants.{Spent, Trap, Fault}
use Rattle.mx_word.specs.Bits.{has_bit}
use Rattle.mx_proc.specs.declared.errors.Errno.{Errno}
use Rattle.mx_proc.specs.declared.errors.Errno.TheVariants.{Denied}
use Rattle.mx_proc.specs.declared.process.DeathCause.TheVariants as cause
use Rattle.mx_proc.specs.declared.process.Partner.TheVariants as partner
use Rattle.mx_proc.specs.declared.process.Process.{Process}
use Rattle.mx_proc.specs.declared.process.Source.TheVariants as source
use Rattle.mx_proc.specs.declared.windows.Rules.{Rules}
use Rattle.mx_proc.specs.declared.process.State.{State}
use Rattle.mx_proc.specs.declared.process.State.TheVariants.{Home, Ready, Out, Doomed, Sending, Calling, Receiving, Awaiting, Down}
use Rattle.mx_proc.specs.EndpointNumbers.{slot_of}
use Rattle.mx_proc.specs.Endpoints.{is_alive}
use Rattle.mx_proc.specs.Queues.{first_ready}
use Rattle.mx_proc.specs.Serving.{with_alarm, with_line, with_tick}
use Rattle.mx_proc.specs.States.{is_down, is_out}
use Rattle.mx_proc.specs.TableState.{TableState, nobody, process_at, table_after_dequeue, table_after_move_home, with_state}
use Rattle.mx_proc.proofs.SoundLemmas.{picked_ready}
use Rattle.mx_kcall.specs.Calls.{hears, trap_answer}
use Rattle.mx_kcall.specs.Clock.{due_slots, is_due, table_after_line, table_after_ring, table_after_rings, table_after_tick}
use Rattle.mx_kcall.specs.Death.{table_after_death}
use Rattle.mx_kcall.specs.Effects.{Effect, table_after_effect}
use Rattle.mx_kcall.specs.Effects.Effect.{Nothing, WritesConsole, SetsRegister, Kills}
use Rattle.mx_kcall.specs.Known.{known}
use Rattle.mx_kcall.specs.Refusals.{kernel_call_reasons, kernel_call_refusal, kernel_call_refusal_by, owner_of}
use Rattle.mx_kcall.specs.Requests.{kernel_call_under, message_words_at}
use Rattle.mx_kcall.specs.Respawn.{is_worn, next_process, table_after_respawn}
use Rattle.mx_kcall.specs.Rows.{first_call}
use Rattle.mx_kcall.specs.Service.{Service}
use Rattle.mx_kcall.specs.Serving.{effect_of, ends_caller, table_after_change, table_after_kernel_call, table_after_kernel_call_by, table_after_reply, table_after_serving, words_of_reply}
use Rattle.mx_kcall.specs.TrapAnswer.{TrapAnswer}
use Rattle.mx_kcall.specs.TrapAnswer.TheVariants as trap_ends
use Rattle.mx_kcall.specs.declared.request.KernelCall.{KernelCall}
use Rattle.mx_kcall.specs.declared.request.KernelCall.TheVariants as request
use Rattle.mx_machine.specs.declared.events.Event.{Event}
use Rattle.mx_machine.specs.declared.events.Event.TheVariants as event
use Rattle.mx_machine.specs.declared.events.Refusal.{Refusal}
use Rattle.mx_machine.specs.declared.events.Refusal.TheVariants.{NotDown, Worn}
use Rattle.mx_machine.specs.Agrees.{IsBoot}
use Rattle.mx_machine.specs.Boot.{first_process, first_table, world_at_boot_with}
use Rattle.mx_machine.specs.Machine.{AreSound}
use Rattle.mx_machine.specs.Move.{event_refusal, if_full, is_doomed, kill_refusal, move, move_by, moves, respawn_refusal, table_after_back, table_after_coming_home, table_after_end_of_turn, table_after_kill, table_after_sending_out, table_after_trap_at_back, world_after_back, world_after_event, world_after_line, world_after_respawn, world_after_step, world_after_take}
use Rattle.mx_machine.specs.Sound.{IsSound, lease_at, lease_of}
use Rattle.mx_machine.specs.World.{World, HeldProcess, free_records, held_by}
use Rattle.mx_why.specs.Never.{AreNoKills, is_killed}
use Rattle.mx_why.proofs.Kept.{Keeps, keeps_all, keeps_either, keeps_line, keeps_no_alarm, keeps_other, keeps_queueing, keeps_rest, keeps_state, keeps_then, keeps_dequeue}
use Rattle.mx_why.proofs.KeptCalls.{AllOut, death_down, IsShut, keeps_death, keeps_kernel_call, keeps_notifying, keeps_reply, keeps_trap, none_fails, none_shut, NoSlot, Shut, shut_on, shut_stays, Spares}

-- ---- who is killed by a kernel call

some_none : {X : Type 0} {x : X} → Some x ≡ None → ⊥
some_none e = cc

none_some : {X : Type 0} {x : X} → None ≡ Some x → ⊥
none_some e = cc

some_is : {X : Type 0} {x y : X} → Some x ≡ Some y → x ≡ y
some_is e = cc

-- whom an effect kills
is_kill : Effect → Option ℕ
is_kill (Kills d) = Some d
is_kill _ = None

device_kills_none : (a b : Bool) (byte register value : ℕ) → is_kill (cond a Nothing (cond b (WritesConsole byte) (SetsRegister register value))) ≡ None
unfolding is_kill
device_kills_none true b byte register value = refl
device_kills_none false true byte register value = refl
device_kills_none false false byte register value = refl

-- it lives
killed_lives : (t : TableState) (s d bit : ℕ) (r : KernelCall) → kernel_call_refusal_by t s bit (Some r) ≡ None → effect_of (known t s) s r ≡ Kills d → (d < length t.slots) × (is_down (process_at t d).state ≡ false)
unfolding is_kill
killed_lives t s d bit request.Exit h e = absurd (none_some (ap is_kill e))
killed_lives t s d bit request.Times h e = absurd (none_some (ap is_kill e))
killed_lives t s d bit (request.SetAlarm delay) h e = absurd (none_some (ap is_kill e))
killed_lives t s d bit (request.Irqctl action line) h e = absurd (none_some (ap is_kill e))
killed_lives t s d bit (request.Devio action register value) h e = absurd (none_some (sym (device_kills_none (action == 0) (register == 0) (value % 256) register value) ∙ ap is_kill e))
killed_lives t s d bit (request.Vircopy copy) h e = absurd (none_some (ap is_kill e))
killed_lives t s d bit (request.Kill endpoint) h e =
    let fails = none_fails ((not (has_bit (process_at t s).schedule.terms.masks.calls bit), Denied) ∷ kernel_call_reasons t s (request.Kill endpoint)) h in
    let alive : is_alive t endpoint ≡ true = not-false (is_alive t endpoint) fails.1.1.0 in
    let parts = and_parts _ _ alive in
    let same : slot_of endpoint ≡ d = some_is (ap is_kill e) in
    let lies : slot_of endpoint < length t.slots = ltb-true _ _ (and_parts _ _ parts.0).1 in
    let up : is_down (process_at t (slot_of endpoint)).state ≡ false = not-true _ (and_parts _ _ parts.1).0 in
    (subst (λ i. i < length t.slots) same lies, subst (λ i. is_down (process_at t i).state ≡ false) same up)
killed_lives t s d bit (request.Whois slot) h e = absurd (none_some (ap is_kill e))
killed_lives t s d bit (request.Grant grant) h e = absurd (none_some (ap is_kill e))

-- and is down then
killed_after : (t : TableState) (s d : ℕ) (r : KernelCall) → kernel_call_under t.rules (message_words_at t s) ≡ Some r → kernel_call_refusal t s ≡ None → ends_caller s r ≡ false → effect_of (known t s) s r ≡ Kills d
    → d < length t.slots → (d ≡ s → ⊥) → (process_at (table_after_kernel_call t s) d).state ≡ Down cause.Kill
unfolding table_after_kernel_call table_after_serving
killed_after t s d r called passed other kills lies apart =
    let v = table_after_change t s r in
    let dead : v ≡ table_after_death t d cause.Kill = ap (table_after_effect t s) kills in
    let kept = keeps_reply (λ p. p ≡ d) v s 0 (words_of_reply t s r) (λ e. apart (sym e)) in
    ap (λ (u : TableState). (process_at u d).state) (ap₂ (λ (q : Option KernelCall) (e : Option Errno). table_after_kernel_call_by t s q e) called passed)
    ∙ ap (λ (u : TableState). (process_at u d).state) (cond-false (ends_caller s r) (table_after_death t s cause.Exit) (table_after_reply v s 0 (words_of_reply t s r)) other)
    ∙ ap (λ (y : State × ℕ × ℕ). y.0) (kept.inside d refl)
    ∙ ap (λ (u : TableState). (process_at u d).state) dead
    ∙ death_down t d cause.Kill lies

killed_shut : (C : ℕ → Type 0) (vs : List Service) (t : TableState) (p : ℕ) (st : State) → IsShut C vs t p st → is_killed st ≡ true → is_down st ≡ true
killed_shut C vs t p Home h e = absurd h
killed_shut C vs t p Ready h e = absurd h
killed_shut C vs t p Out h e = absurd h
killed_shut C vs t p Doomed h e = absurd h
killed_shut C vs t p Sending h e = absurd (false≢true e)
killed_shut C vs t p Calling h e = absurd (false≢true e)
killed_shut C vs t p (Receiving x) h e = absurd (false≢true e)
killed_shut C vs t p (Awaiting q) h e = absurd (false≢true e)
killed_shut C vs t p (Down c) h e = refl

-- from one table to another nobody of C is killed
abbrev pub KillsNone : (ℕ → Type 0) → TableState → TableState → Type 0
KillsNone C t u = (d : ℕ) → C d → is_killed (process_at u d).state ≡ true → is_killed (process_at t d).state ≡ true

spares_all : (C : ℕ → Type 0) (vs : List Service) (t : TableState) (s : ℕ) → Shut C vs t → (C s → ⊥) → KillsNone C t (table_after_kernel_call t s)
    → (r : KernelCall) → kernel_call_under t.rules (message_words_at t s) ≡ Some r → kernel_call_refusal t s ≡ None → ends_caller s r ≡ false → Spares C (effect_of (known t s) s r)
unfolding kernel_call_refusal
spares_all C vs t s h n spared r called passed other d kills c =
    let m = message_words_at t s in
    let by = subst (λ (q : Option KernelCall). kernel_call_refusal_by t s (m.kind - first_call) q ≡ None) called passed in
    let lives = killed_lives t s d (m.kind - first_call) r by kills in
    let after = killed_after t s d r called passed other kills lives.0 (λ e. n (subst C e c)) in
    let before = spared d c (ap is_killed after) in
    both_ways _ lives.1 (killed_shut C vs t d (process_at t d).state (h.each d c) before)

-- ---- the end of a turn

module _ (C : ℕ → Type 0) (vs : List Service) (t : TableState) (s : ℕ) (h : Shut C vs t) (n : C s → ⊥) (lies : s < length t.slots) where
  keeps_trap_at_back : (x : TrapAnswer) → KillsNone C t (table_after_trap_at_back t s x) → Keeps C t (table_after_trap_at_back t s x)
  keeps_trap_at_back trap_ends.Done spared = keeps_trap C vs t s h n lies
  keeps_trap_at_back trap_ends.Kernel spared = keeps_kernel_call C vs t s h n (spares_all C vs t s h n spared)

  keeps_end_of_turn : (doomed : Bool) (stop : Stop) → KillsNone C t (table_after_end_of_turn t s doomed stop) → Keeps C t (table_after_end_of_turn t s doomed stop)
  keeps_end_of_turn true stop spared = keeps_death C vs t s cause.Kill h n
  keeps_end_of_turn false Spent spared = keeps_queueing C t s n
  keeps_end_of_turn false Trap spared = keeps_trap_at_back (trap_answer t s) spared
  keeps_end_of_turn false (Fault v) spared = keeps_death C vs t s (cause.Fault v) h n

keeps_home : (C : ℕ → Type 0) (t : TableState) (l : HeldProcess) → (C l.slot → ⊥) → Keeps C t (table_after_coming_home t l)
unfolding table_after_coming_home
keeps_home C t l n =
    let v = table_after_move_home t l.slot l.out.image in
    keeps_then C t v _ (keeps_other C t v l.slot _ refl refl refl refl n) (keeps_other C v _ l.slot _ refl refl refl refl n)

-- what stays so far
state_on : (C : ℕ → Type 0) (t u : TableState) → Keeps C t u → (p : ℕ) → C p → (process_at u p).state ≡ (process_at t p).state
state_on C t u k p c = ap (λ (y : State × ℕ × ℕ). y.0) (k.inside p c)

keeps_back : (C : ℕ → Type 0) (vs : List Service) (t : TableState) (l : HeldProcess) → Shut C vs t → (C l.slot → ⊥) → l.slot < length t.slots → KillsNone C t (table_after_back t l) → Keeps C t (table_after_back t l)
unfolding table_after_back
keeps_back C vs t l h n lies spared =
    let home = table_after_coming_home t l in
    let first = keeps_home C t l n in
    keeps_then C t home _ first
    (keeps_end_of_turn C vs home l.slot (shut_on C vs t home h first) n (subst (λ i. l.slot < i) (sym first.long) lies) (is_doomed (process_at t l.slot).state) l.out.stop
    (λ d c e. ap is_killed (state_on C t home first d c) ∙ spared d c e))

-- ---- a kill, a respawn, a take

keeps_kill : (C : ℕ → Type 0) (vs : List Service) (t : TableState) (s : ℕ) → Shut C vs t → s < length t.slots → is_down (process_at t s).state ≡ false → KillsNone C t (table_after_kill t s) → Keeps C t (table_after_kill t s)
unfolding table_after_kill
keeps_kill C vs t s h lies up spared =
    keeps_either C t _ _ (is_out (process_at t s).state) (λ e. keeps_state C t s n Doomed) (λ e. keeps_death C vs t s cause.Kill h n)
  where
    n : C s → ⊥
    n c =
        let k = h.each s c in
        let stays = shut_stays C vs t s (process_at t s).state k in
        let after : (process_at (table_after_kill t s) s).state ≡ Down cause.Kill =
        ap (λ (u : TableState). (process_at u s).state) (cond-false (is_out (process_at t s).state) (with_state t s Doomed) (table_after_death t s cause.Kill) stays.0) ∙ death_down t s cause.Kill lies in
        both_ways _ up (killed_shut C vs t s (process_at t s).state k (spared s c (ap is_killed after)))

worn_shut : (C : ℕ → Type 0) (vs : List Service) (t : TableState) (p : ℕ) (st : State) → IsShut C vs t p st → is_down st ≡ true → (v : Service) → slice_get vs p ≡ Some v → is_worn (process_at t p) v ≡ true
worn_shut C vs t p Home h e = absurd h
worn_shut C vs t p Ready h e = absurd h
worn_shut C vs t p Out h e = absurd h
worn_shut C vs t p Doomed h e = absurd h
worn_shut C vs t p Sending h e = absurd (false≢true e)
worn_shut C vs t p Calling h e = absurd (false≢true e)
worn_shut C vs t p (Receiving x) h e = absurd (false≢true e)
worn_shut C vs t p (Awaiting q) h e = absurd (false≢true e)
worn_shut C vs t p (Down c) h e = h

keeps_respawn : (C : ℕ → Type 0) (vs : List Service) (t : TableState) (s : ℕ) (v : Service) → Shut C vs t → slice_get vs s ≡ Some v → is_worn (process_at t s) v ≡ false → is_down (process_at t s).state ≡ true
    → (process_at t s).schedule.terms ≡ v.terms → Keeps C t (table_after_respawn t s v)
unfolding table_after_respawn
keeps_respawn C vs t s v h at new down terms =
    keeps_other C t _ s (next_process (process_at t s) v) refl refl refl (sym terms) (λ c. both_ways _ new (worn_shut C vs t s (process_at t s).state (h.each s c) down v at))

keeps_sending_out : (C : ℕ → Type 0) (t : TableState) (s : ℕ) → (C s → ⊥) → Keeps C t (table_after_sending_out t s)
unfolding table_after_sending_out
keeps_sending_out C t s n =
    let v = table_after_dequeue t s in keeps_then C t v _ (keeps_dequeue C t s n) (keeps_other C v _ s _ refl refl refl refl n)

-- ---- lines and alarms

heard_line : (C : ℕ → Type 0) (vs : List Service) (t : TableState) (p l : ℕ) (st : State) → IsShut C vs t p st → hears st source.Hardware ≡ true → owner_of t l ≡ Some p → ⊥
heard_line C vs t p l Home h e o = h
heard_line C vs t p l Ready h e o = h
heard_line C vs t p l Out h e o = h
heard_line C vs t p l Doomed h e o = h
heard_line C vs t p l Sending h e o = false≢true e
heard_line C vs t p l Calling h e o = false≢true e
heard_line C vs t p l (Receiving partner.Any) h e o = h.lines l o
heard_line C vs t p l (Receiving partner.System) h e o = false≢true e
heard_line C vs t p l (Receiving (partner.Only source.Hardware)) h e o = h l o
heard_line C vs t p l (Receiving (partner.Only source.Clock)) h e o = omega (arith, eqb-true 1 0 e)
heard_line C vs t p l (Receiving (partner.Only (source.Slot q))) h e o = omega (arith, eqb-true (2 + q) 0 e)
heard_line C vs t p l (Awaiting q) h e o = false≢true e
heard_line C vs t p l (Down c) h e o = false≢true e

heard_alarm : (C : ℕ → Type 0) (vs : List Service) (t : TableState) (p : ℕ) (st : State) → IsShut C vs t p st → hears st source.Clock ≡ true → (process_at t p).alarm ≡ None
heard_alarm C vs t p Home h e = absurd h
heard_alarm C vs t p Ready h e = absurd h
heard_alarm C vs t p Out h e = absurd h
heard_alarm C vs t p Doomed h e = absurd h
heard_alarm C vs t p Sending h e = absurd (false≢true e)
heard_alarm C vs t p Calling h e = absurd (false≢true e)
heard_alarm C vs t p (Receiving partner.Any) h e = h.alarm
heard_alarm C vs t p (Receiving partner.System) h e = absurd (false≢true e)
heard_alarm C vs t p (Receiving (partner.Only source.Hardware)) h e = absurd (omega (arith, eqb-true 0 1 e))
heard_alarm C vs t p (Receiving (partner.Only source.Clock)) h e = h
heard_alarm C vs t p (Receiving (partner.Only (source.Slot q))) h e = absurd (omega (arith, eqb-true (2 + q) 1 e))
heard_alarm C vs t p (Awaiting q) h e = absurd (false≢true e)
heard_alarm C vs t p (Down c) h e = absurd (false≢true e)

keeps_raised : (C : ℕ → Type 0) (vs : List Service) (t : TableState) (l s : ℕ) → Shut C vs t → owner_of t l ≡ Some s → Keeps C t (table_after_line t l s)
keeps_raised C vs t l s h owned =
    let v = with_line t s l in
    let first = keeps_line C t s l in
    let still = shut_on C vs t v h first in
    keeps_then C t v _ first (keeps_notifying C v source.Hardware s (λ e c. heard_line C vs v s l (process_at v s).state (still.each s c) e owned))

-- those of C that hear the clock
abbrev Hear : (ℕ → Type 0) → TableState → ℕ → Type 0
Hear C t p = C p × (hears (process_at t p).state source.Clock ≡ true)

quiet_on : (C : ℕ → Type 0) (t u : TableState) (ss : List ℕ) → Keeps C t u → AllOut (Hear C t) ss → AllOut (Hear C u) ss
quiet_on C t u [] k q = tt
quiet_on C t u (s ∷ ss) k q = (λ x. q.0 (x.0, ap (λ st. hears st source.Clock) (sym (state_on C t u k s x.0)) ∙ x.1), quiet_on C t u ss k q.1)

keeps_rings : (C : ℕ → Type 0) (ss : List ℕ) (t : TableState) → AllOut (Hear C t) ss → Keeps C t (table_after_rings t ss)
keeps_rings C [] t q = keeps_all C t
keeps_rings C (s ∷ ss) t q =
    let v = with_alarm t s None in
    let first = keeps_no_alarm C t s in
    let ring = keeps_then C t v (table_after_ring t s) first (keeps_notifying C v source.Clock s (λ e c. q.0 (c, ap (λ st. hears st source.Clock) (sym (state_on C t v first s c)) ∙ e))) in
    keeps_then C t (table_after_ring t s) _ ring (keeps_rings C ss (table_after_ring t s) (quiet_on C t (table_after_ring t s) ss ring q.1))

out_due : (D : ℕ → Type 0) (u k : ℕ) (ps : List Process) → ((i : ℕ) → is_due u (get_or ps i nobody).alarm ≡ true → D (k + i) → ⊥) → AllOut D (due_slots u k ps)
out_due D u k [] h = tt
out_due D u k (p ∷ ps) h =
    by_bool (is_due u p.alarm) refl (out_due D u (k + 1) ps (λ i e c. let same : k + 1 + i ≡ k + suc i = omega arith in h (suc i) e (subst D same c)))
  where
    by_bool : (b : Bool) → is_due u p.alarm ≡ b → AllOut D (due_slots u (k + 1) ps) → AllOut D (cond b (k ∷ due_slots u (k + 1) ps) (due_slots u (k + 1) ps))
    by_bool true e r = let same : k ≡ k + zero = omega arith in (λ c. h zero e (subst D same c), r)
    by_bool false e r = r

keeps_tick : (C : ℕ → Type 0) (vs : List Service) (t : TableState) → Shut C vs t → Keeps C t (table_after_tick t)
unfolding table_after_tick
keeps_tick C vs t h =
    let later = with_tick t in
    let first = keeps_rest C t later refl refl refl in
    let still = shut_on C vs t later h first in
    keeps_then C t later _ first (keeps_rings C (due_slots later.uptime 0 later.slots) later (out_due (Hear C later) later.uptime 0 later.slots (λ i e x. quiet still i e x)))
  where
    quiet : Shut C vs (with_tick t) → (i : ℕ) → is_due (with_tick t).uptime (process_at (with_tick t) i).alarm ≡ true → Hear C (with_tick t) (0 + i) → ⊥
    quiet still i e x =
        let later = with_tick t in
        let same : 0 + i ≡ i = omega arith in
        let y = subst (Hear C later) same x in
        let none = heard_alarm C vs later i (process_at later i).state (still.each i y.0) y.1 in
        both_ways false refl (sym (ap (is_due later.uptime) none) ∙ e)

-- ---- an event

leases_at : (xs : List (Option HeldProcess)) (a : ℕ) → lease_at (map lease_of xs) a ≡ lease_of (get_or xs a None)
leases_at [] a = refl
leases_at (x ∷ xs) zero = refl
leases_at (x ∷ xs) (suc a) = leases_at xs a

pub held_out : (w : World) (a : ℕ) (l : HeldProcess) → IsSound w → held_by w a ≡ Some l → is_out (process_at w.table l.slot).state ≡ true
held_out w a l h e = by_bool (is_out (process_at w.table l.slot).state) (h.holds.leased a (record { slot = l.slot; budget = l.out.budget }) (leases_at w.cpus a ∙ ap lease_of e))
  where
    by_bool : (b : Bool) → cond b (Some (process_at w.table l.slot).schedule.ticks) None ≡ Some l.out.budget → b ≡ true
    by_bool true f = refl
    by_bool false f = absurd (none_some f)

out_within : (ps : List Process) (s : ℕ) → is_out (get_or ps s nobody).state ≡ true → s < length ps
out_within [] s e = absurd (false≢true e)
out_within (p ∷ ps) zero e = omega arith
out_within (p ∷ ps) (suc s) e = let h = out_within ps s e in omega arith

-- each process has the terms of its slot's service
abbrev pub HaveTheirTerms : World → Type 0
HaveTheirTerms w = (s : ℕ) (v : Service) → slice_get w.services s ≡ Some v → (process_at w.table s).schedule.terms ≡ v.terms

module _ (C : ℕ → Type 0) (w : World) (a : ℕ) (sound : IsSound w) (terms : HaveTheirTerms w) (h : Shut C w.services w.table) where
  step_keeps : (held : Option HeldProcess) → Keeps C w.table (world_after_step w a held).table
  step_keeps None = keeps_all C w.table
  step_keeps (Some l) = keeps_all C w.table

  take_keeps : (first : Option ℕ) → first_ready w.table.ready ≡ first → Keeps C w.table (world_after_take w a first).table
  take_keeps None e = keeps_all C w.table
  take_keeps (Some s) e =
      keeps_sending_out C w.table s (λ c. both_ways _ (shut_stays C w.services w.table s (process_at w.table s).state (h.each s c)).1 (picked_ready w.table s sound.table e).1)

  back_keeps : (held : Option HeldProcess) → held_by w a ≡ held → KillsNone C w.table (world_after_back w a held).table → Keeps C w.table (world_after_back w a held).table
  back_keeps None e spared = keeps_all C w.table
  back_keeps (Some l) e spared =
      let out = held_out w a l sound e in
      keeps_back C w.services w.table l h (λ c. both_ways _ (shut_stays C w.services w.table l.slot (process_at w.table l.slot).state (h.each l.slot c)).0 out) (out_within w.table.slots l.slot out) spared

  line_keeps : (l : ℕ) (o : Option ℕ) → owner_of w.table l ≡ o → Keeps C w.table (world_after_line w l o).table
  line_keeps l None e = keeps_all C w.table
  line_keeps l (Some s) e = keeps_raised C w.services w.table l s h e

  kill_keeps : (n e : ℕ) (alive : Bool) → is_alive w.table e ≡ alive → kill_refusal n alive ≡ None → KillsNone C w.table (table_after_kill w.table (slot_of e)) → Keeps C w.table (table_after_kill w.table (slot_of e))
  kill_keeps n e true is free spared =
      let parts = and_parts _ _ is in
      keeps_kill C w.services w.table (slot_of e) h (ltb-true _ _ (and_parts _ _ parts.0).1) (not-true _ (and_parts _ _ parts.1).0) spared
  kill_keeps n e false is free spared = absurd (some_none free)

  respawn_keeps : (n s : ℕ) (o : Option Service) → slice_get w.services s ≡ o → respawn_refusal n (process_at w.table s) o ≡ None → Keeps C w.table (world_after_respawn w s o).table
  respawn_keeps n s None e free = keeps_all C w.table
  respawn_keeps n s (Some v) e free =
      let k = by_bools (is_down (process_at w.table s).state) (is_worn (process_at w.table s) v) free in
      keeps_respawn C w.services w.table s v h e k.1 k.0 (terms s v e)
    where
      by_bools : (d b : Bool) → cond (not d) (Some NotDown) (cond b (Some Worn) (if_full n 1)) ≡ None → (d ≡ true) × (b ≡ false)
      by_bools true true f = absurd (some_none f)
      by_bools true false f = (refl, refl)
      by_bools false b f = absurd (some_none f)

  event_keeps : (e : Event) → event_refusal w a e ≡ None → KillsNone C w.table (world_after_event w a e).table → Keeps C w.table (world_after_event w a e).table
  unfolding event_refusal world_after_event
  event_keeps event.Step free spared = step_keeps (held_by w a)
  event_keeps event.Take free spared = take_keeps (first_ready w.table.ready) refl
  event_keeps event.Back free spared = back_keeps (held_by w a) refl spared
  event_keeps (event.Line l) free spared = line_keeps l (owner_of w.table l) refl
  event_keeps event.Tick free spared = keeps_tick C w.services w.table h
  event_keeps (event.Kill e) free spared = kill_keeps (free_records w) e (is_alive w.table e) refl free spared
  event_keeps (event.Respawn s) free spared = respawn_keeps (free_records w) s (slice_get w.services s) refl free

  move_keeps : (e : Event) → KillsNone C w.table (move w a e).1.table → Keeps C w.table (move w a e).1.table
  unfolding move
  move_keeps e spared = by_refusal (event_refusal w a e) refl spared
    where
      by_refusal : (r : Option Refusal) → event_refusal w a e ≡ r → KillsNone C w.table (move_by w a e r).1.table → Keeps C w.table (move_by w a e r).1.table
      by_refusal None f k = event_keeps e f k
      by_refusal (Some r) f k = keeps_all C w.table

-- ---- services stay

pub same_services : (w : World) (a : ℕ) (e : Event) → (move w a e).1.services ≡ w.services
unfolding move world_after_event
same_services w a e = by_refusal (event_refusal w a e)
  where
    by_step : (o : Option HeldProcess) → (world_after_step w a o).services ≡ w.services
    by_step None = refl
    by_step (Some l) = refl

    by_take : (o : Option ℕ) → (world_after_take w a o).services ≡ w.services
    by_take None = refl
    by_take (Some s) = refl

    by_back : (o : Option HeldProcess) → (world_after_back w a o).services ≡ w.services
    by_back None = refl
    by_back (Some l) = refl

    by_line : (l : ℕ) (o : Option ℕ) → (world_after_line w l o).services ≡ w.services
    by_line l None = refl
    by_line l (Some s) = refl

    by_respawn : (s : ℕ) (o : Option Service) → (world_after_respawn w s o).services ≡ w.services
    by_respawn s None = refl
    by_respawn s (Some v) = refl

    by_event : (e : Event) → (world_after_event w a e).services ≡ w.services
    by_event event.Step = by_step (held_by w a)
    by_event event.Take = by_take (first_ready w.table.ready)
    by_event event.Back = by_back (held_by w a)
    by_event (event.Line l) = by_line l (owner_of w.table l)
    by_event event.Tick = refl
    by_event (event.Kill k) = refl
    by_event (event.Respawn s) = by_respawn s (slice_get w.services s)

    by_refusal : (r : Option Refusal) → (move_by w a e r).1.services ≡ w.services
    by_refusal None = by_event e
    by_refusal (Some r) = refl

pub same_services_after : (xs : List (ℕ × Event)) (w : World) → (moves w xs).1.services ≡ w.services
same_services_after [] w = refl
same_services_after (x ∷ xs) w = same_services_after xs (move w x.0 x.1).1 ∙ same_services w x.0 x.1

-- ---- runs

keeps_terms : (C : ℕ → Type 0) (w u : World) → Keeps C w.table u.table → u.services ≡ w.services → HaveTheirTerms w → HaveTheirTerms u
keeps_terms C w u k same h = λ s v at. k.terms s ∙ h s v (subst (λ vs. slice_get vs s ≡ Some v) same at)

-- nobody of C is killed by any of these events
abbrev pub Spared : (ℕ → Type 0) → World → List (ℕ × Event) → Type 0
Spared C w [] = Unit {0}
Spared C w (x ∷ xs) = KillsNone C w.table (move w x.0 x.1).1.table × Spared C (move w x.0 x.1).1 xs

pub all_spared : (xs : List (ℕ × Event)) (C : ℕ → Type 0) (w : World) → AreNoKills w xs → Spared C w xs
all_spared [] C w h = tt
all_spared (x ∷ xs) C w h = (λ d c. h.0 d, all_spared xs C (move w x.0 x.1).1 h.1)

none_spared : (xs : List (ℕ × Event)) (w : World) → Spared NoSlot w xs
none_spared [] w = tt
none_spared (x ∷ xs) w = (λ d c. absurd c, none_spared xs (move w x.0 x.1).1)

-- THOSE THAT ARE SHUT are kept over any events that kill none of them
pub run_keeps : (xs : List (ℕ × Event)) (C : ℕ → Type 0) (w : World) → AreSound w xs → HaveTheirTerms w → Shut C w.services w.table → Spared C w xs → Keeps C w.table (moves w xs).1.table
run_keeps [] C w sound terms h spared = keeps_all C w.table
run_keeps (x ∷ xs) C w sound terms h spared =
    let u = (move w x.0 x.1).1 in
    let same = same_services w x.0 x.1 in
    let k = move_keeps C w x.0 sound.0 terms h x.1 spared.0 in
    let still = subst (λ vs. Shut C vs u.table) (sym same) (shut_on C w.services w.table u.table h k) in
    keeps_then C w.table u.table _ k (run_keeps xs C u sound.1 (keeps_terms C w u k same terms) still spared.1)

-- ---- terms

at_first : (vs : List Service) (s : ℕ) (v : Service) → slice_get vs s ≡ Some v → (get_or (map first_process vs) s nobody).schedule.terms ≡ v.terms
at_first [] s v e = absurd (none_some e)
at_first (u ∷ vs) zero v e = let same : Some u ≡ Some v = e in ap (λ (x : Service). x.terms) (some_is same)
at_first (u ∷ vs) (suc s) v e = at_first vs s v e

boot_terms : (rules : Rules) (vs : List Service) (cpus others capacity : ℕ) → HaveTheirTerms (world_at_boot_with rules vs cpus others capacity)
unfolding first_table
boot_terms rules vs cpus others capacity = λ s v at. at_first vs s v at

-- from a boot on each process has its service's
pub their_terms : (ys : List (ℕ × Event)) (b : World) → IsBoot b → AreSound b ys → HaveTheirTerms (moves b ys).1
their_terms ys b boot sound =
    let first = subst HaveTheirTerms (sym boot) (boot_terms b.table.rules b.services (length b.cpus) b.others b.capacity) in
    keeps_terms NoSlot b (moves b ys).1 (run_keeps ys NoSlot b sound first (none_shut b.services b.table) (none_spared ys b)) (same_services_after ys b) first
