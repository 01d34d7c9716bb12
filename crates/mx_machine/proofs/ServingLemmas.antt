-- What events do to one slot, and to the others.
use Rattle.std.proofs.Common.{◌≡◌, ◌≢◌, ◌∙◌, ℕ, ◌+◌, ◌-◌, ◌<◌, ◌≤◌, length, Some, get_or-set_same, get_or-set_other, length-set, inl, inr, refl, ap, sym, subst, arith}
use Rattle.std.proofs.lemmas.Bool.{cases_eq}
use Rattle.mx_exec.specs.Image.{blank}
use Rattle.mx_exec.specs.Lasting.{lasting}
use Rattle.mx_ipc.specs.Proc.declared.devices.Devices.{Devices}
use Rattle.mx_ipc.specs.Proc.declared.process.Process.{Process}
use Rattle.mx_ipc.specs.Proc.declared.process.DeathCause.{DeathCause}
use Rattle.mx_ipc.specs.Proc.declared.process.State.{State}
use Rattle.mx_ipc.specs.Proc.declared.process.State.TheVariants.{Home, Out, Doomed, Down}
use Rattle.mx_ipc.specs.Proc.Frame.{Frame, FixedOfProcess, fixed_of, loan_of, frame}
use Rattle.mx_ipc.specs.Proc.Sound.{NoneComesHome}
use Rattle.mx_ipc.specs.Proc.TableState.{TableState, nobody, process_at, with_process, with_state, stepped, table_after_dequeue, table_after_move_home, table_after_steps}
use Rattle.mx_machine.specs.Move.{table_after_sending_out, table_after_coming_home}
use Rattle.mx_machine.specs.World.{HeldProcess}
use Rattle.mx_machine.specs.declared.holding.Out.{Out as Held}
use Rattle.mx_machine.specs.Serving.{KeepsBut, Settled, SettledBut, WritesAtMostOne, IsSent, IsReturned}
use Rattle.mx_machine.proofs.FrameLemmas.{Keeps, keeps_but_devices, then_but, but_all, same_uptime}

-- a process is put into a slot
put-at : (w : TableState) (s : ℕ) (p : Process) → s < length w.slots → process_at (with_process w s p) s ≡ p
put-at w s p b = get_or-set_same w.slots s p nobody b

put-other : (w : TableState) (s q : ℕ) (p : Process) → q ≢ s → process_at (with_process w s p) q ≡ process_at w q
put-other w s q p n = get_or-set_other w.slots s q p nobody n

put-used : (w : TableState) (s : ℕ) (p : Process) → length (with_process w s p).slots ≡ length w.slots
put-used w s p = length-set w.slots s p

-- ---- a process leaves

sent-at : (t : TableState) (s : ℕ) → s < length t.slots → process_at (table_after_sending_out t s) s ≡ (let p : Process = record (process_at t s) { state = Out; image = blank } in p)
unfolding table_after_sending_out
sent-at t s b =
    let home : Process = record (process_at t s) { state = Home } in
    let b' : s < length (table_after_dequeue t s).slots = omega (arith, b, put-used t s home) in
    put-at (table_after_dequeue t s) s (record (process_at (table_after_dequeue t s) s) { state = Out; image = blank }) b'
    ∙ ap (λ (p : Process). let q : Process = record p { state = Out; image = blank } in q) (put-at t s home b)

sent-other : (t : TableState) (s q : ℕ) → q ≢ s → process_at (table_after_sending_out t s) q ≡ process_at t q
unfolding table_after_sending_out
sent-other t s q n = put-other (table_after_dequeue t s) s q (record (process_at (table_after_dequeue t s) s) { state = Out; image = blank }) n ∙ put-other t s q (record (process_at t s) { state = Home }) n

sent-used : (t : TableState) (s : ℕ) → length (table_after_sending_out t s).slots ≡ length t.slots
unfolding table_after_sending_out
sent-used t s = put-used (table_after_dequeue t s) s (record (process_at (table_after_dequeue t s) s) { state = Out; image = blank }) ∙ put-used t s (record (process_at t s) { state = Home })

sent_keeps : (t u : TableState) (s : ℕ) → u ≡ table_after_sending_out t s → KeepsBut s t u
sent_keeps t u s e = subst (KeepsBut s t) (sym e) (record {
  fixed = λ q n. ap fixed_of (sent-other t s q n);
  loans = λ q n. ap loan_of (sent-other t s q n);
  used = sent-used t s;
})

sent_loan : (t u : TableState) (s : ℕ) → u ≡ table_after_sending_out t s → s < length t.slots → loan_of (process_at u s) ≡ Some (process_at t s).schedule.ticks
sent_loan t u s e b = ap (λ u. loan_of (process_at u s)) e ∙ ap loan_of (sent-at t s b)

sent_steps : (t u : TableState) (s : ℕ) → u ≡ table_after_sending_out t s → s < length t.slots → (process_at u s).steps ≡ (process_at t s).steps
sent_steps t u s e b = ap (λ u. (process_at u s).steps) e ∙ ap (λ (p : Process). p.steps) (sent-at t s b)

sent_settled : (t u : TableState) (s : ℕ) → u ≡ table_after_sending_out t s → s < length t.slots → Settled t → Settled u
sent_settled t u s e b h = subst Settled (sym e) (λ q. elim (cases_eq q s) [
  | inl i ↦ λ z. let x : Out ≡ Home = sym (ap (λ (p : Process). p.state) (sent-at t s b)) ∙ ap (λ y. (process_at (table_after_sending_out t s) y).state) (sym i) ∙ z in cc
  | inr n ↦ λ z. h q (sym (ap (λ (p : Process). p.state) (sent-other t s q n)) ∙ z)
])

sent_uptime : (t u : TableState) (s : ℕ) → u ≡ table_after_sending_out t s → u.uptime ≡ t.uptime
unfolding table_after_sending_out
sent_uptime t u s e = ap (λ (u : TableState). u.uptime) e

sent_devices : (t u : TableState) (s : ℕ) → u ≡ table_after_sending_out t s → u.devices ≡ t.devices
unfolding table_after_sending_out
sent_devices t u s e = ap (λ (u : TableState). u.devices) e

pub is_sent : (t u : TableState) (s : ℕ) → u ≡ table_after_sending_out t s → s < length t.slots → IsSent t u s
is_sent t u s e b = record {
  others = sent_keeps t u s e;
  loan = sent_loan t u s e b;
  steps = sent_steps t u s e b;
  settled = sent_settled t u s e b;
  uptime = sent_uptime t u s e;
  devices = sent_devices t u s e;
}

-- ---- a process comes home

-- as it is then
abbrev homed : Process → Held → Process
homed p o = stepped o.count (record p { state = Home; image = o.image })

home-at : (t : TableState) (l : HeldProcess) → l.slot < length t.slots → process_at (table_after_coming_home t l) l.slot ≡ homed (process_at t l.slot) l.out
unfolding table_after_coming_home
home-at t l b =
    let first : Process = record (process_at t l.slot) { state = Home; image = l.out.image } in
    let m = table_after_move_home t l.slot l.out.image in
    let b' : l.slot < length m.slots = omega (arith, b, put-used t l.slot first) in
    put-at m l.slot (stepped l.out.count (process_at m l.slot)) b'
    ∙ ap (stepped l.out.count) (put-at t l.slot first b)

home-other : (t : TableState) (l : HeldProcess) (q : ℕ) → q ≢ l.slot → process_at (table_after_coming_home t l) q ≡ process_at t q
unfolding table_after_coming_home
home-other t l q n =
    let m = table_after_move_home t l.slot l.out.image in
    put-other m l.slot q (stepped l.out.count (process_at m l.slot)) n
    ∙ put-other t l.slot q (record (process_at t l.slot) { state = Home; image = l.out.image }) n

home-used : (t : TableState) (l : HeldProcess) → length (table_after_coming_home t l).slots ≡ length t.slots
unfolding table_after_coming_home
home-used t l =
    let m = table_after_move_home t l.slot l.out.image in
    put-used m l.slot (stepped l.out.count (process_at m l.slot))
    ∙ put-used t l.slot (record (process_at t l.slot) { state = Home; image = l.out.image })

home-keeps : (t : TableState) (l : HeldProcess) → KeepsBut l.slot t (table_after_coming_home t l)
home-keeps t l = record {
  fixed = λ q n. ap fixed_of (home-other t l q n);
  loans = λ q n. ap loan_of (home-other t l q n);
  used = home-used t l;
}

home-same : (t : TableState) (l : HeldProcess) → ((table_after_coming_home t l).uptime ≡ t.uptime) × ((table_after_coming_home t l).devices ≡ t.devices)
unfolding table_after_coming_home
home-same t l = (refl, refl)

-- home, and then on
pub is_returned : (t m u : TableState) (l : HeldProcess) → l.slot < length t.slots → m ≡ table_after_coming_home t l → frame u ≡ (let f : Frame = record (frame m) { devices = u.devices } in f) → WritesAtMostOne m u → (SettledBut l.slot m → Settled u) → IsReturned t u l.slot l.out
is_returned t m u l b e f w s =
    let k : Keeps m u = keeps_but_devices m u u.devices f in
    let at : process_at m l.slot ≡ homed (process_at t l.slot) l.out = ap (λ m. process_at m l.slot) e ∙ home-at t l b in
    let same = home-same t l in
    record {
      others = then_but l.slot t m u (subst (KeepsBut l.slot t) (sym e) (home-keeps t l)) (but_all l.slot m u k);
      loan = k.loans l.slot ∙ ap loan_of at;
      steps = ap (λ (f : FixedOfProcess). f.steps) (k.fixed l.slot) ∙ ap (λ (p : Process). p.steps) at;
      lasting = ap (λ (f : FixedOfProcess). f.lasting) (k.fixed l.slot) ∙ ap (λ (p : Process). lasting p.image) at;
      settled = λ h. s (λ q n z. h q (sym (ap (λ (p : Process). p.state) (home-other t l q n)) ∙ ap (λ m. (process_at m q).state) (sym e) ∙ z));
      uptime = same_uptime m u (record (frame m) { devices = u.devices }) f refl ∙ ap (λ (m : TableState). m.uptime) e ∙ same.0;
      console = let z : m.devices ≡ t.devices = ap (λ (m : TableState). m.devices) e ∙ same.1 in subst (λ (d : Devices). u.devices.console.count ≤ d.console.count + 1) z w;
    }

-- who is home goes on
pub goes_on_settled : (t u : TableState) (s : ℕ) → NoneComesHome t u → (process_at u s).state ≢ Home → SettledBut s t → Settled u
goes_on_settled t u s h own others q = elim (cases_eq q s) [
  | inl i ↦ subst (λ x. (process_at u x).state ≢ Home) (sym i) own
  | inr n ↦ h q (others q n)
]

pub is_down_not_home : (st : State) (cause : DeathCause) → st ≡ Down cause → st ≢ Home
is_down_not_home st cause e h = let z : Down cause ≡ Home = sym e ∙ h in cc

-- home, and its steps counted
pub home_as : (t m u : TableState) (s : ℕ) (o : Held) → m ≡ table_after_move_home t s o.image → u ≡ table_after_steps m s o.count → u ≡ table_after_coming_home t (record { slot = s; out = o })
unfolding table_after_coming_home
home_as t m u s o e f = f ∙ ap (λ m. table_after_steps m s o.count) e
