-- What a kernel keeps in mind, before and after.
use Rattle.std.proofs.Common.{◌≡◌, ◌∙◌, ℕ, zero, suc, ◌+◌, ◌-◌, ◌*◌, ◌<◌, ◌≤◌, ◌^◌, List, [], ◌∷◌, length, drop, Option, Some, None, Bool, true, false, ◌&&◌, ◌||◌, not, get_or, slice_set, slice_get, replicate, get_or-set_same, inl, inr, refl, ap, sym, subst, arith}
use Rattle.std.proofs.lemmas.Bool.{cases_lt}
use Rattle.std.proofs.lemmas.List.{length-append, length-replicate}
use Rattle.std.proofs.Math.ListN.{get_or-eq_default}
use Rattle.mx_aout.specs.declared.program.Program.{Program}
use Rattle.mx_aout.specs.Limits.{rounded_to_pages, used_of}
use Rattle.mx_exec.specs.declared.image.Code.{Code}
use Rattle.mx_exec.specs.Lasting.{lasting}
use Rattle.mx_machine.specs.Load.{IsLoadedFrom, filled_to, contents_of, code_of_text, image_of_program}
use Rattle.mx_ipc.specs.Proc.declared.process.Process.{Process}
use Rattle.mx_ipc.specs.Proc.declared.process.State.{State}
use Rattle.mx_ipc.specs.Proc.declared.process.State.TheVariants.{Home, Ready, Out, Doomed, Sending, Calling, Receiving, Awaiting, Down}
use Rattle.mx_ipc.specs.Proc.Frame.{Frame, frame, frame_with_process, loan_of}
use Rattle.mx_ipc.specs.Proc.Sound.{Sound, NoneComesHome}
use Rattle.mx_ipc.specs.Proc.States.{is_ready, is_out, is_down}
use Rattle.mx_ipc.specs.Proc.TableState.{TableState, nobody, process_at}
use Rattle.mx_machine.specs.Service.{Service}
use Rattle.mx_machine.specs.Respawn.{is_worn, next_process, table_after_respawn}
use Rattle.mx_machine.specs.declared.events.Answer.{Answer}
use Rattle.mx_machine.specs.declared.events.Answer.TheVariants.{Respawned}
use Rattle.mx_machine.specs.declared.events.Event.TheVariants as events
use Rattle.mx_machine.specs.declared.holding.Lease.{Lease}
use Rattle.mx_machine.specs.declared.holding.Out.{Out as Held}
use Rattle.mx_machine.specs.Rest.{down_are_worn}
use Rattle.mx_machine.specs.Sound.{IsConsistent, lease_at}
use Rattle.mx_machine.specs.Serving.{IsReturned, IsSent, Settled, WritesAtMostOne}
use Rattle.mx_machine.specs.KernelState.{KernelState, records_left, state_with_record, MayRespawn, HasAccepted, table_after_respawn_by, table_after}
use Rattle.mx_machine.proofs.FrameLemmas.{keeps_frame, keeps_but_devices, keeps_but_uptime, keeps_others, same_uptime, same_written, uptime_is, uptime_written}
use Rattle.mx_machine.proofs.HoldsLemmas.{holds_on, holds_at, holds_taken, holds_returned}

-- what holds of a situation
abbrev pub HoldsOf : KernelState → Type 0
HoldsOf d = IsConsistent d.table d.leases d.services d.records d.capacity

-- ---- loans

state_loan : (st : State) (n : ℕ) → is_ready st ≡ true → is_out st ≡ false
state_loan Ready n h = refl
state_loan Home n h = cc
state_loan Out n h = cc
state_loan Doomed n h = cc
state_loan Sending n h = cc
state_loan Calling n h = cc
state_loan (Receiving x) n h = cc
state_loan (Awaiting x) n h = cc
state_loan (Down x) n h = cc

down_out : (st : State) → is_down st ≡ true → is_out st ≡ false
down_out (Down x) h = refl
down_out Home h = cc
down_out Ready h = cc
down_out Out h = cc
down_out Doomed h = cc
down_out Sending h = cc
down_out Calling h = cc
down_out (Receiving x) h = cc
down_out (Awaiting x) h = cc

no_loan : (p : Process) → is_out p.state ≡ false → loan_of p ≡ None
no_loan p h = rw h refl

pub ready_loan : (p : Process) → is_ready p.state ≡ true → loan_of p ≡ None
ready_loan p h = no_loan p (state_loan p.state p.schedule.ticks h)

pub down_loan : (p : Process) → is_down p.state ≡ true → loan_of p ≡ None
down_loan p h = no_loan p (down_out p.state h)

pub loan_means : (p : Process) (n : ℕ) → loan_of p ≡ Some n → (is_out p.state ≡ true) × (p.schedule.ticks ≡ n)
loan_means p n h = go (is_out p.state) refl
  where
    go : (b : Bool) → is_out p.state ≡ b → (is_out p.state ≡ true) × (p.schedule.ticks ≡ n)
    go true e = (e, let z : Some p.schedule.ticks ≡ Some n = sym (let f : loan_of p ≡ Some p.schedule.ticks = rw e refl in f) ∙ h in cc)
    go false e = let z : None ≡ Some n = sym (no_loan p e) ∙ h in cc

loan_used : (t : TableState) (s n : ℕ) → loan_of (process_at t s) ≡ Some n → s < length t.slots
loan_used t s n h = elim (cases_lt s (length t.slots)) [
  | inl lt ↦ lt
  | inr ge ↦ let z : process_at t s ≡ nobody = get_or-eq_default t.slots nobody ge in let y : None ≡ Some n = sym (ap loan_of z) ∙ h in cc
]

-- What is known of a process that a processor holds.
pub record IsLeased (t : TableState) (x : Lease) : Type 0 where
  pub used : x.slot < length t.slots
  pub out : is_out (process_at t x.slot).state ≡ true
  pub ticks : (process_at t x.slot).schedule.ticks ≡ x.budget
  pub few : x.budget ≤ 65535
  pub steps : (process_at t x.slot).steps ≤ 65535 * 2 ^ 20
  pub console : t.devices.console.count ≤ 2 ^ 20

pub leased_known : (d n : KernelState) (a : ℕ) (x : Lease) → d ≡ n → HoldsOf d → Sound d.table → lease_at n.leases a ≡ Some x → IsLeased d.table x
leased_known d n a x v h s e =
    let l = h.leased a x (ap (λ (d : KernelState). lease_at d.leases a) v ∙ e) in
    let m = loan_means (process_at d.table x.slot) x.budget l in
    record {
      used = loan_used d.table x.slot x.budget l;
      out = m.0;
      ticks = m.1;
      few = omega (arith, m.1, (process_at d.table x.slot).schedule.ticks_fit, (process_at d.table x.slot).schedule.terms.quantum_fits);
      steps = omega (arith, h.steps x.slot, h.room, h.size);
      console = omega (arith, h.console, h.room, h.size);
    }

-- ---- after an event

pub taken_holds : (d n : KernelState) (u : TableState) (a s budget : ℕ) → d ≡ n → HoldsOf d → a < length n.leases → lease_at n.leases a ≡ None → is_ready (process_at n.table s).state ≡ true → 2 ≤ records_left n
    → IsSent d.table u s → budget ≡ (process_at d.table s).schedule.ticks → IsConsistent u (slice_set d.leases a (Some (record { slot = s; budget = budget }))) d.services (d.records + 1) d.capacity
taken_holds d n u a s budget v h below idle ready room sent ticks =
    holds_taken d.table u d.leases d.services d.records d.capacity a s budget h
    (subst (λ (d : KernelState). a < length d.leases) (sym v) below)
    (ap (λ (d : KernelState). lease_at d.leases a) v ∙ idle)
    sent.others
    (ready_loan (process_at d.table s) (ap (λ (d : KernelState). is_ready (process_at d.table s).state) v ∙ ready))
    (sent.loan ∙ ap (λ k. let o : Option ℕ = Some k in o) (sym ticks))
    sent.steps (sent.settled h.settled) sent.uptime sent.devices
    (subst (λ (d : KernelState). 2 ≤ records_left d) (sym v) room)

pub returned_holds : (d n : KernelState) (u : TableState) (a : ℕ) (x : Lease) (o : Held) → d ≡ n → HoldsOf d → lease_at n.leases a ≡ Some x → ((v : Service) → slice_get n.services x.slot ≡ Some v → IsLoadedFrom o.image v.program)
    → IsReturned d.table u x.slot o → o.count ≤ 65535 → IsConsistent u (slice_set d.leases a None) d.services (d.records + 1) d.capacity
returned_holds d n u a x o v h at image_of_program r few =
    holds_returned d.table u d.leases d.services d.records d.capacity a x h (ap (λ (d : KernelState). lease_at d.leases a) v ∙ at)
    r.others r.loan (omega (arith, r.steps, few)) (λ s e. r.lasting ∙ image_of_program s (ap (λ (d : KernelState). slice_get d.services x.slot) (sym v) ∙ e))
    (r.settled h.settled) r.uptime r.console

pub ticked_holds : (d n : KernelState) (u : TableState) → d ≡ n → HoldsOf d → frame u ≡ (let f : Frame = record (frame d.table) { uptime = d.table.uptime + 1 } in f) → NoneComesHome d.table u → 1 ≤ records_left n → IsConsistent u d.leases d.services (d.records + 1) d.capacity
ticked_holds d n u v h f s room =
    let up : u.uptime ≡ d.table.uptime + 1 = uptime_is d.table u (d.table.uptime + 1) f in
    holds_on d.table u d.leases d.services d.records d.capacity h (keeps_but_uptime d.table u (d.table.uptime + 1) f) (λ q. s q (h.settled q)) (omega (arith, up)) (uptime_written d.table u (d.table.uptime + 1) f)
    (subst (λ (d : KernelState). 1 ≤ records_left d) (sym v) room)

pub raised_holds : (d n : KernelState) (u : TableState) → d ≡ n → HoldsOf d → frame u ≡ frame d.table → NoneComesHome d.table u → 1 ≤ records_left n → IsConsistent u d.leases d.services (d.records + 1) d.capacity
raised_holds d n u v h f s room =
    let up : u.uptime ≡ d.table.uptime = same_uptime d.table u (frame d.table) f refl in
    holds_on d.table u d.leases d.services d.records d.capacity h (keeps_frame d.table u f) (λ q. s q (h.settled q)) (omega (arith, up)) (same_written d.table u f)
    (subst (λ (d : KernelState). 1 ≤ records_left d) (sym v) room)

pub killed_holds : (d n : KernelState) (u : TableState) → d ≡ n → HoldsOf d → frame u ≡ (let f : Frame = record (frame d.table) { devices = u.devices } in f) → WritesAtMostOne d.table u → (Settled d.table → Settled u) → 1 ≤ records_left n → IsConsistent u d.leases d.services (d.records + 1) d.capacity
killed_holds d n u v h f w s room =
    let up : u.uptime ≡ d.table.uptime = same_uptime d.table u (record (frame d.table) { devices = u.devices }) f refl in
    holds_on d.table u d.leases d.services d.records d.capacity h (keeps_but_devices d.table u u.devices f) (s h.settled) (omega (arith, up)) w
    (subst (λ (d : KernelState). 1 ≤ records_left d) (sym v) room)

-- ---- a respawn

filled : (limit : ℕ) (bytes : List ℕ) → length bytes ≤ limit → length (filled_to limit bytes) ≡ limit
filled limit bytes h = omega (arith, h, length-append bytes (replicate (limit - length bytes) 0), length-replicate {A = ℕ} (limit - length bytes) 0)

contents : (sep : Bool) (text init : List ℕ) (bss limit : ℕ) → used_of sep (length text) (length init) bss ≤ limit → length (contents_of sep text init) ≤ limit
contents true text init bss limit h = omega (arith, h)
contents false text init bss limit h = omega (arith, h, length-append text init)

-- the image of a program was loaded from it
loaded_from : (p : Program) → IsLoadedFrom (image_of_program p) p
loaded_from p = ap (λ n. let x : Code × ℕ = (code_of_text p.sep p.text, n) in x)
    (filled (rounded_to_pages p.total) (contents_of p.sep p.text p.init) (contents p.sep p.text p.init p.bss (rounded_to_pages p.total) p.within.4))

next-at : (t : TableState) (s : ℕ) (v : Service) → s < length t.slots → process_at (table_after_respawn t s v) s ≡ next_process (process_at t s) v
unfolding table_after_respawn
next-at t s v b = get_or-set_same t.slots s (next_process (process_at t s) v) nobody b

respawned-devices : (t : TableState) (s : ℕ) (v : Service) → ((table_after_respawn t s v).devices ≡ t.devices) × ((table_after_respawn t s v).uptime ≡ t.uptime)
unfolding table_after_respawn
respawned-devices t s v = (refl, refl)

pub respawned_holds : (d n : KernelState) (u : TableState) (s : ℕ) (v : Service) → d ≡ n → HoldsOf d → slice_get d.services s ≡ Some v → s < length d.table.slots → is_down (process_at d.table s).state ≡ true
    → u ≡ table_after_respawn d.table s v → frame u ≡ frame_with_process (frame d.table) s (next_process (process_at d.table s) v) → NoneComesHome d.table u → 1 ≤ records_left n → IsConsistent u d.leases d.services (d.records + 1) d.capacity
respawned_holds d n u s v e h at b down is f settled room =
    let p : process_at u s ≡ next_process (process_at d.table s) v = ap (λ u. process_at u s) is ∙ next-at d.table s v b in
    let same = respawned-devices d.table s v in
    holds_at d.table u d.leases d.services d.records d.capacity s h (keeps_others d.table u s (next_process (process_at d.table s) v) f) (down_loan (process_at d.table s) down) (ap loan_of p)
    (ap (λ (p : Process). p.steps) p)
    (λ w g. let z : Some v ≡ Some w = sym at ∙ g in let y : v ≡ w = cc in subst (λ (w : Service). IsLoadedFrom (process_at u s).image w.program) y (ap (λ (p : Process). lasting p.image) p ∙ loaded_from v.program))
    (λ q. settled q (h.settled q)) (ap (λ (u : TableState). u.uptime) is ∙ same.1) (ap (λ (u : TableState). u.devices) is ∙ same.0)
    (subst (λ (d : KernelState). 1 ≤ records_left d) (sym e) room)

-- ---- slots that are down and worn, one after another

worn-step : (ps : List Process) (vs : List Service) (i : ℕ) (v : Service) → v ≡ get_or vs i v → i < length ps → i < length vs
    → down_are_worn (drop i ps) (drop i vs) ≡ ((not (is_down (get_or ps i nobody).state) || is_worn (get_or ps i nobody) v) && down_are_worn (drop (suc i) ps) (drop (suc i) vs))
worn-step [] vs i v e b c = absurd (omega (arith, b))
worn-step (p ∷ ps) [] i v e b c = absurd (omega (arith, c))
worn-step (p ∷ ps) (w ∷ vs) zero v e b c = ap (λ x. (not (is_down p.state) || is_worn p x) && down_are_worn ps vs) (sym e)
worn-step (p ∷ ps) (w ∷ vs) (suc i) v e b c = worn-step ps vs i v e (omega (arith, b)) (omega (arith, c))

up-step : (ps : List Process) (vs : List Service) (i : ℕ) → i < length ps → i < length vs → is_down (get_or ps i nobody).state ≡ false → down_are_worn (drop i ps) (drop i vs) ≡ down_are_worn (drop (suc i) ps) (drop (suc i) vs)
up-step [] vs i b c down = absurd (omega (arith, b))
up-step (p ∷ ps) [] i b c down = absurd (omega (arith, c))
up-step (p ∷ ps) (w ∷ vs) zero b c down = rw down refl
up-step (p ∷ ps) (w ∷ vs) (suc i) b c down = up-step ps vs i (omega (arith, b)) (omega (arith, c)) down

-- one that is worn leaves it to the rest
pub one_worn : (t : TableState) (vs : List Service) (i : ℕ) (v : Service) → down_are_worn (drop i t.slots) (drop i vs) ≡ down_are_worn t.slots vs → v ≡ get_or vs i v → i < length t.slots → i < length vs
    → (not (is_down (process_at t i).state) || is_worn (process_at t i) v) ≡ true → down_are_worn (drop (i + 1) t.slots) (drop (i + 1) vs) ≡ down_are_worn t.slots vs
one_worn t vs i v h e b c worn =
    let n : i + 1 ≡ suc i = omega arith in
    ap (λ k. down_are_worn (drop k t.slots) (drop k vs)) n
    ∙ (let z : down_are_worn (drop (suc i) t.slots) (drop (suc i) vs) ≡ ((not (is_down (process_at t i).state) || is_worn (process_at t i) v) && down_are_worn (drop (suc i) t.slots) (drop (suc i) vs)) = rw worn refl in z)
    ∙ sym (worn-step t.slots vs i v e b c) ∙ h

-- a process that isn't down neither
pub one_not_down : (t : TableState) (vs : List Service) (i : ℕ) → down_are_worn (drop i t.slots) (drop i vs) ≡ down_are_worn t.slots vs → i < length t.slots → i < length vs → is_down (process_at t i).state ≡ false
    → down_are_worn (drop (i + 1) t.slots) (drop (i + 1) vs) ≡ down_are_worn t.slots vs
one_not_down t vs i h b c down =
    let n : i + 1 ≡ suc i = omega arith in
    ap (λ k. down_are_worn (drop k t.slots) (drop k vs)) n ∙ sym (up-step t.slots vs i b c down) ∙ h

pub or_true : (b c : Bool) → c ≡ true → (b || c) ≡ true
or_true true c e = refl
or_true false c e = e

-- ---- the service of a slot

some-same : {X : Type 0} (x y : X) → x ≡ y → Some x ≡ Some y
some-same {X} x y e = ap (λ z. let o : Option X = Some z in o) e

pub get-at : {X : Type 0} (xs : List X) (i : ℕ) (x : X) → x ≡ get_or xs i x → i < length xs → slice_get xs i ≡ Some x
get-at [] i x e b = absurd (omega (arith, b))
get-at (y ∷ ys) zero x e b = some-same y x (sym e)
get-at (y ∷ ys) (suc i) x e b = get-at ys i x e (omega (arith, b))

pub respawn_acted : (d n : KernelState) (u : TableState) (s e : ℕ) (v : Service) → d ≡ n → MayRespawn n s e → slice_get d.services s ≡ Some v → u ≡ table_after_respawn d.table s v → HasAccepted n (state_with_record d u) (events.Respawn s) (Respawned e)
respawn_acted d n u s e v same m at is = record {
  accepted = m.accepted;
  answer = ap (λ x. let y : Answer = Respawned x in y) m.endpoint;
  after = ap (state_with_record d) (is ∙ ap (table_after_respawn_by d.table s) (sym at)) ∙ ap (λ d. state_with_record d (table_after d (events.Respawn s))) same;
  number = omega (arith, m.small);
}
