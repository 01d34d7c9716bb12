use Rattle.std.proofs.Common.{suc, replicate, lit<, ◌≡◌, ◌≢◌, ℕ, ◌+◌, ◌^◌, ◌<◌, ◌≤◌, ◌==◌, inl, inr, Bool, true, false, cond, List, [], ◌∷◌, ◌++◌, length, get_or, slice_set, refl, sym, ap, ◌∙◌, arith, subst, length-set, get_or-set_same, get_or-set_other, Option, Some, None, IfSome, length-append}
use Rattle.std.proofs.lemmas.Bool.{cases_Bool, cases_eq, cases_lt}
use Rattle.std.proofs.Math.ListN.{get_or-eq_default, get_or-append}
use Rattle.std.proofs.Math.Seq.{get_or-append_seam}
use Rattle.mx_proc.specs.declared.process.Process.{Process}
use Rattle.mx_proc.specs.declared.process.State.{State}
use Rattle.mx_proc.specs.declared.process.State.TheVariants.{Home, Ready, Out, Doomed, Sending, Calling, Receiving, Awaiting, Down}
use Rattle.mx_proc.specs.declared.devices.Devices.{Devices}
use Rattle.mx_proc.specs.Queues.{tally, times, without, list_at, first_ready, InNoList}
use Rattle.mx_proc.specs.States.{is_ready, is_sending, is_blocked, IsAlone}
use Rattle.mx_proc.specs.Devices.{no_devices}
use Rattle.mx_proc.specs.Waits.{sends_of, without_from, IsPair, Reaches, one_pair, and_then, Acyclic}
use Rattle.mx_exec.specs.declared.image.Image.{Image}
use Rattle.mx_proc.specs.declared.process.Terms.{Terms}
use Rattle.mx_proc.specs.TableState.{TableState, nobody, process_at, with_process, new_process}
use Rattle.mx_proc.specs.Sound.{Stands, Sound, IsProcess, belongs}
use Rattle.mx_proc.proofs.ListLemmas.{all_same, tally-same, tally-other, times-push, times-without_same, times-without_other, list_at-cases}
use Rattle.mx_proc.proofs.WaitLemmas.{acyclic_push, acyclic_without, pair_push, pair_without, sends-push, sends-without_same, sends-without_other}

pub process-same : (w w' : TableState) (s : ℕ) (p : Process) → s < length w.slots → w'.slots ≡ slice_set w.slots s p → process_at w' s ≡ p
process-same w w' s p b e = ap (λ x. get_or x s nobody) e ∙ get_or-set_same w.slots s p nobody b

pub process-other : (w w' : TableState) (s t : ℕ) (p : Process) → t ≢ s → w'.slots ≡ slice_set w.slots s p → process_at w' t ≡ process_at w t
process-other w w' s t p n e = ap (λ x. get_or x t nobody) e ∙ get_or-set_other w.slots s t p nobody n

-- What a change of one process asks for.
pub record Change (w w' : TableState) (s : ℕ) (p : Process) : Type 0 where
  pub same : process_at w' s ≡ p
  pub rest : (t : ℕ) → t ≢ s → process_at w' t ≡ process_at w t
  pub grows : length w.slots ≤ length w'.slots
  pub few : length w'.slots ≤ 32
  pub process : IsProcess w.uptime p
  pub lists : length w'.ready ≡ 16
  pub idle : list_at w'.ready 15 ≡ []
  pub listed : (l : ℕ) → times s (list_at w'.ready l) ≡ belongs p l
  pub others : (t l : ℕ) → t ≢ s → times t (list_at w'.ready l) ≡ times t (list_at w.ready l)
  pub waiting : sends_of s w'.waits ≡ tally (is_sending p.state)
  pub waits : (t : ℕ) → t ≢ s → sends_of t w'.waits ≡ sends_of t w.waits
  pub named : (p q : ℕ) → IsPair w'.waits p q → q < length w.slots
  pub acyclic : Acyclic w'.waits
  pub devices : w'.devices ≡ w.devices
  pub uptime : w'.uptime ≡ w.uptime

owned-more : (o : Option ℕ) (n m : ℕ) → n ≤ m → IfSome o (λ s. s < n) → IfSome o (λ s. s < m)
owned-more None n m b h = _
owned-more (Some s) n m b h = omega (arith, h)

-- one process is changed, and all is sound
pub changed : (w w' : TableState) (s : ℕ) (p : Process) → Sound w → Change w w' s p → Sound w'
changed w w' s p h c = record {
  few = c.few;
  lists = c.lists;
  idle = c.idle;
  acyclic = c.acyclic;
  named = λ p q k. omega (arith, c.named p q k, c.grows);
  lines = ap (λ (d : Devices). length d.owners) c.devices ∙ h.lines;
  owned = λ l. owned-more (get_or w'.devices.owners l None) (length w.slots) (length w'.slots) c.grows (subst (λ (d : Devices). IfSome (get_or d.owners l None) (λ s. s < length w.slots)) (sym c.devices) (h.owned l));
  each = λ t. elim (cases_eq t s) [
    | inl e ↦ subst (λ x. Stands (process_at w' x) w'.ready w'.waits w'.uptime x) (sym e) (subst (λ q. Stands q w'.ready w'.waits w'.uptime s) (sym c.same)
        (record { listed = c.listed; waiting = c.waiting; process = subst (λ u. IsProcess u p) (sym c.uptime) c.process }))
    | inr n ↦ let k = h.each t in subst (λ q. Stands q w'.ready w'.waits w'.uptime t) (sym (c.rest t n))
        (record { listed = λ l. c.others t l n ∙ k.listed l; waiting = c.waits t n ∙ k.waiting; process = subst (λ u. IsProcess u (process_at w t)) (sym c.uptime) k.process })
  ];
}

-- a change of a process that stays where it is
pub stays : (w : TableState) (s : ℕ) (p : Process) → Sound w → s < length w.slots → p.state ≡ (process_at w s).state → p.schedule.level ≡ (process_at w s).schedule.level → IsProcess w.uptime p → Sound (with_process w s p)
stays w s p h b st lv k = changed w (with_process w s p) s p h (record {
  same = process-same w (with_process w s p) s p b refl;
  rest = λ t n. process-other w (with_process w s p) s t p n refl;
  grows = omega (arith, length-set w.slots s p);
  few = omega (arith, length-set w.slots s p, h.few);
  process = k;
  lists = h.lists;
  idle = h.idle;
  listed = λ l. (h.each s).listed l ∙ ap (λ st. cond (is_ready st) (tally ((process_at w s).schedule.level == l)) 0) (sym st) ∙ ap (λ v. cond (is_ready p.state) (tally (v == l)) 0) (sym lv);
  others = λ t l n. refl;
  waiting = (h.each s).waiting ∙ ap (λ st. tally (is_sending st)) (sym st);
  waits = λ t n. refl;
  named = h.named;
  acyclic = h.acyclic;
  devices = refl;
  uptime = refl;
})

-- a process that isn't ready is in no list
pub alone_listed : (w : TableState) (s : ℕ) → Sound w → is_ready (process_at w s).state ≡ false → InNoList w.ready s
alone_listed w s h r l = (h.each s).listed l ∙ ap (λ b. cond b (tally ((process_at w s).schedule.level == l)) 0) r

pub alone_waiting : (w : TableState) (s : ℕ) → Sound w → is_sending (process_at w s).state ≡ false → sends_of s w.waits ≡ 0
alone_waiting w s h q = (h.each s).waiting ∙ ap tally q

-- a change of a process that is in no queue, and stays in none
pub alone : (w : TableState) (s : ℕ) (p : Process) → Sound w → s < length w.slots → IsAlone (process_at w s).state → IsAlone p.state → IsProcess w.uptime p → Sound (with_process w s p)
alone w s p h b o n k = changed w (with_process w s p) s p h (record {
  same = process-same w (with_process w s p) s p b refl;
  rest = λ t n. process-other w (with_process w s p) s t p n refl;
  grows = omega (arith, length-set w.slots s p);
  few = omega (arith, length-set w.slots s p, h.few);
  process = k;
  lists = h.lists;
  idle = h.idle;
  listed = λ l. alone_listed w s h o.0 l ∙ ap (λ b. cond b (tally (p.schedule.level == l)) 0) (sym n.0);
  others = λ t l n. refl;
  waiting = alone_waiting w s h o.1 ∙ ap tally (sym n.1);
  waits = λ t n. refl;
  named = h.named;
  acyclic = h.acyclic;
  devices = refl;
  uptime = refl;
})

-- a process, also one that is new, is put into the list of a level
placed_at : (w w' : TableState) (s level : ℕ) (list : List ℕ) (p : Process) → Sound w → process_at w' s ≡ p → ((t : ℕ) → t ≢ s → process_at w' t ≡ process_at w t) → length w.slots ≤ length w'.slots → length w'.slots ≤ 32 → IsAlone (process_at w s).state → level ≤ 14 → p.schedule.level ≡ level → p.state ≡ Ready → IsProcess w.uptime p
    → w'.ready ≡ slice_set w.ready level list → w'.waits ≡ w.waits → w'.devices ≡ w.devices → w'.uptime ≡ w.uptime → ((t : ℕ) → times t list ≡ tally (s == t) + times t (list_at w.ready level)) → Sound w'
placed_at w w' s level list p h same rest grows few o low at st k r v d u counts = changed w w' s p h (record {
  same = same;
  rest = rest;
  grows = grows;
  few = few;
  process = k;
  lists = ap length r ∙ length-set w.ready level list ∙ h.lists;
  idle = elim (list_at-cases w.ready level 15 list (omega (arith, h.lists))) [
    | inl x ↦ absurd (omega (arith, x.0))
    | inr x ↦ ap (λ y. list_at y 15) r ∙ x.1 ∙ h.idle
  ];
  listed = λ l. elim (list_at-cases w.ready level l list (omega (arith, h.lists))) [
    | inl x ↦ ap (λ y. times s (list_at y l)) r ∙ ap (times s) x.1 ∙ counts s ∙ omega (arith, tally-same s s refl, alone_listed w s h o.0 level, ap (λ st. is_ready st) st, here l x.0)
    | inr x ↦ ap (λ y. times s (list_at y l)) r ∙ ap (times s) x.1 ∙ alone_listed w s h o.0 l ∙ sym (there l x.0)
  ];
  others = λ t l n. elim (list_at-cases w.ready level l list (omega (arith, h.lists))) [
    | inl x ↦ ap (λ y. times t (list_at y l)) r ∙ ap (times t) x.1 ∙ counts t ∙ omega (arith, tally-other s t (λ m. n (sym m)), ap (λ i. times t (list_at w.ready i)) x.0)
    | inr x ↦ ap (λ y. times t (list_at y l)) r ∙ ap (times t) x.1
  ];
  waiting = ap (sends_of s) v ∙ alone_waiting w s h o.1 ∙ ap (λ st. tally (is_sending st)) (sym st);
  waits = λ t n. ap (sends_of t) v;
  named = λ p q m. h.named p q (subst (λ x. IsPair x p q) v m);
  acyclic = subst Acyclic (sym v) h.acyclic;
  devices = d;
  uptime = u;
})
  where
    here : (l : ℕ) → l ≡ level → belongs p l ≡ 1
    here l x = ap (λ st. cond (is_ready st) (tally (p.schedule.level == l)) 0) st ∙ tally-same p.schedule.level l (at ∙ sym x)

    there : (l : ℕ) → l ≢ level → belongs p l ≡ 0
    there l x = ap (λ st. cond (is_ready st) (tally (p.schedule.level == l)) 0) st ∙ tally-other p.schedule.level l (λ e. x (sym e ∙ at))

-- a process that is in no queue is put into the list of a level
pub placed : (w w' : TableState) (s level : ℕ) (list : List ℕ) (p : Process) → Sound w → s < length w.slots → IsAlone (process_at w s).state → level ≤ 14 → p.schedule.level ≡ level → p.state ≡ Ready → IsProcess w.uptime p
    → w'.slots ≡ slice_set w.slots s p → w'.ready ≡ slice_set w.ready level list → w'.waits ≡ w.waits → w'.devices ≡ w.devices → w'.uptime ≡ w.uptime → ((t : ℕ) → times t list ≡ tally (s == t) + times t (list_at w.ready level)) → Sound w'
placed w w' s level list p h b o low at st k e r v d u counts =
    placed_at w w' s level list p h (process-same w w' s p b e) (λ t n. process-other w w' s t p n e) (omega (arith, ap length e, length-set w.slots s p)) (omega (arith, ap length e, length-set w.slots s p, h.few)) o low at st k r v d u counts

nobody_alone : (w : TableState) (s : ℕ) → length w.slots ≤ s → IsAlone (process_at w s).state
nobody_alone w s b = subst (λ (p : Process). IsAlone p.state) (sym (get_or-eq_default w.slots nobody b)) (refl, refl)

-- one slot more, in the list of a level
pub grown : (w w' : TableState) (level : ℕ) (p : Process) → Sound w → length w.slots < 32 → level ≤ 14 → p.schedule.level ≡ level → p.state ≡ Ready → IsProcess w.uptime p
    → w'.slots ≡ w.slots ++ p ∷ [] → w'.ready ≡ slice_set w.ready level (list_at w.ready level ++ length w.slots ∷ []) → w'.waits ≡ w.waits → w'.devices ≡ w.devices → w'.uptime ≡ w.uptime → Sound w'
grown w w' level p h b low at st k e r v d u =
    let s = length w.slots in
    let more : length w'.slots ≡ s + 1 = ap length e ∙ length-append w.slots (p ∷ []) in
    placed_at w w' s level (list_at w.ready level ++ s ∷ []) p h (ap (λ x. get_or x s nobody) e ∙ get_or-append_seam w.slots p [] nobody) rest (omega arith) (omega arith)
    (nobody_alone w s (omega arith)) low at st k r v d u (λ t. times-push t s (list_at w.ready level))
  where
    rest : (t : ℕ) → t ≢ length w.slots → process_at w' t ≡ process_at w t
    rest t n = elim (cases_lt t (length w.slots)) [
      | inl lt ↦ ap (λ x. get_or x t nobody) e ∙ get_or-append w.slots (p ∷ []) nobody t lt
      | inr ge ↦ get_or-eq_default w'.slots nobody (omega (arith, ap length e, length-append w.slots (p ∷ []))) ∙ sym (get_or-eq_default w.slots nobody ge)
    ]

-- a new slot is in no list yet
pub nobody_listed : (w : TableState) → Sound w → InNoList w.ready (length w.slots)
nobody_listed w h = alone_listed w (length w.slots) h (nobody_alone w (length w.slots) (omega arith)).0

-- a ready process leaves its list
pub left : (w w' : TableState) (s : ℕ) (p : Process) → Sound w → s < length w.slots → is_ready (process_at w s).state ≡ true → p.state ≡ Home → IsProcess w.uptime p
    → w'.slots ≡ slice_set w.slots s p → w'.ready ≡ slice_set w.ready (process_at w s).schedule.level (without s (list_at w.ready (process_at w s).schedule.level)) → w'.waits ≡ w.waits → w'.devices ≡ w.devices → w'.uptime ≡ w.uptime → Sound w'
left w w' s p h b y st k e r v d u =
    let level = (process_at w s).schedule.level in
    let list = without s (list_at w.ready level) in
    let low : level ≤ 14 = (process_at w s).schedule.lowest in changed w w' s p h (record {
      same = process-same w w' s p b e;
      rest = λ t n. process-other w w' s t p n e;
      grows = omega (arith, ap length e, length-set w.slots s p);
      few = omega (arith, ap length e, length-set w.slots s p, h.few);
      process = k;
      lists = ap length r ∙ length-set w.ready level list ∙ h.lists;
      idle = elim (list_at-cases w.ready level 15 list (omega (arith, h.lists))) [
        | inl x ↦ absurd (omega (arith, x.0))
        | inr x ↦ ap (λ y. list_at y 15) r ∙ x.1 ∙ h.idle
      ];
      listed = λ l. elim (list_at-cases w.ready level l list (omega (arith, h.lists))) [
        | inl x ↦ ap (λ y. times s (list_at y l)) r ∙ ap (times s) x.1 ∙ times-without_same s (list_at w.ready level) ∙ sym (nowhere l)
        | inr x ↦ ap (λ y. times s (list_at y l)) r ∙ ap (times s) x.1 ∙ (h.each s).listed l ∙ ap (λ b. cond b (tally (level == l)) 0) y ∙ tally-other level l (λ e. x.0 (sym e)) ∙ sym (nowhere l)
      ];
      others = λ t l n. elim (list_at-cases w.ready level l list (omega (arith, h.lists))) [
        | inl x ↦ ap (λ y. times t (list_at y l)) r ∙ ap (times t) x.1 ∙ times-without_other s t (list_at w.ready level) n ∙ ap (λ i. times t (list_at w.ready i)) (sym x.0)
        | inr x ↦ ap (λ y. times t (list_at y l)) r ∙ ap (times t) x.1
      ];
      waiting = ap (sends_of s) v ∙ alone_waiting w s h (ready_quiet (process_at w s).state y) ∙ ap (λ st. tally (is_sending st)) (sym st);
      waits = λ t n. ap (sends_of t) v;
      named = λ p q m. h.named p q (subst (λ x. IsPair x p q) v m);
      acyclic = subst Acyclic (sym v) h.acyclic;
      devices = d;
      uptime = u;
    })
  where
    nowhere : (l : ℕ) → belongs p l ≡ 0
    nowhere l = ap (λ st. cond (is_ready st) (tally (p.schedule.level == l)) 0) st

    ready_quiet : (st : State) → is_ready st ≡ true → is_sending st ≡ false
    ready_quiet Ready h = refl
    ready_quiet Home h = cc
    ready_quiet Out h = cc
    ready_quiet Doomed h = cc
    ready_quiet Sending h = cc
    ready_quiet Calling h = cc
    ready_quiet (Receiving x) h = cc
    ready_quiet (Awaiting x) h = cc
    ready_quiet (Down x) h = cc

pub sending_blocked : (st : State) → is_sending st ≡ true → is_blocked st ≡ true
sending_blocked Sending h = refl
sending_blocked Calling h = refl
sending_blocked Home h = cc
sending_blocked Ready h = cc
sending_blocked Out h = cc
sending_blocked Doomed h = cc
sending_blocked (Receiving x) h = cc
sending_blocked (Awaiting x) h = cc
sending_blocked (Down x) h = cc

pub sending_ready : (st : State) → is_sending st ≡ true → is_ready st ≡ false
sending_ready Sending h = refl
sending_ready Calling h = refl
sending_ready Home h = cc
sending_ready Ready h = cc
sending_ready Out h = cc
sending_ready Doomed h = cc
sending_ready (Receiving x) h = cc
sending_ready (Awaiting x) h = cc
sending_ready (Down x) h = cc

-- a sender leaves the blocked sends
pub freed : (w w' : TableState) (s : ℕ) (p : Process) → Sound w → s < length w.slots → is_sending (process_at w s).state ≡ true → p.state ≡ Home → IsProcess w.uptime p
    → w'.slots ≡ slice_set w.slots s p → w'.ready ≡ w.ready → w'.waits ≡ without_from s w.waits → w'.devices ≡ w.devices → w'.uptime ≡ w.uptime → Sound w'
freed w w' s p h b y st k e r v d u = changed w w' s p h (record {
  same = process-same w w' s p b e;
  rest = λ t n. process-other w w' s t p n e;
  grows = omega (arith, ap length e, length-set w.slots s p);
  few = omega (arith, ap length e, length-set w.slots s p, h.few);
  process = k;
  lists = ap length r ∙ h.lists;
  idle = ap (λ x. list_at x 15) r ∙ h.idle;
  listed = λ l. ap (λ x. times s (list_at x l)) r ∙ alone_listed w s h (sending_ready (process_at w s).state y) l ∙ ap (λ st. cond (is_ready st) (tally (p.schedule.level == l)) 0) (sym st);
  others = λ t l n. ap (λ x. times t (list_at x l)) r;
  waiting = ap (sends_of s) v ∙ sends-without_same s w.waits ∙ ap (λ st. tally (is_sending st)) (sym st);
  waits = λ t n. ap (sends_of t) v ∙ sends-without_other s t w.waits n;
  named = λ p q m. h.named p q (pair_without w.waits s p q (subst (λ x. IsPair x p q) v m));
  acyclic = subst Acyclic (sym v) (acyclic_without w.waits s h.acyclic);
  devices = d;
  uptime = u;
})

-- a process that is in no queue waits after another
pub waits_for : (w w' : TableState) (s d : ℕ) (p : Process) → Sound w → s < length w.slots → d < length w.slots → s ≢ d → (Reaches w.waits d s → ⊥) → IsAlone (process_at w s).state → is_ready p.state ≡ false → is_sending p.state ≡ true → IsProcess w.uptime p
    → w'.slots ≡ slice_set w.slots s p → w'.ready ≡ w.ready → w'.waits ≡ w.waits ++ (s, d) ∷ [] → w'.devices ≡ w.devices → w'.uptime ≡ w.uptime → Sound w'
waits_for w w' s d p h b i apart free o still sends k e r v f g = changed w w' s p h (record {
  same = process-same w w' s p b e;
  rest = λ t n. process-other w w' s t p n e;
  grows = omega (arith, ap length e, length-set w.slots s p);
  few = omega (arith, ap length e, length-set w.slots s p, h.few);
  process = k;
  lists = ap length r ∙ h.lists;
  idle = ap (λ x. list_at x 15) r ∙ h.idle;
  listed = λ l. ap (λ x. times s (list_at x l)) r ∙ alone_listed w s h o.0 l ∙ ap (λ b. cond b (tally (p.schedule.level == l)) 0) (sym still);
  others = λ t l n. ap (λ x. times t (list_at x l)) r;
  waiting = ap (sends_of s) v ∙ sends-push s s d w.waits ∙ omega (arith, tally-same s s refl, alone_waiting w s h o.1, ap tally sends);
  waits = λ t n. ap (sends_of t) v ∙ sends-push t s d w.waits ∙ omega (arith, tally-other s t (λ e. n (sym e)));
  named = λ p q m. elim (pair_push w.waits s d p q (subst (λ x. IsPair x p q) v m)) [ inl x ↦ h.named p q x | inr x ↦ subst (λ y. y < length w.slots) x.1 i ];
  acyclic = subst Acyclic (sym v) (acyclic_push w.waits s d h.acyclic (λ u. elim u [ inl e ↦ apart (sym e) | inr x ↦ free x ]));
  devices = f;
  uptime = g;
})

tally-le : (b : Bool) → tally b ≤ 1
tally-le true = omega arith
tally-le false = omega arith

-- no slot is twice among the blocked sends
pub sends_once : (w : TableState) → Sound w → (t : ℕ) → sends_of t w.waits ≤ 1
sends_once w h t = omega (arith, (h.each t).waiting, tally-le (is_sending (process_at w t).state))

tally_true : (b : Bool) → 1 ≤ tally b → b ≡ true
tally_true true h = refl
tally_true false h = absurd (omega arith)

-- who is among the blocked sends is sending, and used
pub sender_known : (w : TableState) (p : ℕ) → Sound w → 1 ≤ sends_of p w.waits → (p < length w.slots) × (is_sending (process_at w p).state ≡ true)
sender_known w p h m =
    let sending : is_sending (process_at w p).state ≡ true = tally_true (is_sending (process_at w p).state) (omega (arith, (h.each p).waiting)) in (
      elim (cases_lt p (length w.slots)) [
        | inl lt ↦ lt
        | inr ge ↦ let e : process_at w p ≡ nobody = get_or-eq_default w.slots nobody ge in let f : false ≡ true = ap (λ q. is_sending q.state) (sym e) ∙ sending in cc
      ],
      sending,
    )

-- who is picked is in a list
picked_listed : (lists : List (List ℕ)) (s : ℕ) → first_ready lists ≡ Some s → (level : ℕ) × (1 ≤ times s (list_at lists level))
picked_listed [] s e = cc
picked_listed ([] ∷ lists) s e = let k = picked_listed lists s e in (suc k.0, k.1)
picked_listed ((x ∷ xs) ∷ lists) s e = let is : x ≡ s = cc in (0, omega (arith, tally-same x s is))

-- so it is ready, and used
pub picked_ready : (w : TableState) (s : ℕ) → Sound w → first_ready w.ready ≡ Some s → (s < length w.slots) × (is_ready (process_at w s).state ≡ true)
picked_ready w s h e =
    let k : (level : ℕ) × (1 ≤ times s (list_at w.ready level)) = picked_listed w.ready s e in
    let ready : is_ready (process_at w s).state ≡ true = elim (cases_Bool (is_ready (process_at w s).state)) [
      | inl y ↦ y
      | inr n ↦ absurd (omega (arith, k.1, alone_listed w s h n k.0))
    ] in (
      elim (cases_lt s (length w.slots)) [
        | inl lt ↦ lt
        | inr ge ↦ let f : false ≡ true = ap (λ (p : Process). is_ready p.state) (sym (get_or-eq_default w.slots nobody ge)) ∙ ready in cc
      ],
      ready,
    )

-- ---- new processes

-- a process that begins, whatever of the slot's was replaced
pub begun : (uptime generation used : ℕ) (image : Image) (terms : Terms) → generation < 2 ^ 20 → IsProcess uptime (record (new_process image terms) { generation = generation; restarts_used = used })
begun uptime generation used image terms h = record { generation = h; pending = refl; windows = refl; alarm = _; buffer = λ m. cc }

-- ---- a table without processes

no_chain : (p q : ℕ) → Reaches [] p q → ⊥
no_chain _ _ (one_pair p q h) = h
no_chain _ _ (and_then p q r h g) = h

nobody_is : (uptime : ℕ) → IsProcess uptime nobody
nobody_is uptime = record { generation = lit< tt; pending = refl; windows = refl; alarm = _; buffer = λ m. cc }

pub founded : (w : TableState) → w.slots ≡ [] → w.ready ≡ replicate 16 [] → w.waits ≡ [] → w.devices ≡ no_devices → Sound w
founded w a b d e =
    let absent : (s : ℕ) → process_at w s ≡ nobody = λ s. get_or-eq_default w.slots nobody (omega (arith, ap length a)) in
    record {
      few = omega (arith, ap length a);
      lists = ap length b;
      idle = ap (λ l. list_at l 15) b ∙ all_same (List ℕ) 16 15 [];
      each = λ s. record {
        listed = λ l. ap (λ x. times s (list_at x l)) b ∙ ap (times s) (all_same (List ℕ) 16 l []) ∙ sym (ap (λ (p : Process). belongs p l) (absent s));
        waiting = ap (sends_of s) d ∙ sym (ap (λ (p : Process). tally (is_sending p.state)) (absent s));
        process = subst (IsProcess w.uptime) (sym (absent s)) (nobody_is w.uptime);
      };
      named = λ p q m. absurd (subst (λ x. IsPair x p q) d m);
      acyclic = subst Acyclic (sym d) (λ p. no_chain p p);
      lines = ap (λ (x : Devices). length x.owners) e;
      owned = λ l. subst (λ (o : Option ℕ). IfSome o (λ s. s < length w.slots)) (sym (ap (λ (x : Devices). get_or x.owners l None) e ∙ all_same (Option ℕ) 16 l None)) _;
    }
