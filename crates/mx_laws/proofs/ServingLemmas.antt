-- Kernel calls of another process leave two tables that are the same but for one image so, unless they copy from it.
use Rattle.std.proofs.Common.{◌≡◌, ◌∙◌, ℕ, zero, suc, ◌+◌, ◌-◌, ◌/◌, ◌%◌, ◌^◌, ◌≤◌, ◌==◌, ◌&&◌, nat_lt, Bool, true, false, cond, not, List, [], ◌∷◌, ◌++◌, length, take, drop, Option, Some, None, refl, sym, ap, subst, get_or, slice_set, arith, ◌⊎◌, inl, inr}
use Rattle.std.specs.Prelude.{◌≢◌, nat_le}
use Rattle.std.proofs.lemmas.List.{length-take}
use Rattle.std.proofs.lemmas.Bool.{leb-true, ne_eqb}
use Rattle.circular_buffer.specs.Buffer.{keep_last}
use Rattle.mx_mem.specs.Segment.{part}
use Rattle.mx_proc.specs.declared.process.Process.{Process}
use Rattle.mx_proc.specs.declared.process.DeathCause.TheVariants as cause
use Rattle.mx_proc.specs.declared.errors.Errno.{Errno}
use Rattle.mx_proc.specs.declared.errors.Errno.TheVariants.{Denied}
use Rattle.mx_proc.specs.declared.devices.Devices.{Devices}
use Rattle.mx_proc.specs.Errors.{errno_bits}
use Rattle.mx_proc.specs.Endpoints.{names_slot, is_alive, is_current}
use Rattle.mx_proc.specs.States.{is_down, is_out}
use Rattle.mx_proc.specs.Serving.{with_copy}
use Rattle.mx_proc.specs.TableState.{TableState, process_at, with_process, memory_at, endpoint_of, window_of}
use Rattle.mx_ipc.specs.Checks.{first_error}
use Rattle.mx_word.specs.Bits.{has_bit}
use Rattle.mx_kcall.specs.declared.request.KernelCall.{KernelCall}
use Rattle.mx_kcall.specs.declared.request.KernelCall.TheVariants.{Devio, Vircopy}
use Rattle.mx_kcall.specs.declared.request.CopyRange.{CopyRange}
use Rattle.mx_kcall.specs.declared.request.ReplyWords.{ReplyWords}
use Rattle.mx_kcall.specs.declared.request.MessageWords.{MessageWords}
use Rattle.mx_kcall.specs.Requests.{kernel_call_under, message_words_at, message_words_of, no_reply_words, reply_bytes}
use Rattle.mx_kcall.specs.Refusals.{kernel_call_reasons, kernel_call_refusal_by, kernel_call_refusal, reasons_of}
use Rattle.mx_kcall.specs.Effects.{Effect, table_after_effect}
use Rattle.mx_kcall.specs.Effects.Effect.{Nothing, SetsAlarm, SetsOwner, WritesConsole, SetsRegister, Copies, Kills, SetsWindow}
use Rattle.mx_kcall.specs.Known.{Known, is_away, known, owner_of}
use Rattle.mx_kcall.specs.Rows.{first_call}
use Rattle.mx_kcall.specs.Serving.{effect_of, reply_of, table_after_change, words_of_reply, ends_caller, table_after_reply, table_after_serving, table_after_kernel_call_by, table_after_kernel_call}
use Rattle.mx_laws.proofs.Twins.{is_slot, Twins}
use Rattle.mx_kcall.specs.Windows.{allows_reading, is_open, is_strict}
use Rattle.mx_proc.specs.declared.windows.Rules.{Rules}
use Rattle.mx_proc.specs.declared.windows.Window.{Window}
use Rattle.mx_laws.specs.Apart.{CopyIsApart, IsClosedToReading, IsRefused}
use Rattle.mx_laws.proofs.TwinLemmas.{quiet, other_slot, at, put, all_but_image_at, other_at, by_test, redeviced, goes_on_twins, message_other, endpoint_same, slots_of, uptime_of, devices_of, with_bytes, with_bytes_alike}
use Rattle.mx_laws.proofs.DeathLemmas.{death_twins, alarm_twins}

-- ---- refusals

pub names_same : {q : ℕ} {w v : TableState} → Twins q w v → names_slot w ≡ names_slot v
names_same h = λ i e. (ap (λ n. nat_lt e (2 ^ 31) && nat_lt (e % 1024) n) (slots_of h)) i

current_at : {q : ℕ} {w v : TableState} → Twins q w v → (e : ℕ) → is_current w (e % 1024) (e / 1024) ≡ is_current v (e % 1024) (e / 1024)
current_at h e = ap (λ (p : Process). not (is_down p.state) && (p.generation == e / 1024)) (all_but_image_at h (e % 1024))

pub alive_same : {q : ℕ} {w v : TableState} → Twins q w v → is_alive w ≡ is_alive v
alive_same {q} {w} {v} h = λ i e. (ap (λ f. f e && is_current w (e % 1024) (e / 1024)) (names_same h) ∙ ap (λ b. names_slot v e && b) (current_at h e)) i

away_same : {q : ℕ} {w v : TableState} → Twins q w v → is_away w ≡ is_away v
away_same h = λ i e. (ap (λ (p : Process). is_out p.state) (all_but_image_at h (e % 1024))) i

abbrev down_at : TableState → ℕ → Bool
down_at w t = is_down (process_at w t).state

abbrev limit_at : TableState → ℕ → ℕ
limit_at w s = length (memory_at w s)

limits_same : {q : ℕ} {w v : TableState} → Twins q w v → limit_at w ≡ limit_at v
limits_same h = λ i s. (at h s).limit i

rules_of : {q : ℕ} {w v : TableState} → Twins q w v → w.rules ≡ v.rules
rules_of h = ap (λ (x : TableState). x.rules) h.rest

-- the window that each slot has for s
abbrev windows_for : TableState → ℕ → ℕ → Option Window
windows_for w s d = window_of w d s

windows_same : {q : ℕ} {w v : TableState} → Twins q w v → (s : ℕ) → windows_for w s ≡ windows_for v s
windows_same h s = λ i d. (ap (λ (p : Process). get_or p.windows s None) (all_but_image_at h d)) i

downs_same : {q : ℕ} {w v : TableState} → Twins q w v → down_at w ≡ down_at v
downs_same h = λ i t. (ap (λ (p : Process). is_down p.state) (all_but_image_at h t)) i

endpoints_same : {q : ℕ} {w v : TableState} → Twins q w v → endpoint_of w ≡ endpoint_of v
endpoints_same h = λ i t. (endpoint_same h t) i

-- WHAT A CALL MAY KNOW is the same
known_same : {q : ℕ} {w v : TableState} → Twins q w v → (s : ℕ) → known w s ≡ known v s
known_same {q} {w} {v} h s = λ i. record {
  rules = (rules_of h) i;
  uptime = (uptime_of h) i;
  used = (slots_of h) i;
  steps = (ap (λ (p : Process). p.steps) (all_but_image_at h s)) i;
  alarm = (ap (λ (p : Process). p.alarm) (all_but_image_at h s)) i;
  owner = (ap owner_of h.rest) i;
  registers = (ap (λ (d : Devices). d.registers) (devices_of h)) i;
  named = (names_same h) i;
  alive = (alive_same h) i;
  away = (away_same h) i;
  down = (downs_same h) i;
  endpoint = (endpoints_same h) i;
  limit = (limits_same h) i;
  window = (windows_same h s) i;
}

message_words_same : {q : ℕ} {w v : TableState} → Twins q w v → (s : ℕ) → is_slot q s ≡ false → message_words_at w s ≡ message_words_at v s
unfolding message_words_at
message_words_same h s n = ap (λ (p : Process). message_words_of (take 36 (drop p.image.regs.ebx p.image.memory))) (other_at h s n)

kernel_call_refusal_by_same : {q : ℕ} {w v : TableState} → Twins q w v → (s bit : ℕ) (r : Option KernelCall) → kernel_call_refusal_by w s bit r ≡ kernel_call_refusal_by v s bit r
kernel_call_refusal_by_same h s bit None = refl
kernel_call_refusal_by_same {q} {w} {v} h s bit (Some r) =
    ap (λ (p : Process). first_error ((not (has_bit p.schedule.terms.masks.calls bit), Denied) ∷ kernel_call_reasons w s r)) (all_but_image_at h s)
    ∙ ap (λ k. first_error ((not (has_bit (process_at v s).schedule.terms.masks.calls bit), Denied) ∷ reasons_of k s r)) (known_same h s)

-- ---- what a copy that isn't refused knows

abbrev pub NoneHolds : List (Bool × Errno) → Type 0
NoneHolds [] = Unit {0}
NoneHolds (c ∷ cs) = (c.0 ≡ false) × NoneHolds cs

first_none : (b : Bool) (x : Errno) (r : Option Errno) → cond b (Some x) r ≡ None → (b ≡ false) × (r ≡ None)
first_none true x r e = cc
first_none false x r e = (refl, e)

pub none_holds : (cs : List (Bool × Errno)) → first_error cs ≡ None → NoneHolds cs
none_holds [] e = tt
none_holds (c ∷ cs) e = let h = first_none c.0 c.1 (first_error cs) e in (h.0, none_holds cs h.1)

inside_of : (n k : ℕ) → not (nat_le n k) ≡ false → n ≤ k
inside_of n k e = leb-true n k (true_of (nat_le n k) e)
  where
    true_of : (b : Bool) → not b ≡ false → b ≡ true
    true_of true e = refl
    true_of false e = cc

copy_fits : (w : TableState) (s bit : ℕ) (c : CopyRange) → kernel_call_refusal_by w s bit (Some (Vircopy c)) ≡ None → c.target.offset + c.count ≤ limit_at w (c.target.endpoint % 1024)
copy_fits w s bit c e =
    let h = none_holds ((not (has_bit (process_at w s).schedule.terms.masks.calls bit), Denied) ∷ kernel_call_reasons w s (Vircopy c)) e in
    inside_of (c.target.offset + c.count) (limit_at w (c.target.endpoint % 1024)) h.1.1.1.1.1.1.1.1.1.1.0

-- a copy that isn't refused, under strict rules and of another's memory, reads through an open window
read_open : (strict own is_read : Bool) → (strict && not own && not is_read) ≡ false → strict ≡ true → own ≡ false → is_read ≡ true
read_open true false true f e g = refl
read_open true false false f e g = cc
read_open true true x f e g = cc
read_open false own x f e g = cc

-- so where q grants none, its source is another
source_is_other : (w : TableState) (q s bit : ℕ) (c : CopyRange) → is_slot q s ≡ false → kernel_call_refusal_by w s bit (Some (Vircopy c)) ≡ None → CopyIsApart q w s (Some (Vircopy c)) None → q ≢ c.source.endpoint % 1024
source_is_other w q s bit c n e m g =
    let k = not_refused (m (sym g)) in
    let h = none_holds ((not (has_bit (process_at w s).schedule.terms.masks.calls bit), Denied) ∷ kernel_call_reasons w s (Vircopy c)) e in
    let owner = c.source.endpoint % 1024 in
    let own : (owner == s) ≡ false = ne_eqb owner s (λ z. is_not_itself q s n (g ∙ z)) in
    let reads = read_open (is_strict w.rules) (owner == s) (is_open allows_reading (window_of w owner s) c.source.offset c.count) h.1.1.1.1.1.1.1.0 k.0 own in
    true_false (sym reads ∙ ap (λ z. is_open allows_reading (window_of w z s) c.source.offset c.count) (sym g) ∙ k.1)
  where
    not_refused : IsRefused None ⊎ IsClosedToReading q w s c → IsClosedToReading q w s c
    not_refused (inl h) = absurd h
    not_refused (inr h) = h

    true_false : true ≡ false → ⊥
    true_false z = cc

    is_itself : (x : ℕ) → is_slot x x ≡ true
    is_itself zero = refl
    is_itself (suc x) = is_itself x

    is_not_itself : (x y : ℕ) → is_slot x y ≡ false → x ≡ y → ⊥
    is_not_itself x y b z = true_false (sym (is_itself x) ∙ ap (is_slot x) z ∙ b)

-- ---- what a call changes

part_short : (xs : List ℕ) (at count : ℕ) → length (part xs at count) ≤ count
part_short xs at count = omega (arith, length-take count (drop at xs))

copy_twins : {q : ℕ} {w v : TableState} → Twins q w v → (from at to place count : ℕ) → is_slot q from ≡ false → place + count ≤ limit_at w to → Twins q (with_copy w from at to place count) (with_copy v from at to place count)
copy_twins {q} {w} {v} h from k to place count n le =
    let bytes = part (memory_at w from) k count in
    let le2 : place + count ≤ limit_at v to = subst (λ (x : ℕ). place + count ≤ x) (at h to).limit le in
    subst (λ (p : Process). Twins q (with_copy w from k to place count) (with_process v to (with_bytes place (part p.image.memory k count) (process_at v to)))) (other_at h from n)
    (put h to (with_bytes place bytes (process_at w to)) (with_bytes place bytes (process_at v to)) (with_bytes_alike (is_slot q to) (process_at w to) (process_at v to) place place bytes (at h to) (λ e. refl)
    (λ e. omega (arith, le, part_short (memory_at w from) k count)) (λ e. omega (arith, le2, part_short (memory_at w from) k count))))

device_twins : {q : ℕ} {w v : TableState} → Twins q w v → (f : Devices → Devices) → Twins q (record w { devices = f w.devices }) (record v { devices = f v.devices })
device_twins {q} {w} {v} h f = redeviced h (f w.devices) (f v.devices) (ap f (devices_of h))

-- what is known of a copy that isn't refused, and is apart from q
abbrev FitsApart : ℕ → TableState → Effect → Type 0
FitsApart q w (Copies c) = (q ≢ c.source.endpoint % 1024) × (c.target.offset + c.count ≤ limit_at w (c.target.endpoint % 1024))
FitsApart q w _ = Unit {0}

fits_apart : (w : TableState) (q s bit : ℕ) (r : KernelCall) → is_slot q s ≡ false → kernel_call_refusal_by w s bit (Some r) ≡ None → CopyIsApart q w s (Some r) None → FitsApart q w (effect_of (known w s) s r)
fits_apart w q s bit (Vircopy c) n e m = (source_is_other w q s bit c n e m, copy_fits w s bit c e)
fits_apart w q s bit (Devio action register value) n e m = by_bools (action == 0) (register == 0)
  where
    by_bools : (a b : Bool) → FitsApart q w (cond a Nothing (cond b (WritesConsole (value % 256)) (SetsRegister register value)))
    by_bools true b = tt
    by_bools false true = tt
    by_bools false false = tt
fits_apart w q s bit _ n e m = tt

effect_twins : {q : ℕ} {w v : TableState} → Twins q w v → (s : ℕ) (e : Effect) → FitsApart q w e → Twins q (table_after_effect w s e) (table_after_effect v s e)
effect_twins h s Nothing k = h
effect_twins h s (SetsAlarm due) k = alarm_twins h s due
effect_twins h s (SetsOwner line owner) k = device_twins h (λ (d : Devices). let x : Devices = record d { owners = slice_set d.owners line owner } in x)
effect_twins h s (WritesConsole byte) k = device_twins h (λ (d : Devices). let x : Devices = record d { console = record { kept = keep_last 4096 (d.console.kept ++ byte ∷ []); count = d.console.count + 1 } } in x)
effect_twins h s (SetsRegister register value) k = device_twins h (λ (d : Devices). let x : Devices = record d { registers = slice_set d.registers register value } in x)
effect_twins {q} h s (Copies c) k = let from = c.source.endpoint % 1024 in copy_twins h from c.source.offset (c.target.endpoint % 1024) c.target.offset c.count (other_slot q from k.0) k.1
effect_twins h s (Kills d) k = death_twins h d cause.Kill
effect_twins h s (SetsWindow user window) k = quiet h s (λ (p : Process). let x : Process = record p { windows = slice_set p.windows user window } in x) (λ b p. refl) (λ p. refl) (λ p. refl)

change_twins : {q : ℕ} {w v : TableState} → Twins q w v → (s bit : ℕ) (r : KernelCall) → is_slot q s ≡ false → kernel_call_refusal_by w s bit (Some r) ≡ None → CopyIsApart q w s (Some r) None → Twins q (table_after_change w s r) (table_after_change v s r)
change_twins {q} {w} {v} h s bit r n e m =
    subst (λ (k : Known). Twins q (table_after_change w s r) (table_after_effect v s (effect_of k s r))) (known_same h s) (effect_twins h s (effect_of (known w s) s r) (fits_apart w q s bit r n e m))

reply_words_same : {q : ℕ} {w v : TableState} → Twins q w v → (s : ℕ) (r : KernelCall) → words_of_reply w s r ≡ words_of_reply v s r
reply_words_same h s r = ap (λ (k : Known). reply_of k r) (known_same h s)

reply_twins : {q : ℕ} {w v : TableState} → Twins q w v → (s k : ℕ) (a : ReplyWords) → is_slot q s ≡ false → Twins q (table_after_reply w s k a) (table_after_reply v s k a)
unfolding table_after_reply
reply_twins h s k a n = goes_on_twins (message_other h s (reply_bytes k a) n) s 0

serving_twins : {q : ℕ} {w v : TableState} → Twins q w v → (s bit : ℕ) (r : KernelCall) → is_slot q s ≡ false → kernel_call_refusal_by w s bit (Some r) ≡ None → CopyIsApart q w s (Some r) None → Twins q (table_after_serving w s r) (table_after_serving v s r)
unfolding table_after_serving
serving_twins {q} {w} {v} h s bit r n e m = by_test (ends_caller s r) (ends_caller s r) refl (λ t. death_twins h s cause.Exit)
    (λ t. subst (λ a. Twins q (table_after_reply (table_after_change w s r) s 0 (words_of_reply w s r)) (table_after_reply (table_after_change v s r) s 0 a)) (reply_words_same h s r) (reply_twins (change_twins h s bit r n e m) s 0 (words_of_reply w s r) n))

kernel_call_by_twins : {q : ℕ} {w v : TableState} → Twins q w v → (s bit : ℕ) (r : Option KernelCall) (e : Option Errno) → kernel_call_refusal_by w s bit r ≡ e → is_slot q s ≡ false → CopyIsApart q w s r e → Twins q (table_after_kernel_call_by w s r e) (table_after_kernel_call_by v s r e)
kernel_call_by_twins h s bit r (Some e) is n m = reply_twins h s (errno_bits e) no_reply_words n
kernel_call_by_twins h s bit None None is n m = h
kernel_call_by_twins h s bit (Some r) None is n m = serving_twins h s bit r n is m

pub kernel_call_twins : {q : ℕ} {w v : TableState} → Twins q w v → (s : ℕ) → is_slot q s ≡ false → CopyIsApart q w s (kernel_call_under w.rules (message_words_at w s)) (kernel_call_refusal w s) → Twins q (table_after_kernel_call w s) (table_after_kernel_call v s)
unfolding table_after_kernel_call kernel_call_refusal
kernel_call_twins {q} {w} {v} h s n m =
    let words = message_words_at w s in
    let bit = words.kind - first_call in
    let asked = kernel_call_under w.rules words in
    let first = kernel_call_by_twins h s bit asked (kernel_call_refusal_by w s bit asked) refl n m in
    subst (λ (r : Rules). Twins q (table_after_kernel_call w s) (table_after_kernel_call_by v s (kernel_call_under r (message_words_at v s)) (kernel_call_refusal_by v s ((message_words_at v s).kind - first_call) (kernel_call_under r (message_words_at v s))))) (rules_of h)
    (subst (λ (x : MessageWords). Twins q (table_after_kernel_call w s) (table_after_kernel_call_by v s (kernel_call_under w.rules x) (kernel_call_refusal_by v s (x.kind - first_call) (kernel_call_under w.rules x)))) (message_words_same h s n)
    (subst (λ e. Twins q (table_after_kernel_call w s) (table_after_kernel_call_by v s asked e)) (kernel_call_refusal_by_same h s bit asked) first))
