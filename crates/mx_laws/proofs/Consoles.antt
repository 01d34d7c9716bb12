-- What records write to the console is told of them.
use Rattle.std.proofs.Common.{◌≡◌, ◌∙◌, ◌≤◌, ◌≢◌, ℕ, zero, suc, ◌+◌, ◌-◌, min, Bool, true, false, cond, eqb, List, [], ◌∷◌, ◌++◌, drop, length, length-append, length-drop, drop-drop, append_assoc, Option, Some, None, slice_get, refl, ap, sym, subst, arith}
use Rattle.std.specs.Prelude.{option_to_list}
use Rattle.std.proofs.lemmas.Bool.{eq-eqb, ne_eqb}
use Rattle.std.proofs.lemmas.List.{append-nil, drop-append-le}
use Rattle.circular_buffer.specs.Buffer.{keep_last}
use Rattle.circular_buffer.proofs.Places.{slice_get-last}
use Rattle.mx_kcall.specs.Service.{Service}
use Rattle.mx_machine.specs.Boot.{first_table, world_at_boot}
use Rattle.mx_machine.specs.declared.config.Config.{Config}
use Rattle.mx_proc.specs.Console.{ConsoleState, empty_console}
use Rattle.mx_machine.specs.declared.events.Event.TheVariants.{Step, Take, Back, Line, Tick, Kill, Respawn}
use Rattle.mx_machine.specs.declared.history.Record.{Record}
use Rattle.mx_machine.specs.declared.history.Recorded.{Recorded}
use Rattle.mx_machine.specs.declared.history.Recorded.TheVariants as recorded
use Rattle.mx_machine.specs.History.{events_of, events_of_history, world_after_events}
use Rattle.mx_machine.specs.Move.{world_after_event}
use Rattle.mx_machine.specs.World.{World}
use Rattle.mx_look.specs.Kept.{last_byte}
use Rattle.mx_look.specs.declared.transition.Transition.{Transition}
use Rattle.mx_look_page.specs.Rows.{byte_part, byte_part_by}
use Rattle.mx_machine.specs.Steps.{steps_of}
use Rattle.mx_app_step.specs.Traces.{steps_before, transition_of}
use Rattle.mx_app_step.proofs.RecordLemmas.{after_both}
use Rattle.mx_spool.proofs.ConsoleLemmas.{event_writes, pushed}
use Rattle.mx_laws.specs.Consoles.{BytesGiveConsole, HasLast, RowTellsByte, told_byte, told_bytes, with_bytes}

abbrev console_at : World → ConsoleState
console_at w = w.table.devices.console

-- ---- consoles with bytes more

-- to keep the last ones twice is to keep them once
kept_twice : (n : ℕ) (xs ys : List ℕ) → keep_last n (keep_last n xs ++ ys) ≡ keep_last n (xs ++ ys)
kept_twice n xs ys =
    let m = length xs - n in
    let j = length (drop m xs ++ ys) - n in
    let left = length-drop m xs in
    let both = length-append (drop m xs) ys in
    let all = length-append xs ys in
    let at : m + j ≡ length (xs ++ ys) - n = omega (arith, left, both, all) in
    ap (λ (l : List ℕ). drop j l) (sym (drop-append-le m xs ys (omega arith))) ∙ drop-drop j m (xs ++ ys) ∙ ap (λ k. drop k (xs ++ ys)) at

with_more : (c : ConsoleState) (xs ys : List ℕ) → with_bytes (with_bytes c xs) ys ≡ with_bytes c (xs ++ ys)
with_more c xs ys =
    let kept = kept_twice 4096 (c.kept ++ xs) ys ∙ ap (keep_last 4096) (append_assoc c.kept xs ys) in
    let all = length-append xs ys in
    let count : c.count + length xs + length ys ≡ c.count + length (xs ++ ys) = omega (arith, all) in
    λ i. record { kept = kept i; count = count i }

with_none : (c : ConsoleState) → HasLast c → with_bytes c [] ≡ c
with_none c last =
    let none : length c.kept - 4096 ≡ 0 = omega (arith, last) in
    let kept : keep_last 4096 (c.kept ++ []) ≡ c.kept = ap (keep_last 4096) (append-nil c.kept) ∙ ap (λ k. drop k c.kept) none in
    let count : c.count + 0 ≡ c.count = omega arith in
    λ i. record { kept = kept i; count = count i }

has_last : (c : ConsoleState) (bytes : List ℕ) → HasLast c → HasLast (with_bytes c bytes)
has_last c bytes last =
    let all = length-append c.kept bytes in
    let left = length-drop (length (c.kept ++ bytes) - 4096) (c.kept ++ bytes) in
    omega (arith, last, all, left)

-- the byte that was written is the last one
last_is : (c : ConsoleState) (b : ℕ) → HasLast c → last_byte (with_bytes c (b ∷ [])) ≡ Some b
unfolding last_byte
last_is c b last =
    let m = length (c.kept ++ b ∷ []) - 4096 in
    let all : length (c.kept ++ b ∷ []) ≡ length c.kept + 1 = length-append c.kept (b ∷ []) in
    let left = length-drop m c.kept in
    let at : min (c.count + 1) 4096 - 1 ≡ length (drop m c.kept) = omega (arith, last, all, left) in
    let some : c.count + 1 ≢ 0 = λ e. omega (arith, e) in
    ap (λ t. cond t None (slice_get (drop m (c.kept ++ b ∷ [])) (min (c.count + 1) 4096 - 1))) (ne_eqb (c.count + 1) 0 some)
    ∙ ap (λ (l : List ℕ). slice_get l (min (c.count + 1) 4096 - 1)) (drop-append-le m c.kept (b ∷ []) (omega (arith, all)))
    ∙ slice_get-last (drop m c.kept) b (min (c.count + 1) 4096 - 1) at

-- ---- a record

nothing_pushed : (c : ConsoleState) (bytes : List ℕ) → length bytes ≤ 0 → pushed c bytes ≡ c
nothing_pushed c [] few = refl
nothing_pushed c (b ∷ bytes) few = absurd (omega (arith, few))

steps_keep : (n : ℕ) (w : World) (a : ℕ) → console_at (world_after_events w (steps_of a n)) ≡ console_at w
steps_keep zero w a = refl
steps_keep (suc n) w a =
    let h = event_writes w a Step in
    steps_keep n (world_after_event w a Step) a ∙ h.2 ∙ nothing_pushed (console_at w) h.0 h.1

-- a record writes a byte at most
abbrev Wrote : ConsoleState → ConsoleState → Type 0
Wrote c d = (bytes : List ℕ) × (length bytes ≤ 1) × (d ≡ pushed c bytes)

own_writes : (w : World) (a : ℕ) (e : Recorded)
    → Wrote (console_at (world_after_events w (steps_before a e))) (console_at (world_after_events w (events_of a e)))
own_writes w a recorded.Take = let h = event_writes w a Take in (h.0, omega (arith, h.1), h.2)
own_writes w a (recorded.Back n) =
    let u = world_after_events w (steps_of a n) in
    let h = event_writes u a Back in
    (h.0, omega (arith, h.1), ap console_at (after_both w (steps_of a n) ((a, Back) ∷ [])) ∙ h.2)
own_writes w a (recorded.Line l) = let h = event_writes w a (Line l) in (h.0, omega (arith, h.1), h.2)
own_writes w a recorded.Tick = let h = event_writes w a Tick in (h.0, omega (arith, h.1), h.2)
own_writes w a (recorded.Kill e) = let h = event_writes w a (Kill e) in (h.0, omega (arith, h.1), h.2)
own_writes w a (recorded.Respawn s) = let h = event_writes w a (Respawn s) in (h.0, omega (arith, h.1), h.2)

own_steps_keep : (w : World) (a : ℕ) (e : Recorded) → console_at (world_after_events w (steps_before a e)) ≡ console_at w
own_steps_keep w a recorded.Take = refl
own_steps_keep w a (recorded.Back n) = steps_keep n w a
own_steps_keep w a (recorded.Line l) = refl
own_steps_keep w a recorded.Tick = refl
own_steps_keep w a (recorded.Kill e) = refl
own_steps_keep w a (recorded.Respawn s) = refl

-- by the counts before and after
abbrev told_between : ConsoleState → ConsoleState → Option ℕ
told_between c d = cond (eqb c.count d.count) None (last_byte d)

told_if : (c d : ConsoleState) (bytes : List ℕ) → length bytes ≤ 1 → d ≡ pushed c bytes → HasLast c → d ≡ with_bytes c (option_to_list (told_between c d))
told_if c d [] few is last =
    is ∙ sym (with_none c last)
    ∙ ap (λ t. with_bytes c (option_to_list (cond t None (last_byte d)))) (sym (eq-eqb c.count d.count (sym (ap (λ (k : ConsoleState). k.count) is))))
told_if c d (b ∷ []) few is last =
    let more : c.count ≢ d.count = λ e. omega (arith, e, ap (λ (k : ConsoleState). k.count) is) in
    is ∙ ap (λ (o : Option ℕ). with_bytes c (option_to_list o)) (sym (ap last_byte is ∙ last_is c b last))
    ∙ ap (λ t. with_bytes c (option_to_list (cond t None (last_byte d)))) (sym (ne_eqb c.count d.count more))
told_if c d (b ∷ a ∷ bytes) few is last = absurd (omega (arith, few))

-- what a record leaves is what was there, with what is told of it
one_told : (w : World) (n : ℕ) (x : Record) → HasLast (console_at w)
    → console_at (world_after_events w (events_of x.actor x.event)) ≡ with_bytes (console_at w) (option_to_list (told_byte (transition_of w n x)))
one_told w n x last =
    let before = console_at (world_after_events w (steps_before x.actor x.event)) in
    let after = console_at (world_after_events w (events_of x.actor x.event)) in
    let same = own_steps_keep w x.actor x.event in
    let h = own_writes w x.actor x.event in
    told_if before after h.0 h.1 h.2 (subst HasLast (sym same) last)
    ∙ ap (λ (c : ConsoleState). with_bytes c (option_to_list (told_between before after))) same

-- at boot nothing is there
pub at_boot : (config : Config) (services : List Service) → console_at (world_at_boot config services) ≡ empty_console
unfolding first_table
at_boot config services = refl

-- ---- all of them

pub console_told : (w : World) (n : ℕ) (xs : List Record) → HasLast (console_at w) → BytesGiveConsole w n xs
console_told w n [] last = sym (with_none (console_at w) last)
console_told w n (x ∷ xs) last =
    let v = world_after_events w (events_of x.actor x.event) in
    let first = option_to_list (told_byte (transition_of w n x)) in
    let one = one_told w n x last in
    ap console_at (after_both w (events_of x.actor x.event) (events_of_history xs))
    ∙ console_told v (n + 1) xs (subst HasLast (sym one) (has_last (console_at w) first last))
    ∙ ap (λ (c : ConsoleState). with_bytes c (told_bytes v (n + 1) xs)) one
    ∙ with_more (console_at w) first (told_bytes v (n + 1) xs)

by_test : (t : Bool) (o : Option ℕ) → cond t [] (byte_part_by o) ≡ byte_part_by (cond t None o)
by_test true o = refl
by_test false o = refl

pub byte_told : (x : Transition) → RowTellsByte x
unfolding byte_part
byte_told x = by_test (eqb x.before.written x.after.written) x.after.last_byte
