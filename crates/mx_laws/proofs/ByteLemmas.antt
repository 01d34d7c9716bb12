-- What others leave of an image.
use Rattle.std.proofs.Common.{◌≡◌, ◌∙◌, ℕ, ◌+◌, ◌-◌, ◌<◌, ◌≤◌, Bool, true, false, List, [], ◌∷◌, ◌++◌, length, take, drop, Option, Some, None, refl, sym, ap, subst, get_or, inl, inr, arith}
use Rattle.std.proofs.lemmas.List.{get_or-take, get_or-drop, get_or_append_left, get_or-append_right, length-append, length-drop, length-take}
use Rattle.std.proofs.Common.{◌≢◌, cond, not, ◌||◌, ◌%◌}
use Rattle.std.specs.Prelude.{◌⊎◌, ◌&&◌, ◌==◌, nat_le, slice_index_or}
use Rattle.std.specs.Option.{option_map}
use Rattle.std.proofs.lemmas.Bool.{cases_eq, cases_lt, leb-true, ne_eqb}
use Rattle.mx_image.specs.declared.runs.Stop.{Stop}
use Rattle.mx_image.specs.declared.runs.Stop.TheVariants.{Spent, Trap, Fault}
use Rattle.mx_proc.specs.declared.errors.Errno.{Errno}
use Rattle.mx_proc.specs.declared.errors.Errno.TheVariants.{Denied}
use Rattle.mx_proc.specs.declared.process.Process.{Process}
use Rattle.mx_proc.specs.declared.windows.Window.{Window}
use Rattle.mx_proc.specs.TableState.{TableState, memory_at, window_of}
use Rattle.mx_word.specs.Bits.{has_bit}
use Rattle.mx_kcall.specs.declared.request.CopyRange.{CopyRange}
use Rattle.mx_kcall.specs.declared.request.KernelCall.{KernelCall}
use Rattle.mx_kcall.specs.declared.request.KernelCall.TheVariants.{Devio, Vircopy}
use Rattle.mx_kcall.specs.Effects.Effect.{Nothing, SetsRegister, WritesConsole}
use Rattle.mx_kcall.specs.Known.{is_away}
use Rattle.mx_kcall.specs.Rows.{first_call}
use Rattle.mx_kcall.specs.Calls.{trap_answer}
use Rattle.mx_kcall.specs.Refusals.{kernel_call_reasons, kernel_call_refusal, kernel_call_refusal_by}
use Rattle.mx_kcall.specs.Requests.{kernel_call_under, message_words_at}
use Rattle.mx_kcall.specs.TrapAnswer.{TrapAnswer}
use Rattle.mx_kcall.specs.Windows.{allows_reading, allows_writing, is_open, is_strict}
use Rattle.mx_kcall.specs.TrapAnswer.TheVariants as trap_ends
use Rattle.mx_machine.specs.Move.{is_doomed, table_after_coming_home}
use Rattle.mx_machine.specs.World.{HeldProcess, held_by}
use Rattle.mx_laws.specs.Entries.{IsInCopy, IsInside, IsOpenToWriting, IsThroughWindows, slot_on, copy_made, copy_at_back, copy_at_end, copy_at_trap, copy_by, copy_of_effect}
use Rattle.mx_exec.specs.declared.image.Image.{Image}
use Rattle.mx_exec.specs.Image.{blank}
use Rattle.mx_mem.specs.Segment.{part, with_bytes_at}
use Rattle.mx_proc.specs.declared.process.State.{State}
use Rattle.mx_proc.specs.declared.process.State.TheVariants.{Home, Ready, Out, Doomed, Sending, Calling, Receiving, Awaiting, Down}
use Rattle.mx_proc.specs.States.{is_blocked, is_out}
use Rattle.mx_proc.specs.TableState.{process_at}
use Rattle.mx_machine.specs.declared.events.Event.{Event}
use Rattle.mx_machine.specs.declared.events.Event.TheVariants.{Step, Take, Back, Line, Tick, Kill, Respawn}
use Rattle.mx_machine.specs.Move.{event_refusal, world_after_event}
use Rattle.mx_machine.specs.Sound.{IsSound}
use Rattle.mx_machine.specs.World.{World}
use Rattle.mx_laws.specs.Diary.{Item, images, play}
use Rattle.mx_laws.specs.Diary.Item.{Ran, Result, Message, Copy}
use Rattle.mx_laws.proofs.DiaryLemmas.{image_or}
use Rattle.mx_laws.specs.Diaries.{diary, diary_of_step, image_now, IsNoRespawnOf}
use Rattle.mx_laws.specs.Entries.{AreEntries, byte_of, caller_in, copy_in, CopyMade, IsEntry, IsOfCopy, IsOfOthers, MissesSlot, registers_and_code}
use Rattle.mx_laws.specs.DiaryLaws.{LeavesImage}
use Rattle.mx_laws.proofs.DiaryMoves.{event_law, image_in}
use Rattle.mx_laws.proofs.EntryLemmas.{none_holds, receiving_blocked}
use Rattle.mx_laws.proofs.EventEntries.{event_entries, home_at}
use Rattle.mx_laws.proofs.SoundDiaries.{held_once, not_held}

-- ---- outside and inside

-- a byte outside of this many from a place on
abbrev IsOutside : ℕ → ℕ → ℕ → Type 0
IsOutside place count k = (k < place) ⊎ (place + count ≤ k)

-- a byte of slot s outside of what is copied into it
abbrev IsOutsideCopy : ℕ → Option CopyMade → ℕ → Type 0
IsOutsideCopy s None k = Unit {0}
IsOutsideCopy s (Some copy) k = copy.to ≡ s → IsOutside copy.place copy.count k

inside_or : (place count k : ℕ) → IsInside place count k ⊎ IsOutside place count k
inside_or place count k = elim (cases_lt k place) [
  | inl lt ↦ inr (inl lt)
  | inr ge ↦ elim (cases_lt k (place + count)) [
    | inl lt ↦ inl (ge, lt)
    | inr past ↦ inr (inr past)
  ]
]

in_copy_or : (s : ℕ) (made : Option CopyMade) (k : ℕ) → IsInCopy s made k ⊎ IsOutsideCopy s made k
in_copy_or s None k = inr tt
in_copy_or s (Some copy) k = elim (cases_eq copy.to s) [
  | inl e ↦ elim (inside_or copy.place copy.count k) [
    | inl i ↦ inl (e, i)
    | inr o ↦ inr (λ z. o)
  ]
  | inr n ↦ inr (λ z. absurd (n z))
]

-- ---- bytes over others

with_bytes_long : (xs : List ℕ) (k : ℕ) (ys : List ℕ) → k + length ys ≤ length xs → length (with_bytes_at xs k ys) ≡ length xs
with_bytes_long xs k ys le =
    omega (arith, length-append (take k xs ++ ys) (drop (k + length ys) xs), length-append (take k xs) ys, length-take k xs, length-drop (k + length ys) xs)

with_bytes_outside : (xs : List ℕ) (k : ℕ) (ys : List ℕ) (i : ℕ) → k + length ys ≤ length xs → IsOutside k (length ys) i → get_or (with_bytes_at xs k ys) i 0 ≡ get_or xs i 0
with_bytes_outside xs k ys i le (inl lt) =
    let long : length (take k xs) ≡ k = omega (arith, length-take k xs, le) in
    get_or_append_left (take k xs ++ ys) (drop (k + length ys) xs) 0 i (omega (arith, length-append (take k xs) ys, long, lt))
    ∙ get_or_append_left (take k xs) ys 0 i (omega (arith, long, lt))
    ∙ get_or-take k xs i 0 lt
with_bytes_outside xs k ys i le (inr ge) =
    let long : length (take k xs ++ ys) ≡ k + length ys = omega (arith, length-append (take k xs) ys, length-take k xs, le) in
    let back : k + length ys + (i - (k + length ys)) ≡ i = omega (arith, ge) in
    get_or-append_right (take k xs ++ ys) (drop (k + length ys) xs) (k + length ys) i 0 long ge
    ∙ get_or-drop (k + length ys) xs (i - (k + length ys)) 0
    ∙ ap (λ j. get_or xs j 0) back

-- ---- items of others

-- a result or a short message for who waits, or a copy
abbrev Mild : Type 0 → (ℕ → List ℕ → Type 0) → Item → Type 0
Mild B C Ran = ⊥
Mild B C (Result r) = B
Mild B C (Message bytes) = (length bytes ≡ 36) × B
Mild B C (Copy place bytes) = C place bytes

abbrev AllMild : Type 0 → (ℕ → List ℕ → Type 0) → List Item → Type 0
AllMild B C [] = Unit {0}
AllMild B C (x ∷ xs) = Mild B C x × AllMild B C xs

not_caller : (w : World) (a : ℕ) (e : Event) (s : ℕ) → IsOfOthers w a e s → caller_in w a e ≡ Some s → ⊥
not_caller w a Step s n e = cc
not_caller w a Take s n e = cc
not_caller w a Back s n e = n e
not_caller w a (Line l) s n e = cc
not_caller w a Tick s n e = cc
not_caller w a (Kill k) s n e = cc
not_caller w a (Respawn t) s n e = cc

misses : (made : Option CopyMade) (s place : ℕ) (bytes : List ℕ) → MissesSlot s made → IsOfCopy made s place bytes → ⊥
misses made s place bytes n h = subst (MissesSlot s) h.is_made n h.slot

mild : (w : World) (a : ℕ) (e : Event) (s : ℕ) (x : Item) → IsOfOthers w a e s → IsEntry w a e s x → Mild (is_blocked (process_at w.table s).state ≡ true) (IsOfCopy (copy_in w a e) s) x
mild w a e s Ran n h = subst (λ k. IsOfOthers w a k s) h.0 n h.1
mild w a e s (Result r) n (inl h) = absurd (not_caller w a e s n h)
mild w a e s (Result r) n (inr h) = h
mild w a e s (Message bytes) n (k, inl h) = absurd (not_caller w a e s n h)
mild w a e s (Message bytes) n (k, inr h) = (k, receiving_blocked (process_at w.table s).state h)
mild w a e s (Copy place bytes) n h = h

all_mild : (w : World) (a : ℕ) (e : Event) (s : ℕ) (xs : List Item) → IsOfOthers w a e s → AreEntries w a e s xs → AllMild (is_blocked (process_at w.table s).state ≡ true) (IsOfCopy (copy_in w a e) s) xs
all_mild w a e s [] n h = tt
all_mild w a e s (x ∷ xs) n h = (mild w a e s x n h.0, all_mild w a e s xs n h.1)

-- ---- what they leave

abbrev HasRoom : Image → Type 0
HasRoom m = m.regs.ebx + 36 ≤ length m.memory

-- An image after mild items, with the one of before: B holds if the process waits, and O of the bytes outside of copies.
record IsLeft (B : Type 0) (O : ℕ → Type 0) (m r : Image) : Type 0 where
  bytes : (k : ℕ) → (B → IsOutside m.regs.ebx 36 k) → O k → byte_of r k ≡ byte_of m k
  limit : length r.memory ≡ length m.memory
  rest : registers_and_code r ≡ registers_and_code m
  result : (B → ⊥) → r.regs.eax ≡ m.regs.eax

-- What is known of copies: they are inside, and a byte outside of copies is outside of each.
record Copies (O : ℕ → Type 0) (C : ℕ → List ℕ → Type 0) (limit : ℕ) : Type 0 where
  inside : (place : ℕ) (bytes : List ℕ) → C place bytes → place + length bytes ≤ limit
  outside : (k place : ℕ) (bytes : List ℕ) → C place bytes → O k → IsOutside place (length bytes) k

outside_fewer : (place n many k : ℕ) → n ≤ many → IsOutside place many k → IsOutside place n k
outside_fewer place n many k le (inl lt) = inl lt
outside_fewer place n many k le (inr ge) = inr (omega (arith, le, ge))

-- a result changes EAX only
result_left : (B : Type 0) (O : ℕ → Type 0) (m q : Image) (r : ℕ) → B → IsLeft B O (record m { regs = record m.regs { eax = r } }) q → IsLeft B O m q
result_left B O m q r b h = record { bytes = h.bytes; limit = h.limit; rest = h.rest; result = λ n. absurd (n b) }

abbrev image_with : Image → ℕ → List ℕ → Image
image_with m place bytes = record m { memory = with_bytes_at m.memory place bytes }

-- bytes at a place change only those
bytes_left : (B : Type 0) (O : ℕ → Type 0) (m q : Image) (place : ℕ) (bytes : List ℕ) → place + length bytes ≤ length m.memory → ((k : ℕ) → (B → IsOutside m.regs.ebx 36 k) → O k → IsOutside place (length bytes) k) → IsLeft B O (image_with m place bytes) q → IsLeft B O m q
bytes_left B O m q place bytes le f h = record {
  bytes = λ k o u. h.bytes k o u ∙ with_bytes_outside m.memory place bytes k le (f k o u);
  limit = h.limit ∙ with_bytes_long m.memory place bytes le;
  rest = h.rest;
  result = h.result;
}

copies_after : (O : ℕ → Type 0) (C : ℕ → List ℕ → Type 0) (n k : ℕ) → k ≡ n → Copies O C n → Copies O C k
copies_after O C n k e h = subst (Copies O C) (sym e) h

play_left : (B : Type 0) (O : ℕ → Type 0) (C : ℕ → List ℕ → Type 0) (xs : List Item) (m : Image) → AllMild B C xs → (B → HasRoom m) → Copies O C (length m.memory) → IsLeft B O m (play xs m)
play_left B O C [] m h room copies = record { bytes = λ k o u. refl; limit = refl; rest = refl; result = λ n. refl }
play_left B O C (Ran ∷ xs) m h room copies = absurd h.0
play_left B O C (Result r ∷ xs) m h room copies = result_left B O m _ r h.0 (play_left B O C xs (record m { regs = record m.regs { eax = r } }) h.1 room copies)
play_left B O C (Message bytes ∷ xs) m h room copies =
    let le : m.regs.ebx + length bytes ≤ length m.memory = omega (arith, h.0.0, room h.0.1) in
    let long = with_bytes_long m.memory m.regs.ebx bytes le in
    bytes_left B O m _ m.regs.ebx bytes le (λ k o u. outside_fewer m.regs.ebx (length bytes) 36 k (omega (arith, h.0.0)) (o h.0.1))
    (play_left B O C xs (image_with m m.regs.ebx bytes) h.1 (λ b. omega (arith, room b, long)) (copies_after O C (length m.memory) _ long copies))
play_left B O C (Copy place bytes ∷ xs) m h room copies =
    let le = copies.inside place bytes h.0 in
    let long = with_bytes_long m.memory place bytes le in
    bytes_left B O m _ place bytes le (λ k o u. copies.outside k place bytes h.0 u)
    (play_left B O C xs (image_with m place bytes) h.1 (λ b. omega (arith, room b, long)) (copies_after O C (length m.memory) _ long copies))

play_nothing : (B : Type 0) (C : ℕ → List ℕ → Type 0) (xs : List Item) (m : Image) → (B → ⊥) → ((place : ℕ) (bytes : List ℕ) → C place bytes → ⊥) → AllMild B C xs → play xs m ≡ m
play_nothing B C [] m n o h = refl
play_nothing B C (Ran ∷ xs) m n o h = absurd h.0
play_nothing B C (Result r ∷ xs) m n o h = absurd (n h.0)
play_nothing B C (Message bytes ∷ xs) m n o h = absurd (n h.0.1)
play_nothing B C (Copy place bytes ∷ xs) m n o h = absurd (o place bytes h.0)

-- ---- a copy is inside

not_false : (b : Bool) → not b ≡ false → b ≡ true
not_false true e = refl
not_false false e = cc

second_false : (b c : Bool) → (b || c) ≡ false → c ≡ false
second_false true c e = cc
second_false false c e = e

true_of_three : (a b c : Bool) → (a && b && c) ≡ true → (a ≡ true) × ((b ≡ true) × (c ≡ true))
true_of_three true true true e = (refl, (refl, refl))
true_of_three true true false e = cc
true_of_three true false c e = cc
true_of_three false b c e = cc

-- a range that isn't barred, under the strict rules and of another's memory, is in an open window
open_of : (strict own is_in : Bool) → (strict && not own && not is_in) ≡ false → strict ≡ true → own ≡ false → is_in ≡ true
open_of true false true f e g = refl
open_of true false false f e g = cc
open_of true true x f e g = cc
open_of false own x f e g = cc

-- A copy that isn't refused has its place inside, its destination isn't on a processor, and under the strict rules it
-- goes through windows.
record IsAllowed (t : TableState) (s : ℕ) (c : CopyMade) : Type 0 where
  windows : is_strict t.rules ≡ true → IsThroughWindows t s c
  home : is_out (process_at t c.to).state ≡ false
  whole : length c.bytes ≡ c.count
  room : c.place + c.count ≤ length (memory_at t c.to)

part_whole : (xs : List ℕ) (at count : ℕ) → at + count ≤ length xs → length (part xs at count) ≡ count
part_whole xs at count le = omega (arith, length-take count (drop at xs), length-drop at xs, le)

copy_fits : (t : TableState) (s bit : ℕ) (c : CopyRange) → kernel_call_refusal_by t s bit (Some (Vircopy c)) ≡ None → IsAllowed t s (copy_made t c)
copy_fits t s bit c e =
    let h = none_holds ((not (has_bit (process_at t s).schedule.terms.masks.calls bit), Denied) ∷ kernel_call_reasons t s (Vircopy c)) e in
    let from = c.source.endpoint in let to = c.target.endpoint in
    record {
      windows = λ strict. record {
        read = λ n. open_of (is_strict t.rules) (from % 1024 == s) (is_open allows_reading (window_of t (from % 1024) s) c.source.offset c.count) h.1.1.1.1.1.1.1.0 strict (ne_eqb (from % 1024) s n);
        written = λ n. open_of (is_strict t.rules) (to % 1024 == s) (is_open allows_writing (window_of t (to % 1024) s) c.target.offset c.count) h.1.1.1.1.1.1.1.1.0 strict (ne_eqb (to % 1024) s n);
      };
      home = second_false (is_away t from) (is_away t to) h.1.1.1.1.1.1.0;
      whole = part_whole (memory_at t (from % 1024)) c.source.offset c.count (leb-true (c.source.offset + c.count) (length (memory_at t (from % 1024))) (not_false _ h.1.1.1.1.1.1.1.1.1.0));
      room = leb-true (c.target.offset + c.count) (length (memory_at t (to % 1024))) (not_false _ h.1.1.1.1.1.1.1.1.1.1.0);
    }

abbrev the_copy : CopyMade → Option CopyMade → CopyMade
the_copy d None = d
the_copy d (Some c) = c

copy_inside_by : (t : TableState) (s bit : ℕ) (r : Option KernelCall) (e : Option Errno) (c : CopyMade) → kernel_call_refusal_by t s bit r ≡ e → copy_by t s r e ≡ Some c → IsAllowed t s c
copy_inside_by t s bit None e c f g = cc
copy_inside_by t s bit (Some r) (Some x) c f g = cc
copy_inside_by t s bit (Some (Vircopy copied)) None c f g = subst (IsAllowed t s) (ap (the_copy c) g) (copy_fits t s bit copied f)
copy_inside_by t s bit (Some (Devio action register value)) None c f g = by_bools (action == 0) (register == 0) g
  where
    by_bools : (a b : Bool) → copy_of_effect t (cond a Nothing (cond b (WritesConsole (value % 256)) (SetsRegister register value))) ≡ Some c → IsAllowed t s c
    by_bools true b k = cc
    by_bools false true k = cc
    by_bools false false k = cc
copy_inside_by t s bit (Some _) None c f g = cc

copy_inside_trap : (t : TableState) (s : ℕ) (x : TrapAnswer) (c : CopyMade) → copy_at_trap t s x ≡ Some c → IsAllowed t s c
unfolding kernel_call_refusal
copy_inside_trap t s trap_ends.Done c g = cc
copy_inside_trap t s trap_ends.Kernel c g = copy_inside_by t s ((message_words_at t s).kind - first_call) (kernel_call_under t.rules (message_words_at t s)) (kernel_call_refusal t s) c refl g

copy_inside_end : (t : TableState) (s : ℕ) (b : Bool) (x : Stop) (c : CopyMade) → copy_at_end t s b x ≡ Some c → IsAllowed t s c
copy_inside_end t s true x c g = cc
copy_inside_end t s false Spent c g = cc
copy_inside_end t s false Trap c g = copy_inside_trap t s (trap_answer t s) c g
copy_inside_end t s false (Fault v) c g = cc

-- the copy at a return goes through windows as they are before it
copy_through_back : (w : World) (x : Option HeldProcess) (s : ℕ) (c : CopyMade) → is_strict w.table.rules ≡ true → option_map (λ (l : HeldProcess). l.slot) x ≡ Some s → copy_at_back w.table x ≡ Some c → IsThroughWindows w.table s c
unfolding table_after_coming_home
copy_through_back w None s c strict e g = cc
copy_through_back w (Some l) s c strict e g =
    let k = (copy_inside_end (table_after_coming_home w.table l) l.slot (is_doomed (process_at w.table l.slot).state) l.out.stop c g).windows strict in
    let through : IsThroughWindows w.table l.slot c = record {
      read = λ n. ap (λ (p : Process). is_open allows_reading (slice_index_or p.windows l.slot None) c.address c.count) (sym (home_at w.table l c.from n)) ∙ k.read n;
      written = λ n. ap (λ (p : Process). is_open allows_writing (slice_index_or p.windows l.slot None) c.place c.count) (sym (home_at w.table l c.to n)) ∙ k.written n;
    } in
    subst (λ z. IsThroughWindows w.table z c) (ap (the_slot s) e) through
  where
    the_slot : ℕ → Option ℕ → ℕ
    the_slot d None = d
    the_slot d (Some t) = t

pub copy_through : (w : World) (a : ℕ) (e : Event) (s : ℕ) (c : CopyMade) → is_strict w.table.rules ≡ true → caller_in w a e ≡ Some s → copy_in w a e ≡ Some c → IsThroughWindows w.table s c
copy_through w a Step s c strict f g = cc
copy_through w a Take s c strict f g = cc
copy_through w a Back s c strict f g = copy_through_back w (held_by w a) s c strict f g
copy_through w a (Line l) s c strict f g = cc
copy_through w a Tick s c strict f g = cc
copy_through w a (Kill k) s c strict f g = cc
copy_through w a (Respawn t) s c strict f g = cc

-- what is copied through a window is in it
in_window : (t : TableState) (s u : ℕ) (o : Option Window) (place count k : ℕ) → window_of t s u ≡ o → is_open allows_writing o place count ≡ true → IsInside place count k → IsOpenToWriting t s k
in_window t s u None place count k f e i = cc
in_window t s u (Some x) place count k f e i =
    let h = true_of_three (allows_writing x.access) (nat_le x.place place) (nat_le (place + count) (x.place + x.count)) e in
    let begins = leb-true x.place place h.1.0 in
    let ends = leb-true (place + count) (x.place + x.count) h.1.1 in
    (u, x, f, h.0, (omega (arith, begins, i.0), omega (arith, ends, i.1)))

open_back : (w : World) (a s k : ℕ) (o : Option HeldProcess) (c : Option CopyMade) → is_strict w.table.rules ≡ true → slot_on w a ≢ Some s → held_by w a ≡ o → copy_at_back w.table o ≡ c → IsInCopy s c k → IsOpenToWriting w.table s k
open_back w a s k o None strict n e g i = absurd i
open_back w a s k None (Some c) strict n e g i = cc
open_back w a s k (Some l) (Some c) strict n e g i =
    let on : slot_on w a ≡ Some l.slot = ap (option_map (λ (y : HeldProcess). y.slot)) e in
    let through = copy_through_back w (Some l) l.slot c strict refl g in
    let written = through.written (λ z. n (on ∙ ap Some (sym z ∙ i.0))) in
    in_window w.table s l.slot (window_of w.table s l.slot) c.place c.count k refl (subst (λ t. is_open allows_writing (window_of w.table t l.slot) c.place c.count ≡ true) i.0 written) i.1

open_to_copies : (w : World) (a : ℕ) (e : Event) (s k : ℕ) → is_strict w.table.rules ≡ true → IsOfOthers w a e s → IsInCopy s (copy_in w a e) k → IsOpenToWriting w.table s k
open_to_copies w a Step s k strict n i = absurd i
open_to_copies w a Take s k strict n i = absurd i
open_to_copies w a Back s k strict n i = open_back w a s k (held_by w a) (copy_at_back w.table (held_by w a)) strict n refl refl i
open_to_copies w a (Line l) s k strict n i = absurd i
open_to_copies w a Tick s k strict n i = absurd i
open_to_copies w a (Kill x) s k strict n i = absurd i
open_to_copies w a (Respawn t) s k strict n i = absurd i

-- ---- a copy is whole

whole_back : (w : World) (x : Option HeldProcess) (c : CopyMade) → copy_at_back w.table x ≡ Some c → length c.bytes ≡ c.count
whole_back w None c g = cc
whole_back w (Some l) c g = (copy_inside_end (table_after_coming_home w.table l) l.slot (is_doomed (process_at w.table l.slot).state) l.out.stop c g).whole

pub copy_whole : (w : World) (a : ℕ) (e : Event) (c : CopyMade) → copy_in w a e ≡ Some c → length c.bytes ≡ c.count
copy_whole w a Step c g = cc
copy_whole w a Take c g = cc
copy_whole w a Back c g = whole_back w (held_by w a) c g
copy_whole w a (Line l) c g = cc
copy_whole w a Tick c g = cc
copy_whole w a (Kill k) c g = cc
copy_whole w a (Respawn t) c g = cc

-- so are the bytes of an entry
entry_whole : (w : World) (a : ℕ) (e : Event) (s place : ℕ) (bytes : List ℕ) (k : IsOfCopy (copy_in w a e) s place bytes) → length bytes ≡ k.copy.count
entry_whole w a e s place bytes k = ap length (sym k.same) ∙ copy_whole w a e k.copy k.is_made

abbrev IsInsideNow : World → CopyMade → Type 0
IsInsideNow w c = c.place + c.count ≤ length (image_now w c.to).memory

image_home : (w : World) (s : ℕ) → IsSound w → is_out (process_at w.table s).state ≡ false → image_now w s ≡ (process_at w.table s).image
image_home w s h n = ap (image_or (get_or (images w.table) s blank)) (not_held w s h n) ∙ image_in w.table s

copy_inside_back : (w : World) (a : ℕ) (x : Option HeldProcess) (c : CopyMade) → IsSound w → held_by w a ≡ x → slot_on w a ≢ Some c.to → copy_at_back w.table x ≡ Some c → IsInsideNow w c
copy_inside_back w a None c h e n g = cc
copy_inside_back w a (Some l) c h e n g =
    let k = copy_inside_end (table_after_coming_home w.table l) l.slot (is_doomed (process_at w.table l.slot).state) l.out.stop c g in
    let other : c.to ≢ l.slot = (λ z. n (ap (option_map (λ (y : HeldProcess). y.slot)) e ∙ ap Some (sym z))) in
    let same = home_at w.table l c.to other in
    let now = image_home w c.to h (ap (λ (p : Process). is_out p.state) (sym same) ∙ k.home) in
    subst (λ (m : Image). c.place + c.count ≤ length m.memory) (sym now) (subst (λ (p : Process). c.place + c.count ≤ length p.image.memory) same k.room)

copy_inside : (w : World) (a : ℕ) (e : Event) (c : CopyMade) → IsSound w → IsOfOthers w a e c.to → copy_in w a e ≡ Some c → IsInsideNow w c
copy_inside w a Step c h n g = cc
copy_inside w a Take c h n g = cc
copy_inside w a Back c h n g = copy_inside_back w a (held_by w a) c h refl n g
copy_inside w a (Line l) c h n g = cc
copy_inside w a Tick c h n g = cc
copy_inside w a (Kill k) c h n g = cc
copy_inside w a (Respawn t) c h n g = cc

copies_of : (w : World) (a : ℕ) (e : Event) (s : ℕ) → IsSound w → IsOfOthers w a e s → Copies (IsOutsideCopy s (copy_in w a e)) (IsOfCopy (copy_in w a e) s) (length (image_now w s).memory)
copies_of w a e s h n = record {
  inside = λ place bytes k.
      let room : k.copy.place + k.copy.count ≤ length (image_now w s).memory = subst (λ z. k.copy.place + k.copy.count ≤ length (image_now w z).memory) k.slot (copy_inside w a e k.copy h (subst (IsOfOthers w a e) (sym k.slot) n) k.is_made) in
      omega (arith, room, k.place, entry_whole w a e s place bytes k);
  outside = λ i place bytes k o. outside_fewer place (length bytes) k.copy.count i (omega (arith, entry_whole w a e s place bytes k)) (subst (λ z. IsOutside z k.copy.count i) k.place (subst (λ z. IsOutsideCopy s z i) k.is_made o k.slot));
}

-- ---- an event of others

blocked_not_out : (st : State) → is_blocked st ≡ true → is_out st ≡ false
blocked_not_out Home h = cc
blocked_not_out Ready h = cc
blocked_not_out Out h = cc
blocked_not_out Doomed h = cc
blocked_not_out Sending h = refl
blocked_not_out Calling h = refl
blocked_not_out (Receiving p) h = refl
blocked_not_out (Awaiting d) h = refl
blocked_not_out (Down c) h = cc

no_respawn : (w : World) (a : ℕ) (e : Event) (s : ℕ) → IsOfOthers w a e s → IsNoRespawnOf s e
no_respawn w a Step s n = tt
no_respawn w a Take s n = tt
no_respawn w a Back s n = tt
no_respawn w a (Line l) s n = tt
no_respawn w a Tick s n = tt
no_respawn w a (Kill k) s n = tt
no_respawn w a (Respawn t) s n = n

-- who waits has its buffer inside
waits_with_room : (w : World) (s : ℕ) → IsSound w → is_blocked (process_at w.table s).state ≡ true → HasRoom (image_now w s)
waits_with_room w s h b = subst HasRoom (sym (image_home w s h (blocked_not_out (process_at w.table s).state b))) ((h.table.each s).process.buffer b)

true_false : (b : Bool) → b ≡ false → b ≡ true → ⊥
true_false true e f = cc
true_false false e f = cc

step_empty : (w : World) (a s : ℕ) (x : Option HeldProcess) → held_by w a ≡ x → slot_on w a ≢ Some s → diary_of_step s x ≡ []
step_empty w a s None e n = refl
step_empty w a s (Some l) e n = ap (λ b. cond b (Ran ∷ []) []) (ne_eqb l.slot s (λ g. n (ap (option_map (λ (y : HeldProcess). y.slot)) e ∙ ap Some g)))

step_leaves : (w : World) (a : ℕ) (e : Event) (s : ℕ) → IsOfOthers w a e s → e ≡ Step → diary w a e s ≡ []
step_leaves w a e s n g =
    subst (λ x. diary w a x s ≡ []) (sym g) (step_empty w a s (held_by w a) refl (subst (λ x. IsOfOthers w a x s) g n))

-- a byte of who waits is outside of its buffer, or in it
in_buffer_or : (waits : Bool) (place k : ℕ) → ((waits ≡ true) × IsInside place 36 k) ⊎ (waits ≡ true → IsOutside place 36 k)
in_buffer_or false place k = inr (λ z. cc)
in_buffer_or true place k = elim (inside_or place 36 k) [
  | inl i ↦ inl (refl, i)
  | inr o ↦ inr (λ z. o)
]

pub others_leave : (w : World) (a : ℕ) (e : Event) (s : ℕ) → IsSound w → event_refusal w a e ≡ None → s < length (images w.table) → IsOfOthers w a e s → LeavesImage w a e s
others_leave w a e s h f b n =
    let waits = is_blocked (process_at w.table s).state ≡ true in
    let O = IsOutsideCopy s (copy_in w a e) in
    let C = IsOfCopy (copy_in w a e) s in
    let items : AllMild waits C (diary w a e s) = all_mild w a e s (diary w a e s) n (event_entries w a e s h) in
    let now : image_now (world_after_event w a e) s ≡ play (diary w a e s) (image_now w s) = event_law w a e s (held_once w h) f b (no_respawn w a e s n) in
    let left : IsLeft waits O (image_now w s) (image_now (world_after_event w a e) s) = subst (IsLeft waits O (image_now w s)) (sym now) (play_left waits O C (diary w a e s) (image_now w s) items (λ k. waits_with_room w s h k) (copies_of w a e s h n)) in
    record {
      bytes = λ k changed. elim (in_buffer_or (is_blocked (process_at w.table s).state) (image_now w s).regs.ebx k) [
        | inl i ↦ inl i
        | inr o ↦ elim (in_copy_or s (copy_in w a e) k) [
          | inl i ↦ inr i
          | inr u ↦ absurd (changed (left.bytes k o u))
        ]
      ];
      windows = λ strict k i. open_to_copies w a e s k strict n i;
      limit = left.limit;
      rest = left.rest;
      result = λ z. left.result (true_false (is_blocked (process_at w.table s).state) z);
      step = λ g. now ∙ ap (λ items. play items (image_now w s)) (step_leaves w a e s n g);
      whole = λ z m. now ∙ play_nothing waits C (diary w a e s) (image_now w s) (true_false (is_blocked (process_at w.table s).state) z) (λ place bytes. misses (copy_in w a e) s place bytes m) items;
    }
