-- What a spool has to keep: a record writes a byte at most, and only that of a return does; and the console is the end of
-- all that was written.
use Rattle.std.proofs.Common.{◌≡◌, ◌∙◌, ℕ, zero, suc, ◌<◌, ◌+◌, ◌-◌, ◌++◌, ◌≤◌, true, true≢false, List, [], ◌∷◌, drop, take, length, min, replicate, Option, Some, None, slice_get, refl, ap, sym, subst, arith, append_assoc, length-drop}
use Rattle.std.proofs.lemmas.List.{append-nil, drop-append-le, drop-drop, drop_min, length-append, take_min}
use Rattle.circular_buffer.specs.Buffer.{keep_last}
use Rattle.mx_kcall.specs.Service.{Service}
use Rattle.mx_proc.specs.Console.{ConsoleState, empty_console}
use Rattle.mx_proc.specs.declared.windows.Rules.{Rules}
use Rattle.mx_machine.specs.declared.events.Event.{Event}
use Rattle.mx_machine.specs.declared.events.Event.TheVariants as events
use Rattle.mx_machine.specs.declared.history.Recorded.{Recorded}
use Rattle.mx_machine.specs.declared.history.Recorded.TheVariants as recorded
use Rattle.mx_machine.specs.Agrees.{IsBoot}
use Rattle.mx_machine.specs.Boot.{first_table, world_at_boot_with}
use Rattle.mx_machine.specs.History.{BootAndHistory, events_of, events_of_history, replay, with_record, world_after_events}
use Rattle.mx_machine.specs.KernelState.{is_for_all, recorded_as}
use Rattle.mx_machine.specs.Move.{world_after_back, world_after_event, world_after_line, world_after_respawn, world_after_step, world_after_take}
use Rattle.mx_machine.specs.Sound.{IsSound}
use Rattle.mx_machine.specs.World.{World, HeldProcess}
use Rattle.mx_machine.proofs.ReplayLemmas.{unfold_last}
use Rattle.mx_spool.specs.Spools.{IsBehind, IsSpoolOf, SpoolView}
use Rattle.mx_spool.specs.Written.{console_of, console_of_history}
use Rattle.mx_spool.proofs.ConsoleLemmas.{pushed, with_byte}
use Rattle.mx_spool.proofs.WrittenLemmas.{all_pushed, backs, backs_append, console_at, few_written, no_length, none_written, written_more}

-- ---- one record more

abbrev written : BootAndHistory → List ℕ
written k = console_of_history k.boot k.history

written_then : (k : BootAndHistory) (a : ℕ) (r : Recorded) → written (with_record k a r) ≡ written k ++ console_of (world_after_events k.boot (events_of_history k.history)) (events_of a r)
written_then k a r =
    ap (console_of k.boot) (unfold_last k.history (record { actor = a; event = r })) ∙ written_more (events_of_history k.history) (events_of a r ++ []) k.boot
    ∙ ap (λ (xs : List (ℕ × Event)). written k ++ console_of (world_after_events k.boot (events_of_history k.history)) xs) (append-nil (events_of a r))

silent : (k n : BootAndHistory) (s : SpoolView) (a : ℕ) (r : Recorded) → backs (events_of a r) ≤ 0 → n ≡ with_record k a r → IsSpoolOf k s → IsSpoolOf n s
silent k n s a r none made is =
    let w = world_after_events k.boot (events_of_history k.history) in
    let same : written (with_record k a r) ≡ written k = written_then k a r ∙ ap (λ (l : List ℕ). written k ++ l) (none_written (events_of a r) w none) ∙ append-nil (written k) in
    subst (λ (m : BootAndHistory). IsSpoolOf m s) (sym made) (record { bytes = is.bytes ∙ sym same; room = is.room })

-- a take writes nothing
pub spool_at_take : (k n : BootAndHistory) (s : SpoolView) (a : ℕ) → n ≡ with_record k a recorded.Take → IsSpoolOf k s → IsSpoolOf n s
spool_at_take k n s a made is = silent k n s a recorded.Take (omega arith) made is

none_by : (a : ℕ) (e : Event) → is_for_all e ≡ true → backs (events_of a (recorded_as e)) ≤ 0
none_by a (events.Line l) h = omega arith
none_by a events.Tick h = omega arith
none_by a (events.Kill e) h = omega arith
none_by a (events.Respawn s) h = omega arith
none_by a events.Step h = absurd (true≢false (sym h))
none_by a events.Take h = absurd (true≢false (sym h))
none_by a events.Back h = absurd (true≢false (sym h))

-- nor does an event that any actor may make
pub spool_at_event : (k n : BootAndHistory) (s : SpoolView) (a : ℕ) (e : Event) → is_for_all e ≡ true → n ≡ with_record k a (recorded_as e) → IsSpoolOf k s → IsSpoolOf n s
spool_at_event k n s a e h made is = silent k n s a (recorded_as e) (none_by a e h) made is

steps_back : (a n : ℕ) → backs (replicate n (a, events.Step)) ≡ 0
steps_back a zero = refl
steps_back a (suc n) = let e = steps_back a n in omega (arith, e)

-- a return writes a byte at most
pub behind_at_back : (k n : BootAndHistory) (s : SpoolView) (a c : ℕ) → n ≡ with_record k a (recorded.Back c) → IsSpoolOf k s → IsBehind n s
behind_at_back k n s a c made is =
    let w = world_after_events k.boot (events_of_history k.history) in
    let more = console_of w (events_of a (recorded.Back c)) in
    let few = few_written (events_of a (recorded.Back c)) w in
    let all : backs (events_of a (recorded.Back c)) ≡ backs (replicate c (a, events.Step)) + 1 = backs_append (replicate c (a, events.Step)) ((a, events.Back) ∷ []) in
    let none = steps_back a c in
    subst (λ (m : BootAndHistory). IsBehind m s) (sym made) (record {
      more = more;
      few = omega (arith, few, all, none);
      bytes = written_then k a (recorded.Back c) ∙ ap (λ (l : List ℕ). l ++ more) (sym is.bytes);
      room = is.room;
    })

-- ---- the console is the end of what was written

-- the console of a machine that has written these bytes
abbrev pub console_with : List ℕ → ConsoleState
console_with bytes = record { kept = keep_last 4096 bytes; count = length bytes }

kept_then : (n : ℕ) (xs : List ℕ) (b : ℕ) → keep_last n (keep_last n xs ++ b ∷ []) ≡ keep_last n (xs ++ b ∷ [])
kept_then n xs b =
    let cut = length xs - n in
    let last : keep_last n xs ++ b ∷ [] ≡ drop cut (xs ++ b ∷ []) = sym (drop-append-le cut xs (b ∷ []) (omega arith)) in
    let long : length (xs ++ b ∷ []) ≡ length xs + 1 = length-append xs (b ∷ []) in
    let left : length (drop cut (xs ++ b ∷ [])) ≡ length (xs ++ b ∷ []) - cut = length-drop cut (xs ++ b ∷ []) in
    let at : cut + (length (drop cut (xs ++ b ∷ [])) - n) ≡ length (xs ++ b ∷ []) - n = omega (arith, long, left) in
    ap (keep_last n) last ∙ drop-drop (length (drop cut (xs ++ b ∷ [])) - n) cut (xs ++ b ∷ []) ∙ ap (λ (i : ℕ). drop i (xs ++ b ∷ [])) at

byte_then : (xs : List ℕ) (b : ℕ) → with_byte (console_with xs) b ≡ console_with (xs ++ b ∷ [])
byte_then xs b =
    ap (λ (l : List ℕ). let c : ConsoleState = record { kept = l; count = length xs + 1 } in c) (kept_then 4096 xs b)
    ∙ ap (λ (i : ℕ). let c : ConsoleState = record { kept = keep_last 4096 (xs ++ b ∷ []); count = i } in c) (sym (length-append xs (b ∷ [])))

bytes_then : (bs xs : List ℕ) → pushed (console_with xs) bs ≡ console_with (xs ++ bs)
bytes_then [] xs = ap console_with (sym (append-nil xs))
bytes_then (b ∷ bs) xs =
    ap (λ (c : ConsoleState). pushed c bs) (byte_then xs b) ∙ bytes_then bs (xs ++ b ∷ []) ∙ ap console_with (append_assoc xs (b ∷ []) bs)

first_console : (rules : Rules) (services : List Service) (cpus others capacity : ℕ) → console_at (world_at_boot_with rules services cpus others capacity) ≡ empty_console
unfolding first_table
first_console rules services cpus others capacity = refl

-- THE CONSOLE is the last 4,096 bytes of what the history wrote, and its count their number
pub console_is : (k : BootAndHistory) → IsBoot k.boot → console_at (replay k) ≡ console_with (written k)
unfolding replay
console_is k booted =
    let b = k.boot in
    let empty = ap console_at booted ∙ first_console b.table.rules b.services (length b.cpus) b.others b.capacity in
    all_pushed (events_of_history k.history) b ∙ ap (λ (c : ConsoleState). pushed c (written k)) empty ∙ bytes_then (written k) []

-- ---- its last byte

get_last : (xs : List ℕ) (b : ℕ) → slice_get (xs ++ b ∷ []) (length xs) ≡ Some b
get_last [] b = refl
get_last (x ∷ xs) b = get_last xs b

pub last_kept : (xs : List ℕ) (b : ℕ) → slice_get (keep_last 4096 (xs ++ b ∷ [])) (min (length (xs ++ b ∷ [])) 4096 - 1) ≡ Some b
last_kept xs b =
    let cut = length (xs ++ b ∷ []) - 4096 in
    let long : length (xs ++ b ∷ []) ≡ length xs + 1 = length-append xs (b ∷ []) in
    let parted : drop cut (xs ++ b ∷ []) ≡ drop cut xs ++ b ∷ [] = drop-append-le cut xs (b ∷ []) (omega (arith, long)) in
    let left : length (drop cut xs) ≡ length xs - cut = length-drop cut xs in
    let at : min (length (xs ++ b ∷ [])) 4096 - 1 ≡ length (drop cut xs) = omega (arith, long, left) in
    ap (λ (i : ℕ). slice_get (keep_last 4096 (xs ++ b ∷ [])) i) at ∙ ap (λ (l : List ℕ). slice_get l (length (drop cut xs))) parted ∙ get_last (drop cut xs) b

-- ---- room

by_step : (w : World) (a : ℕ) (x : Option HeldProcess) → (world_after_step w a x).capacity ≡ w.capacity
by_step w a None = refl
by_step w a (Some l) = refl

by_take : (w : World) (a : ℕ) (s : Option ℕ) → (world_after_take w a s).capacity ≡ w.capacity
by_take w a None = refl
by_take w a (Some s) = refl

by_back : (w : World) (a : ℕ) (x : Option HeldProcess) → (world_after_back w a x).capacity ≡ w.capacity
by_back w a None = refl
by_back w a (Some l) = refl

by_line : (w : World) (l : ℕ) (owner : Option ℕ) → (world_after_line w l owner).capacity ≡ w.capacity
by_line w l None = refl
by_line w l (Some s) = refl

by_respawn : (w : World) (s : ℕ) (v : Option Service) → (world_after_respawn w s v).capacity ≡ w.capacity
by_respawn w s None = refl
by_respawn w s (Some v) = refl

by_event : (w : World) (a : ℕ) (e : Event) → (world_after_event w a e).capacity ≡ w.capacity
unfolding world_after_event
by_event w a events.Step = by_step w a _
by_event w a events.Take = by_take w a _
by_event w a events.Back = by_back w a _
by_event w a (events.Line l) = by_line w l _
by_event w a events.Tick = refl
by_event w a (events.Kill e) = refl
by_event w a (events.Respawn s) = by_respawn w s _

by_events : (xs : List (ℕ × Event)) (w : World) → (world_after_events w xs).capacity ≡ w.capacity
by_events [] w = refl
by_events (x ∷ xs) w = by_events xs (world_after_event w x.0 x.1) ∙ by_event w x.0 x.1

-- ---- what a spool that is behind lacks

-- a kernel's console, in numbers
counted : (k : BootAndHistory) (s : SpoolView) (con : ConsoleState) → IsBoot k.boot → con ≡ console_at (replay k) → (h : IsBehind k s) → con.count ≡ length s.bytes + length h.more
counted k s con booted is h = ap (λ (c : ConsoleState). c.count) (is ∙ console_is k booted) ∙ ap length h.bytes ∙ length-append s.bytes h.more

pub lacks_none : (k : BootAndHistory) (s : SpoolView) (con : ConsoleState) → IsBoot k.boot → IsBehind k s → con ≡ console_at (replay k) → con.count ≤ length s.bytes → IsSpoolOf k s
lacks_none k s con booted h is few =
    let count = counted k s con booted is h in
    let none : h.more ≡ [] = no_length h.more (omega (arith, count, few)) in
    record { bytes = sym (append-nil s.bytes) ∙ ap (λ (l : List ℕ). s.bytes ++ l) (sym none) ∙ sym h.bytes; room = h.room }

-- it is the last of what was written, and of what the console keeps
abbrev pub IsLast : BootAndHistory → SpoolView → ConsoleState → ℕ → Type 0
IsLast k s con b = (written k ≡ s.bytes ++ b ∷ []) × (slice_get con.kept (min con.count 4096 - 1) ≡ Some b)

last_by : (k : BootAndHistory) (s : SpoolView) (con : ConsoleState) (more : List ℕ) → con ≡ console_with (written k) → written k ≡ s.bytes ++ more → length more ≤ 1 → 0 < length more → (b : ℕ) × IsLast k s con b
last_by k s con [] is all few some = absurd (omega (arith, some))
last_by k s con (b ∷ c ∷ more) is all few some = absurd (omega (arith, few))
last_by k s con (b ∷ []) is all few some =
    (b, (all, ap (λ (c : ConsoleState). slice_get c.kept (min c.count 4096 - 1)) (is ∙ ap console_with all) ∙ last_kept s.bytes b))

pub lacks_one : (k : BootAndHistory) (s : SpoolView) (con : ConsoleState) → IsBoot k.boot → IsBehind k s → con ≡ console_at (replay k) → length s.bytes < con.count → (b : ℕ) × IsLast k s con b
lacks_one k s con booted h is more =
    let count = counted k s con booted is h in
    last_by k s con h.more (is ∙ console_is k booted) h.bytes h.few (omega (arith, count, more))

-- there is room for it
pub has_room : (k : BootAndHistory) (s : SpoolView) (con : ConsoleState) → IsSound (replay k) → IsBehind k s → con ≡ console_at (replay k) → length s.bytes < con.count → length s.bytes < s.room
unfolding replay
has_room k s con sound h is more =
    let count = ap (λ (c : ConsoleState). c.count) is in
    let same = by_events (events_of_history k.history) k.boot in
    let room = h.room in
    let written = sound.holds.console in
    let records = sound.holds.room in
    omega (arith, count, same, room, written, records, more)

-- ---- part of a list

pub part_is : (from most : ℕ) (xs rest part : List ℕ) → rest ≡ drop (min from (length xs)) xs → part ≡ take (min most (length rest)) rest → part ≡ take most (drop from xs)
part_is from most xs rest part a b = b ∙ take_min most rest ∙ ap (take most) (a ∙ drop_min from xs)
