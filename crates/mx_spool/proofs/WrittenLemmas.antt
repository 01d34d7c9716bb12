-- What events write to the console, one after another, is what the console has more in the end: if that isn't more than
-- it keeps.
use Rattle.std.proofs.Common.{◌≡◌, ◌∙◌, ℕ, suc, ◌+◌, ◌-◌, ◌++◌, ◌≤◌, List, [], ◌∷◌, drop, length, refl, ap, sym, subst, arith, append_assoc}
use Rattle.std.proofs.Math.Seq.{drop-append_seam}
use Rattle.std.proofs.lemmas.List.{append-nil, drop-append-le, length-append}
use Rattle.mx_proc.specs.Console.{ConsoleState}
use Rattle.mx_machine.specs.declared.events.Event.{Event}
use Rattle.mx_machine.specs.declared.events.Event.TheVariants.{Step, Take, Back, Line, Tick, Kill, Respawn}
use Rattle.mx_machine.specs.History.{world_after_events}
use Rattle.mx_machine.specs.Move.{world_after_event}
use Rattle.mx_machine.specs.World.{World}
use Rattle.mx_spool.specs.Written.{console_of, grown}
use Rattle.mx_spool.proofs.ConsoleLemmas.{EventWrites, backs_of, event_writes, pushed, with_byte}

-- ---- a console with bytes more

seam : (n : ℕ) (xs ys : List ℕ) → n ≡ length xs → drop n (xs ++ ys) ≡ ys
seam n xs ys e = ap (λ k. drop k (xs ++ ys)) e ∙ drop-append_seam xs ys

-- what is kept ends with the bytes that came last
pushed_ends : (bs : List ℕ) (c : ConsoleState) (front last : List ℕ) → c.kept ≡ front ++ last → length (last ++ bs) ≤ 4096 → (left : List ℕ) × ((pushed c bs).kept ≡ left ++ (last ++ bs))
pushed_ends [] c front last e fits = (front, e ∙ ap (λ (l : List ℕ). front ++ l) (sym (append-nil last)))
pushed_ends (b ∷ bs) c front last e fits =
    let n = length (c.kept ++ b ∷ []) - 4096 in
    let long : length (last ++ b ∷ bs) ≡ length last + suc (length bs) = length-append last (b ∷ bs) in
    let all : length (c.kept ++ b ∷ []) ≡ length c.kept + 1 = length-append c.kept (b ∷ []) in
    let had : length c.kept ≡ length front + length last = ap length e ∙ length-append front last in
    let cut : n ≤ length front = omega (arith, long, all, had, fits) in
    let kept : (with_byte c b).kept ≡ drop n front ++ (last ++ b ∷ []) =
    ap (λ (l : List ℕ). drop n l) (ap (λ (l : List ℕ). l ++ b ∷ []) e ∙ append_assoc front last (b ∷ [])) ∙ drop-append-le n front (last ++ b ∷ []) cut in
    let same : (last ++ b ∷ []) ++ bs ≡ last ++ b ∷ bs = append_assoc last (b ∷ []) bs in
    let rest = pushed_ends bs (with_byte c b) (drop n front) (last ++ b ∷ []) kept (subst (λ (l : List ℕ). length l ≤ 4096) (sym same) fits) in
    (rest.0, rest.1 ∙ ap (λ (l : List ℕ). rest.0 ++ l) same)

pushed_count : (bs : List ℕ) (c : ConsoleState) → (pushed c bs).count ≡ c.count + length bs
pushed_count [] c = omega arith
pushed_count (b ∷ bs) c = let e = pushed_count bs (with_byte c b) in omega (arith, e)

pushed_more : (xs ys : List ℕ) (c : ConsoleState) → pushed c (xs ++ ys) ≡ pushed (pushed c xs) ys
pushed_more [] ys c = refl
pushed_more (x ∷ xs) ys c = pushed_more xs ys (with_byte c x)

grown_pushed : (c d : ConsoleState) (bs : List ℕ) → d ≡ pushed c bs → length bs ≤ 4096 → grown c.count d ≡ bs
grown_pushed c d bs e fits =
    let p = pushed c bs in
    let ends = pushed_ends bs c c.kept [] (sym (append-nil c.kept)) fits in
    let more : p.count ≡ c.count + length bs = pushed_count bs c in
    let long : length p.kept ≡ length ends.0 + length bs = ap length ends.1 ∙ length-append ends.0 bs in
    let at : length p.kept - (p.count - c.count) ≡ length ends.0 = omega (arith, more, long) in
    ap (λ (x : ConsoleState). grown c.count x) e ∙ ap (λ (l : List ℕ). drop (length p.kept - (p.count - c.count)) l) ends.1 ∙ seam (length p.kept - (p.count - c.count)) ends.0 bs at

-- ---- events

abbrev pub console_at : World → ConsoleState
console_at w = w.table.devices.console

abbrev bytes_of : World → ℕ × Event → List ℕ
bytes_of w x = grown (console_at w).count (console_at (world_after_event w x.0 x.1))

backs_small : (e : Event) → backs_of e ≤ 1
backs_small Step = omega arith
backs_small Take = omega arith
backs_small Back = omega arith
backs_small (Line l) = omega arith
backs_small Tick = omega arith
backs_small (Kill e) = omega arith
backs_small (Respawn s) = omega arith

one_is : (w : World) (x : ℕ × Event) (h : EventWrites w x.0 x.1) → bytes_of w x ≡ h.0
one_is w x h = let small = backs_small x.1 in grown_pushed (console_at w) (console_at (world_after_event w x.0 x.1)) h.0 h.2 (omega (arith, h.1, small))

one_pushed : (w : World) (x : ℕ × Event) → console_at (world_after_event w x.0 x.1) ≡ pushed (console_at w) (bytes_of w x)
one_pushed w x = let h = event_writes w x.0 x.1 in h.2 ∙ ap (pushed (console_at w)) (sym (one_is w x h))

one_few : (w : World) (x : ℕ × Event) → length (bytes_of w x) ≤ backs_of x.1
one_few w x = let h = event_writes w x.0 x.1 in subst (λ (l : List ℕ). length l ≤ backs_of x.1) (sym (one_is w x h)) h.1

-- how many of these events are returns
abbrev pub backs : List (ℕ × Event) → ℕ
backs [] = 0
backs (x ∷ xs) = backs_of x.1 + backs xs

pub backs_append : (xs ys : List (ℕ × Event)) → backs (xs ++ ys) ≡ backs xs + backs ys
backs_append [] ys = omega arith
backs_append (x ∷ xs) ys = let e = backs_append xs ys in omega (arith, e)

pub all_pushed : (xs : List (ℕ × Event)) (w : World) → console_at (world_after_events w xs) ≡ pushed (console_at w) (console_of w xs)
all_pushed [] w = refl
all_pushed (x ∷ xs) w =
    let after = world_after_event w x.0 x.1 in
    all_pushed xs after ∙ ap (λ (c : ConsoleState). pushed c (console_of after xs)) (one_pushed w x) ∙ sym (pushed_more (bytes_of w x) (console_of after xs) (console_at w))

pub few_written : (xs : List (ℕ × Event)) (w : World) → length (console_of w xs) ≤ backs xs
few_written [] w = omega arith
few_written (x ∷ xs) w =
    let after = world_after_event w x.0 x.1 in
    let one = one_few w x in
    let more = few_written xs after in
    let all : length (bytes_of w x ++ console_of after xs) ≡ length (bytes_of w x) + length (console_of after xs) = length-append (bytes_of w x) (console_of after xs) in
    omega (arith, one, more, all)

-- WHAT THE CONSOLE HAS MORE after events is what they wrote
pub grown_is_written : (xs : List (ℕ × Event)) (w : World) → backs xs ≤ 4096 → grown (console_at w).count (console_at (world_after_events w xs)) ≡ console_of w xs
grown_is_written xs w h =
    let few = few_written xs w in
    grown_pushed (console_at w) (console_at (world_after_events w xs)) (console_of w xs) (all_pushed xs w) (omega (arith, few, h))

pub no_length : (l : List ℕ) → length l ≤ 0 → l ≡ []
no_length [] h = refl
no_length (x ∷ l) h = absurd (omega (arith, h))

pub none_written : (xs : List (ℕ × Event)) (w : World) → backs xs ≤ 0 → console_of w xs ≡ []
none_written xs w h = let few = few_written xs w in no_length (console_of w xs) (omega (arith, few, h))

-- events that write nothing leave the count
pub count_stays : (xs : List (ℕ × Event)) (w : World) → backs xs ≤ 0 → (console_at (world_after_events w xs)).count ≡ (console_at w).count
count_stays xs w h = ap (λ (c : ConsoleState). c.count) (all_pushed xs w ∙ ap (pushed (console_at w)) (none_written xs w h))

pub written_more : (xs ys : List (ℕ × Event)) (w : World) → console_of w (xs ++ ys) ≡ console_of w xs ++ console_of (world_after_events w xs) ys
written_more [] ys w = refl
written_more (x ∷ xs) ys w =
    let after = world_after_event w x.0 x.1 in
    ap (λ (l : List ℕ). bytes_of w x ++ l) (written_more xs ys after) ∙ sym (append_assoc (bytes_of w x) (console_of after xs) (console_of (world_after_events after xs) ys))

-- and then others that write nothing
pub then_none : (xs ys : List (ℕ × Event)) (w : World) → backs ys ≤ 0 → console_of w (xs ++ ys) ≡ console_of w xs
then_none xs ys w h =
    written_more xs ys w ∙ ap (λ (l : List ℕ). console_of w xs ++ l) (none_written ys (world_after_events w xs) h) ∙ append-nil (console_of w xs)
