-- Deliveries that were made are the last of those that are recorded, and the facts of a transition have them for their
-- slots.
use Rattle.std.proofs.Common.{◌≡◌, ◌≢◌, ◌∙◌, ℕ, zero, suc, ◌+◌, ◌-◌, ◌<◌, ◌≤◌, ◌==◌, ◌&&◌, ◌||◌, nat_lt, Bool, true, false, cond, List, [], ◌∷◌, ◌++◌, append_assoc, length, length-append, length-drop, map, filter, drop, Some, None, refl, sym, ap, get_or, slice_get, arith}
use Rattle.std.specs.List.{count_by, range_with_len}
use Rattle.std.proofs.lemmas.Bool.{eqb-false, eqb-true, lt-ltb, ltb-false, ltb-true, ne_eqb}
use Rattle.std.proofs.lemmas.List.{append-nil, drop-append-le}
use Rattle.std.proofs.lemmas.List.FromFn.{get_or-map-range_with_len}
use Rattle.std.proofs.lemmas.List.Sums.{length-filter}
use Rattle.std.proofs.Math.Nat.{min-eq_left}
use Rattle.circular_buffer.specs.Buffer.{keep_last}
use Rattle.mx_proc.specs.declared.deliveries.Delivery.{Delivery}
use Rattle.mx_look.specs.Kept.{kept_count, latest, latest_deliveries}
use Rattle.mx_look.specs.declared.transition.Transition.{Transition}
use Rattle.mx_look.specs.Deliveries.{delivery_to, got_from}
use Rattle.mx_look.specs.Going.{got}
use Rattle.mx_laws.specs.Made.{slot_to, told_of_slot, told_of_slots, with_slot}
use Rattle.mx_laws.proofs.Keeping.{keep}

-- ---- what is recorded ends with what was made

-- a list that ends with these
pub record Ends (xs ds : List Delivery) : Type 0 where
  pub first : List Delivery
  pub whole : xs ≡ first ++ ds

keep_ends : (ds es first : List Delivery) → length es + length ds ≤ 1024 → Ends (keep (first ++ es) ds) (es ++ ds)
keep_ends [] es first few = record { first = first; whole = ap (λ l. first ++ l) (sym (append-nil es)) }
keep_ends (d ∷ ds) es first few =
    let more = es ++ d ∷ [] in
    let long : length more ≡ length es + 1 = length-append es (d ∷ []) in
    let all = (first ++ es) ++ d ∷ [] in
    let n = length all - 1024 in
    let joined : all ≡ first ++ more = append_assoc first es (d ∷ []) in
    let within : n ≤ length first = omega (arith, few, long, ap length joined, length-append first more) in
    let left : keep_last 1024 all ≡ drop n first ++ more = ap (drop n) joined ∙ drop-append-le n first more within in
    let rest = keep_ends ds more (drop n first) (omega (arith, few, long)) in
    record { first = rest.first; whole = ap (λ l. keep l ds) left ∙ rest.whole ∙ ap (λ l. rest.first ++ l) (append_assoc es (d ∷ []) ds) }

pub made_last : (xs ds : List Delivery) → length ds ≤ 1024 → Ends (keep xs ds) ds
made_last xs ds few =
    let ends = keep_ends ds [] xs (omega (arith, few)) in
    record { first = ends.first; whole = ap (λ l. keep l ds) (sym (append-nil xs)) ∙ ends.whole }

keep_short : (ds xs : List Delivery) → length xs ≤ 1024 → length (keep xs ds) ≤ 1024
keep_short [] xs few = few
keep_short (d ∷ ds) xs few =
    let all = xs ++ d ∷ [] in
    keep_short ds (keep_last 1024 all) (omega (arith, length-drop (length all - 1024) all))

-- of lists that are longer only the last 1,024 stay
pub kept_short : (xs ds : List Delivery) (d : Delivery) → length (keep xs (d ∷ ds)) ≤ 1024
kept_short xs ds d =
    let all = xs ++ d ∷ [] in
    keep_short ds (keep_last 1024 all) (omega (arith, length-drop (length all - 1024) all))

-- if none was recorded before, just what was made is recorded
pub only_made : (ds : List Delivery) → length ds ≤ 1024 → keep [] ds ≡ ds
only_made ds few = by_first ends.first ends.whole
  where
    ends : Ends (keep [] ds) ds
    ends = made_last [] ds few

    keep_long : (es xs : List Delivery) → length (keep xs es) ≤ length xs + length es
    keep_long [] xs = omega arith
    keep_long (e ∷ es) xs =
        let all = xs ++ e ∷ [] in
        omega (arith, keep_long es (keep_last 1024 all), length-drop (length all - 1024) all, length-append xs (e ∷ []))

    by_first : (first : List Delivery) → keep [] ds ≡ first ++ ds → keep [] ds ≡ ds
    by_first [] e = e
    by_first (f ∷ first) e = absurd (omega (arith, keep_long ds [], ap length e, length-append (f ∷ first) ds))

-- ---- the latest ones are seen

seen_at : (xs ys : List Delivery) (d : Delivery) → slice_get (xs ++ d ∷ ys) (length xs) ≡ Some d
seen_at [] ys d = refl
seen_at (x ∷ xs) ys d = seen_at xs ys d

latest_is : (xs first before after : List Delivery) (d : Delivery) (most : ℕ) → xs ≡ first ++ (before ++ d ∷ after) → length xs ≤ 1024 → length after < most
    → latest xs (kept_count xs) most (length after) ≡ Some d
unfolding latest
latest_is xs first before after d most e few asked =
    let long : length xs ≡ length first + (length before + (1 + length after)) = omega (arith, ap length e, length-append first (before ++ d ∷ after), length-append before (d ∷ after)) in
    let count : kept_count xs ≡ length xs = min-eq_left few in
    let place : length xs - 1 - length after ≡ length (first ++ before) = omega (arith, long, length-append first before) in
    ap (λ b. cond (b && nat_lt (length after) (kept_count xs)) (slice_get xs (kept_count xs - 1 - length after)) None) (lt-ltb (length after) most asked)
    ∙ ap (λ n. cond (nat_lt (length after) n) (slice_get xs (n - 1 - length after)) None) count
    ∙ ap (λ b. cond b (slice_get xs (length xs - 1 - length after)) None) (lt-ltb (length after) (length xs) (omega (arith, long)))
    ∙ ap (slice_get xs) place
    ∙ ap (λ l. slice_get l (length (first ++ before))) (e ∙ sym (append_assoc first before (d ∷ after)))
    ∙ seen_at (first ++ before) after d

pub latest_seen : (xs first before after : List Delivery) (d : Delivery) (most : ℕ) → xs ≡ first ++ (before ++ d ∷ after) → length xs ≤ 1024 → length after < most → length after < 32
    → get_or (latest_deliveries xs most) (length after) None ≡ Some d
unfolding latest_deliveries
latest_seen xs first before after d most e few asked lt =
    get_or-map-range_with_len (latest xs (kept_count xs) most) 0 32 (length after) (length after) None lt (omega arith) ∙ latest_is xs first before after d most e few asked

-- ---- slots in order

-- deliveries to slots from one on, below another, each slot once and in order
abbrev pub Ascend : ℕ → ℕ → List Delivery → Type 0
Ascend s n [] = Unit {0}
Ascend s n (d ∷ ds) = (s ≤ slot_to d) × (slot_to d < n) × Ascend (slot_to d + 1) n ds

-- whether one is to a slot
abbrev pub is_to : ℕ → List Delivery → Bool
is_to q [] = false
is_to q (d ∷ ds) = (slot_to d == q) || is_to q ds

-- from a later slot on
pub ascend_from : (s r n : ℕ) (ds : List Delivery) → r ≤ s → Ascend s n ds → Ascend r n ds
ascend_from s r n [] le h = tt
ascend_from s r n (d ∷ ds) le h = (omega (arith, le, h.0), h.1, h.2)

-- below a higher bound
pub ascend_within : (s n m : ℕ) (ds : List Delivery) → n ≤ m → Ascend s n ds → Ascend s m ds
ascend_within s n m [] le h = tt
ascend_within s n m (d ∷ ds) le h = (h.0, omega (arith, le, h.1), ascend_within (slot_to d + 1) n m ds le h.2)

not_below : (s n q : ℕ) (ds : List Delivery) → q < s → Ascend s n ds → is_to q ds ≡ false
not_below s n q [] lt h = refl
not_below s n q (d ∷ ds) lt h =
    ap (λ b. b || is_to q ds) (ne_eqb (slot_to d) q (λ e. omega (arith, e, lt, h.0)))
    ∙ not_below (slot_to d + 1) n q ds (omega (arith, lt, h.0)) h.2

pub not_beyond : (s n q : ℕ) (ds : List Delivery) → n ≤ q → Ascend s n ds → is_to q ds ≡ false
not_beyond s n q [] le h = refl
not_beyond s n q (d ∷ ds) le h =
    ap (λ b. b || is_to q ds) (ne_eqb (slot_to d) q (λ e. omega (arith, e, le, h.1)))
    ∙ not_beyond (slot_to d + 1) n q ds le h.2

pub ascend_length : (s n : ℕ) (ds : List Delivery) → s ≤ n → Ascend s n ds → length ds + s ≤ n
ascend_length s n [] le h = omega (arith, le)
ascend_length s n (d ∷ ds) le h = omega (arith, ascend_length (slot_to d + 1) n ds (omega (arith, h.1)) h.2, h.0)

-- ---- the deliveries in the facts

-- which slots got one, from a slot on
abbrev Gets : Transition → ℕ → List Delivery → Type 0
Gets x s ds = (q : ℕ) → s ≤ q → q < 32 → got x q ≡ is_to q ds

later_gets : (x : Transition) (s : ℕ) (ds : List Delivery) → Gets x s ds → Gets x (s + 1) ds
later_gets x s ds h q le lt = h q (omega (arith, le)) lt

rest_gets : (x : Transition) (s n : ℕ) (d : Delivery) (ds : List Delivery) → slot_to d ≡ s → Gets x s (d ∷ ds) → Gets x (s + 1) ds
rest_gets x s n d ds e h q le lt = h q (omega (arith, le)) lt ∙ ap (λ b. b || is_to q ds) (ne_eqb (slot_to d) q (λ f. omega (arith, e, f, le)))

above : (a b : ℕ) → a ≤ b → b ≢ a → a + 1 ≤ b
above a b le n = by_bool (nat_lt a b) refl
  where
    by_bool : (c : Bool) → nat_lt a b ≡ c → a + 1 ≤ b
    by_bool true e = let lt = ltb-true a b e in omega (arith, lt)
    by_bool false e = let no = ltb-false a b e in absurd (n (omega (arith, le, no)))

count_is : (x : Transition) (n s : ℕ) (ds : List Delivery) → s + n ≡ 32 → Ascend s 32 ds → Gets x s ds → length (filter (got x) (range_with_len s n)) ≡ length ds
count_is x zero s [] e h g = refl
count_is x zero s (d ∷ ds) e h g = absurd (omega (arith, e, h.0, h.1))
count_is x (suc n) s [] e h g =
    ap (λ b. length (cond b (s ∷ filter (got x) (range_with_len (s + 1) n)) (filter (got x) (range_with_len (s + 1) n)))) (g s (omega arith) (omega (arith, e)))
    ∙ count_is x n (s + 1) [] (omega (arith, e)) tt (later_gets x s [] g)
count_is x (suc n) s (d ∷ ds) e h g = by_slot (slot_to d == s) refl (λ es. count_is x n (s + 1) es (omega (arith, e)))
  where
    rest : List ℕ
    rest = filter (got x) (range_with_len (s + 1) n)

    by_slot : (b : Bool) → (slot_to d == s) ≡ b → ((es : List Delivery) → Ascend (s + 1) 32 es → Gets x (s + 1) es → length rest ≡ length es)
        → length (cond (got x s) (s ∷ rest) rest) ≡ suc (length ds)
    by_slot true f later =
        let own : slot_to d ≡ s = eqb-true (slot_to d) s f in
        ap (λ c. length (cond c (s ∷ rest) rest)) (g s (omega arith) (omega (arith, e)) ∙ ap (λ c. c || is_to s ds) f)
        ∙ ap (λ k. suc k) (later ds (ascend_from (slot_to d + 1) (s + 1) 32 ds (omega (arith, own)) h.2) (rest_gets x s n d ds own g))
    by_slot false f later =
        let apart : slot_to d ≢ s = eqb-false (slot_to d) s f in
        let none : is_to s ds ≡ false = not_below (slot_to d + 1) 32 s ds (omega (arith, h.0)) h.2 in
        ap (λ c. length (cond c (s ∷ rest) rest)) (g s (omega arith) (omega (arith, e)) ∙ ap (λ c. c || is_to s ds) f ∙ none)
        ∙ later (d ∷ ds) (above s (slot_to d) h.0 apart, h.1, h.2) (later_gets x s (d ∷ ds) g)

-- the latest deliveries that are seen are these, the last one first
abbrev pub Shows : Transition → List Delivery → Type 0
Shows x ds = (before after : List Delivery) (d : Delivery) → before ++ d ∷ after ≡ ds → get_or x.after.deliveries (length after) None ≡ Some d

got_count : (x : Transition) (n s : ℕ) (ds : List Delivery) → s + n ≡ 32 → Ascend s 32 ds → Gets x s ds → got_from x s ≡ length ds
unfolding got_from
got_count x n s ds e h g =
    let left : 32 - s ≡ n = omega (arith, e) in
    ap (λ k. count_by (got x) (range_with_len s k)) left ∙ sym (length-filter (got x) (range_with_len s n)) ∙ count_is x n s ds e h g

told_none : (x : Transition) (s : ℕ) → got x s ≡ false → told_of_slot s (delivery_to x s) ≡ []
unfolding delivery_to
told_none x s e = ap (λ b. told_of_slot s (cond b (get_or x.after.deliveries (got_from x (s + 1)) None) None)) e

told_one : (x : Transition) (s k : ℕ) (d : Delivery) → got x s ≡ true → got_from x (s + 1) ≡ k → get_or x.after.deliveries k None ≡ Some d → told_of_slot s (delivery_to x s) ≡ (s, d) ∷ []
unfolding delivery_to
told_one x s k d e f h =
    ap (λ b. told_of_slot s (cond b (get_or x.after.deliveries (got_from x (s + 1)) None) None)) e
    ∙ ap (λ i. told_of_slot s (get_or x.after.deliveries i None)) f ∙ ap (told_of_slot s) h

pub told_slots : (x : Transition) (n s : ℕ) (before ds all : List Delivery) → s + n ≡ 32 → Ascend s 32 ds → Gets x s ds → before ++ ds ≡ all → Shows x all → told_of_slots x (range_with_len s n) ≡ map with_slot ds
told_slots x zero s before [] all e h g w shows = refl
told_slots x zero s before (d ∷ ds) all e h g w shows = absurd (omega (arith, e, h.0, h.1))
told_slots x (suc n) s before [] all e h g w shows =
    ap (λ l. l ++ told_of_slots x (range_with_len (s + 1) n)) (told_none x s (g s (omega arith) (omega (arith, e))))
    ∙ told_slots x n (s + 1) before [] all (omega (arith, e)) tt (later_gets x s [] g) w shows
told_slots x (suc n) s before (d ∷ ds) all e h g w shows = by_slot (slot_to d == s) refl (λ first es up next parts. told_slots x n (s + 1) first es all (omega (arith, e)) up next parts shows)
  where
    rest : List (ℕ × Delivery)
    rest = told_of_slots x (range_with_len (s + 1) n)

    by_slot : (b : Bool) → (slot_to d == s) ≡ b → ((first es : List Delivery) → Ascend (s + 1) 32 es → Gets x (s + 1) es → first ++ es ≡ all → rest ≡ map with_slot es)
        → told_of_slot s (delivery_to x s) ++ rest ≡ with_slot d ∷ map with_slot ds
    by_slot true f later =
        let own : slot_to d ≡ s = eqb-true (slot_to d) s f in
        let up : Ascend (s + 1) 32 ds = ascend_from (slot_to d + 1) (s + 1) 32 ds (omega (arith, own)) h.2 in
        let next : Gets x (s + 1) ds = rest_gets x s n d ds own g in
        let one = told_one x s (length ds) d (g s (omega arith) (omega (arith, e)) ∙ ap (λ c. c || is_to s ds) f) (got_count x n (s + 1) ds (omega (arith, e)) up next) (shows before ds d w) in
        ap (λ l. l ++ rest) one
        ∙ ap (λ l. (s, d) ∷ l) (later (before ++ d ∷ []) ds up next (append_assoc before (d ∷ []) ds ∙ w))
        ∙ ap (λ k. (k, d) ∷ map with_slot ds) (sym own)
    by_slot false f later =
        let apart : slot_to d ≢ s = eqb-false (slot_to d) s f in
        let none : is_to s ds ≡ false = not_below (slot_to d + 1) 32 s ds (omega (arith, h.0)) h.2 in
        ap (λ l. l ++ rest) (told_none x s (g s (omega arith) (omega (arith, e)) ∙ ap (λ c. c || is_to s ds) f ∙ none))
        ∙ later before (d ∷ ds) (above s (slot_to d) h.0 apart, h.1, h.2) (later_gets x s (d ∷ ds) g) w
