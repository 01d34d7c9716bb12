-- What comes of a record lies on the paper.
use Rattle.std.proofs.Common.{ℕ, zero, suc, ◌+◌, ◌-◌, ◌<◌, ◌≤◌, ◌%◌, Bool, true, false, Option, Some, None, List, [], ◌∷◌, ◌++◌, nat_lt, arith}
use Rattle.std.specs.Prelude.{if◌then◌else◌, ◌==◌, ◌&&◌, not}
use Rattle.std.specs.List.{All, flat_map, range_with_len}
use Rattle.std.proofs.lemmas.Bool.{cond_both, ltb-true}
use Rattle.std.proofs.lemmas.List.Elements.{All-nil, All-cons}
use Rattle.mx_proc.specs.declared.process.DeathCause.{DeathCause}
use Rattle.mx_proc.specs.declared.process.DeathCause.TheVariants as cause
use Rattle.mx_proc.specs.declared.deliveries.Delivery.{Delivery}
use Rattle.mx_machine.specs.declared.history.Recorded.{Recorded}
use Rattle.mx_machine.specs.declared.history.Recorded.TheVariants as recorded
use Rattle.mx_print_report.specs.declared.doing.Doing.{Doing}
use Rattle.mx_print_report.specs.declared.doing.Doing.TheVariants as doing
use Rattle.mx_look.specs.declared.slot_glances.SlotGlance.{SlotGlance}
use Rattle.mx_look.specs.declared.glance.CpuGlance.{CpuGlance}
use Rattle.mx_look.specs.declared.transition.Transition.{Transition}
use Rattle.mx_look.specs.Transition.{slot_in, held_before}
use Rattle.mx_look.specs.Going.{gone_on, is_acted}
use Rattle.mx_look.specs.Deliveries.{delivery_to}
use Rattle.mx_app_draw.specs.declared.values.Hint.TheVariants as hint
use Rattle.mx_app_draw.specs.declared.values.ArrowKind.TheVariants as drawn
use Rattle.mx_app_draw.specs.declared.values.LabelKind.TheVariants as written
use Rattle.mx_app_draw.specs.declared.values.Anchor.TheVariants as anchor
use Rattle.mx_app_draw.specs.declared.values.Text.TheVariants as text
use Rattle.mx_app_draw.specs.declared.values.GlyphKind.{GlyphKind}
use Rattle.mx_app_draw.specs.declared.values.GlyphKind.TheVariants as glyphs
use Rattle.mx_app_draw.specs.declared.values.Value.{Value}
use Rattle.mx_app_draw.specs.declared.layout.Origin.{Origin}
use Rattle.mx_app_draw.specs.FourFigures.{label_at}
use Rattle.mx_app_draw.specs.Inside.{IsInside}
use Rattle.mx_app_draw.specs.Layout.{row, row_of, toward}
use Rattle.mx_app_draw.specs.Fates.{height_of, line_to, note, outside_glyph, outside_by, outside_values, other_height, killer_by, killer, has_fallen, kill_from, kill_values, death_values, birth_values, passage, passage_by, fate_values, error_note, freed_values}
use Rattle.mx_app_draw.specs.Messages.{party_height, source_height, is_message, type_note, delivery_by, delivery_values, is_kept, kept_arrow, kept_values}
use Rattle.mx_app_draw.specs.Returns.{return_of, return_by, return_values}
use Rattle.mx_app_draw.specs.Record.{console_row, byte_label, console_by, console_values, fates, deliveries, all_kept, freed, record_values}

-- by recursion, so that it computes
abbrev pub AllInside : ℕ → ℕ → List Value → Type 0
AllInside w h [] = Unit {0}
AllInside w h (x ∷ xs) = IsInside w h x × AllInside w h xs

pub all_inside : (w h : ℕ) (xs : List Value) → AllInside w h xs → All (IsInside w h) xs
all_inside w h [] p = All-nil (IsInside w h)
all_inside w h (x ∷ xs) p = All-cons (IsInside w h) x xs p.0 (all_inside w h xs p.1)

pub all_of : (w h : ℕ) (xs ys : List Value) → AllInside w h xs → AllInside w h ys → AllInside w h (xs ++ ys)
all_of w h [] ys p q = q
all_of w h (x ∷ xs) ys p q = (p.0, all_of w h xs ys p.1 q)

-- values of numbers in a row
all_from : (w h : ℕ) (f : ℕ → List Value) (a n : ℕ) → ((k : ℕ) → k < a + n → AllInside w h (f k)) → AllInside w h (flat_map f (range_with_len a n))
all_from w h f a zero each = tt
all_from w h f a (suc n) each =
    all_of w h (f a) (flat_map f (range_with_len (a + 1) n)) (each a (omega arith)) (all_from w h f (a + 1) n (λ k low. each k (omega arith)))

pub all_in_row : (w h : ℕ) (f : ℕ → List Value) (n : ℕ) → ((k : ℕ) → k < n → AllInside w h (f k)) → AllInside w h (flat_map f (range_with_len 0 n))
all_in_row w h f n each = all_from w h f 0 n (λ k low. each k (omega arith))

pub all_if : (w h : ℕ) (b : Bool) (xs ys : List Value) → AllInside w h xs → AllInside w h ys → AllInside w h (if b then xs else ys)
all_if w h true xs ys p q = p
all_if w h false xs ys p q = q

-- a record's column, and its strip with the row of the console
pub record OriginWithin (w h : ℕ) (at : Origin) : Type 0 where
  pub right : at.x + 6 ≤ w
  pub below : row at.top (at.services + 1) + 16 ≤ h

row_of_within : (services s : ℕ) → row_of services s ≤ services
row_of_within services s = cond_both (nat_lt s services) (1 + s) 0 (λ r. r ≤ services) (λ e. let low : s < services = ltb-true s services e in omega arith) (λ e. omega arith)

-- the row of a service
pub height_within : (w h : ℕ) (at : Origin) (s : ℕ) → OriginWithin w h at → height_of at s + 48 ≤ h
height_within w h at s p = let low : row_of at.services s ≤ at.services = row_of_within at.services s in let below : row at.top (at.services + 1) + 16 ≤ h = p.below in omega arith

toward_within : (h from to : ℕ) → to + 4 ≤ h → toward from to ≤ h
toward_within h from to low = cond_both (nat_lt from to) (to - 4) (to + 4) (λ y. y ≤ h) (λ e. omega arith) (λ e. low)

line_within : (w h : ℕ) (at : Origin) (from s : ℕ) → OriginWithin w h at → from ≤ h → (at.x ≤ w) × (from ≤ h) × (toward from (height_of at s) ≤ h)
line_within w h at from s p low =
    let high : height_of at s + 48 ≤ h = height_within w h at s p in
    let right : at.x + 6 ≤ w = p.right in
    (omega arith, low, toward_within h from (height_of at s) (omega arith))

note_within : (w h : ℕ) (at : Origin) (s : ℕ) → OriginWithin w h at → (at.x + 6 ≤ w) × (height_of at s - 8 ≤ h)
note_within w h at s p = let high : height_of at s + 48 ≤ h = height_within w h at s p in let right : at.x + 6 ≤ w = p.right in (omega arith, omega arith)

top_within : (w h : ℕ) (at : Origin) → OriginWithin w h at → row at.top 0 ≤ h
top_within w h at p = let below : row at.top (at.services + 1) + 16 ≤ h = p.below in omega arith

-- ---- outside

glyph_outside : (w h : ℕ) (at : Origin) (k : GlyphKind) (n : ℕ) → OriginWithin w h at → AllInside w h (outside_glyph at k n)
glyph_outside w h at k n p =
    let low : row at.top 0 ≤ h = top_within w h at p in
    let right : at.x + 6 ≤ w = p.right in
    ((omega arith, low), ((omega arith, omega arith), tt))

outside_within : (w h : ℕ) (x : Transition) (at : Origin) (e : Recorded) → OriginWithin w h at → AllInside w h (outside_by x at e)
outside_within w h x at recorded.Tick p = glyph_outside w h at glyphs.Tick x.after.uptime p
outside_within w h x at (recorded.Line l) p = glyph_outside w h at glyphs.Line l p
outside_within w h x at _ p = tt

-- ---- who is killed, dies, is born again, or goes on with an error

abbrev LowOf : ℕ → Option ℕ → Type 0
LowOf h None = Unit {0}
LowOf h (Some from) = from ≤ h

other_within : (w h : ℕ) (at : Origin) (s : ℕ) (held : Option CpuGlance) → OriginWithin w h at → LowOf h (other_height at s held)
other_within w h at s None p = tt
other_within w h at s (Some g) p =
    cond_both (g.slot == s) None (Some (height_of at g.slot)) (λ o. LowOf h o) (λ e. tt)
    (λ e. let high : height_of at g.slot + 48 ≤ h = height_within w h at g.slot p in omega arith)

killer_within : (w h : ℕ) (x : Transition) (at : Origin) (s : ℕ) (e : Recorded) → OriginWithin w h at → LowOf h (killer_by x at s e)
killer_within w h x at s (recorded.Kill d) p = top_within w h at p
killer_within w h x at s (recorded.Back n) p = other_within w h at s (held_before x) p
killer_within w h x at s _ p = tt

kill_within : (w h : ℕ) (at : Origin) (s : ℕ) (from : Option ℕ) → OriginWithin w h at → LowOf h from → AllInside w h (kill_from at s from)
kill_within w h at s None p low = tt
kill_within w h at s (Some from) p low = (line_within w h at from s p low, tt)

death_within : (w h : ℕ) (at : Origin) (s : ℕ) (c : DeathCause) → OriginWithin w h at → AllInside w h (death_values at s c)
unfolding death_values
death_within w h at s cause.Kill p =
    let high : height_of at s + 48 ≤ h = height_within w h at s p in
    let right : at.x + 6 ≤ w = p.right in
    ((omega arith, omega arith), (note_within w h at s p, tt))
death_within w h at s _ p =
    let high : height_of at s + 48 ≤ h = height_within w h at s p in
    let right : at.x + 6 ≤ w = p.right in
    ((omega arith, omega arith), tt)

birth_within : (w h : ℕ) (at : Origin) (s e : ℕ) → OriginWithin w h at → AllInside w h (birth_values at s e)
unfolding birth_values
birth_within w h at s e p =
    let high : height_of at s + 48 ≤ h = height_within w h at s p in
    let right : at.x + 6 ≤ w = p.right in
    (line_within w h at (row at.top 0) s p (top_within w h at p), ((omega arith, omega arith), (note_within w h at s p, tt)))

passage_within : (w h : ℕ) (at : Origin) (s e : ℕ) (v u : Doing) → OriginWithin w h at → AllInside w h (passage at s e v u)
passage_within w h at s e (doing.Down c) (doing.Down d) p = tt
passage_within w h at s e _ (doing.Down d) p = death_within w h at s d p
passage_within w h at s e (doing.Down c) _ p = birth_within w h at s e p
passage_within w h at s e _ _ p = tt

passage_by_within : (w h : ℕ) (at : Origin) (s : ℕ) (v u : Option SlotGlance) → OriginWithin w h at → AllInside w h (passage_by at s v u)
passage_by_within w h at s (Some v) (Some u) p = passage_within w h at s u.endpoint v.doing u.doing p
passage_by_within w h at s _ _ p = tt

fate_within : (w h : ℕ) (x : Transition) (at : Origin) (s : ℕ) → OriginWithin w h at → AllInside w h (fate_values x at s)
unfolding fate_values kill_values killer
fate_within w h x at s p =
    all_of w h _ _
    (all_if w h (has_fallen x s) _ [] (kill_within w h at s (killer_by x at s x.event) p (killer_within w h x at s x.event p)) tt)
    (passage_by_within w h at s (slot_in x.before s) (slot_in x.after s) p)

error_within : (w h : ℕ) (at : Origin) (s : ℕ) (r : Option ℕ) → OriginWithin w h at → AllInside w h (error_note at s r)
error_within w h at s None p = tt
error_within w h at s (Some r) p =
    all_if w h (r == 0) [] (note written.Bad at s (text.Outcome r) (hint.Change at.place s) ∷ []) tt (note_within w h at s p, tt)

freed_within : (w h : ℕ) (x : Transition) (at : Origin) (s : ℕ) → OriginWithin w h at → AllInside w h (freed_values x at s)
unfolding freed_values
freed_within w h x at s p = all_if w h (is_acted x s) [] _ tt (error_within w h at s (gone_on x s) p)

-- ---- messages

type_within : (w h : ℕ) (at : Origin) (s : ℕ) (d : Delivery) → OriginWithin w h at → AllInside w h (type_note at s d)
unfolding type_note
type_within w h at s d p =
    all_if w h (is_message d.kind && not (d.message_type == 0))
    (note written.Note at s (text.Number d.message_type) (hint.Delivery at.place s) ∷ []) [] (note_within w h at s p, tt) tt

delivery_within : (w h : ℕ) (at : Origin) (s : ℕ) (d : Option Delivery) → OriginWithin w h at → AllInside w h (delivery_by at s d)
delivery_within w h at s None p = tt
delivery_within w h at s (Some d) p =
    let high : height_of at (d.from % 1024) + 48 ≤ h = height_within w h at (d.from % 1024) p in
    (line_within w h at (party_height at d.from) s p (omega arith), type_within w h at s d p)

source_within : (w h : ℕ) (at : Origin) (place : ℕ) → OriginWithin w h at → source_height at place ≤ h
source_within w h at place p =
    cond_both (nat_lt place 2) (row at.top 0) (height_of at (place - 2)) (λ y. y ≤ h) (λ e. top_within w h at p)
    (λ e. let high : height_of at (place - 2) + 48 ≤ h = height_within w h at (place - 2) p in omega arith)

kept_within : (w h : ℕ) (x : Transition) (at : Origin) (s place : ℕ) → OriginWithin w h at → AllInside w h (kept_arrow x at s place)
unfolding kept_arrow
kept_within w h x at s place p =
    all_if w h (is_kept x s place) (line_to at drawn.Pending (source_height at place) s (hint.Kept at.place s place) ∷ []) []
    (line_within w h at (source_height at place) s p (source_within w h at place p), tt) tt

-- ---- returns, and the console

returned_within : (w h : ℕ) (x : Transition) (at : Origin) (held : Option CpuGlance) → OriginWithin w h at → AllInside w h (return_of x at held)
returned_within w h x at None p = tt
returned_within w h x at (Some g) p =
    let high : height_of at g.slot + 48 ≤ h = height_within w h at g.slot p in
    let right : at.x + 6 ≤ w = p.right in
    ((omega arith, omega arith), tt)

return_within : (w h : ℕ) (x : Transition) (at : Origin) (e : Recorded) → OriginWithin w h at → AllInside w h (return_by x at e)
return_within w h x at (recorded.Back n) p = returned_within w h x at (held_before x) p
return_within w h x at _ p = tt

byte_within : (w h : ℕ) (at : Origin) (b : ℕ) → OriginWithin w h at → IsInside w h (byte_label at b)
unfolding byte_label
byte_within w h at b p =
    by (nat_lt 32 b && nat_lt b 127)
  where
    by : (t : Bool) → IsInside w h (if t then label_at written.Character at.x (console_row at + 5) anchor.Middle (text.Character b) (hint.Console at.place)
        else label_at written.Byte at.x (console_row at + 4) anchor.Middle (text.Hexadecimal b) (hint.Console at.place))
    by true = (omega (arith, p.right, p.below), omega (arith, p.right, p.below))
    by false = (omega (arith, p.right, p.below), omega (arith, p.right, p.below))

console_within : (w h : ℕ) (at : Origin) (b : Option ℕ) → OriginWithin w h at → AllInside w h (console_by at b)
console_within w h at None p = tt
console_within w h at (Some b) p = (byte_within w h at b p, tt)

-- ---- all that came of a record

pub record_within : (w h : ℕ) (x : Transition) (at : Origin) → OriginWithin w h at → AllInside w h (record_values x at)
unfolding record_values outside_values fates deliveries all_kept freed delivery_values kept_values return_values console_values
record_within w h x at p =
    all_of w h _ _
    (all_of w h _ _
    (all_of w h _ _
    (all_of w h _ _
    (all_of w h _ _
    (all_of w h _ _ (outside_within w h x at x.event p) (all_in_row w h (fate_values x at) at.services (λ s low. fate_within w h x at s p)))
    (all_in_row w h (delivery_values x at) at.services (λ s low. delivery_within w h at s (delivery_to x s) p)))
    (all_in_row w h (kept_values x at) at.services (λ s low. all_in_row w h (kept_arrow x at s) 34 (λ place below. kept_within w h x at s place p))))
    (return_within w h x at x.event p))
    (all_in_row w h (freed_values x at) at.services (λ s low. freed_within w h x at s p)))
    (all_if w h (x.before.written == x.after.written) [] _ tt (console_within w h at x.after.last_byte p))
