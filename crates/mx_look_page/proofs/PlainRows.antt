-- The row of a record is one line, and none of it is markup.
use Rattle.std.proofs.Common.{◌++◌, ◌==◌, ◌^◌, ℕ, cond, List, [], ◌∷◌, Option, Some, None, decimal, refl}
use Rattle.std.specs.Prelude.{codes, nat_lt}
use Rattle.std.specs.Int.{w32, cast_signed}
use Rattle.std.specs.Fmt.{signed_decimal}
use Rattle.std.specs.List.{range_with_len}
use Rattle.std.specs.Str.{bytes_eq}
use Rattle.mx_proc.specs.declared.deliveries.Delivery.{Delivery}
use Rattle.mx_proc.specs.declared.deliveries.DeliveryKind.{DeliveryKind}
use Rattle.mx_proc.specs.declared.deliveries.DeliveryKind.TheVariants.{Message, Notification}
use Rattle.mx_proc.specs.EndpointNumbers.{slot_of}
use Rattle.mx_look.specs.declared.slot_glances.SlotGlance.{SlotGlance}
use Rattle.mx_look.specs.declared.transition.Transition.{Transition}
use Rattle.mx_look.specs.Transition.{about, slot_in}
use Rattle.mx_look.specs.Deliveries.{delivery_to, is_new_bit}
use Rattle.mx_look.specs.Going.{gone_on}
use Rattle.mx_look.specs.Trace.{record_text}
use Rattle.mx_look_page.specs.declared.shown.SlotState.{SlotState}
use Rattle.mx_look_page.specs.Json.{ArePlain, IsPlainLine, list_of, member, numbered, text}
use Rattle.mx_look_page.specs.Rows.{all_arrows, arrow_items, arrow_items_by, but_last, byte_part, byte_part_by, changed_states, changes_part, delivery_item, event_detail, event_number, event_part, is_wrong, items_part, kept_between, kept_item, kind_items, order_items, order_part, party_items, result_part, row_text, source_at, state_items, state_part, state_text, subject_part, subject_part_by, told_state, trace_part, wrong_part}
use Rattle.mx_look_page.specs.Shown.{ShownWorld, state_in}
use Rattle.mx_look_page.proofs.PlainLemmas.{both, each, either, plain_line, plain_list, plain_member, plain_number, plain_numbered, plain_signed}

-- ---- pieces in a row

three : (a b c : List ℕ) → ArePlain a → ArePlain b → ArePlain c → ArePlain (a ++ b ++ c)
three a b c p q r = both (a ++ b) c (both a b p q) r

four : (a b c d : List ℕ) → ArePlain a → ArePlain b → ArePlain c → ArePlain d → ArePlain (a ++ b ++ c ++ d)
four a b c d p q r s = both (a ++ b ++ c) d (three a b c p q r) s

five : (a b c d e : List ℕ) → ArePlain a → ArePlain b → ArePlain c → ArePlain d → ArePlain e → ArePlain (a ++ b ++ c ++ d ++ e)
five a b c d e p q r s t = both (a ++ b ++ c ++ d) e (four a b c d p q r s) t

counted : (name : List ℕ) (n : ℕ) → ArePlain name → ArePlain (member name ++ decimal n)
counted name n h = both (member name) (decimal n) (plain_member name h) (plain_number n)

-- ---- the event

subject : (o : Option ℕ) → ArePlain (subject_part_by o)
subject None = refl
subject (Some s) = counted (codes "s") s refl

plain_subject : (x : Transition) → ArePlain (subject_part x)
unfolding subject_part
plain_subject x = subject (about x)

plain_wrong : (x : Transition) → ArePlain (wrong_part x)
unfolding wrong_part
plain_wrong x = either (is_wrong x) (codes ",\"x\":1") [] refl refl

plain_event : (x : Transition) → ArePlain (event_part x)
unfolding event_part
plain_event x =
    let n = decimal (event_number x.event) in
    let d = decimal (event_detail x) in
    let begun = codes "{\"a\":" ++ decimal x.actor ++ member (codes "e") ++ n in
    five begun (member (codes "n")) d (subject_part x) (wrong_part x)
    (four (codes "{\"a\":") (decimal x.actor) (member (codes "e")) n refl (plain_number x.actor) (plain_member (codes "e") refl) (plain_number (event_number x.event)))
    (plain_member (codes "n") refl) (plain_number (event_detail x)) (plain_subject x) (plain_wrong x)

-- ---- states

plain_state : (s : ℕ) (v : SlotState) → ArePlain (state_items s v)
unfolding state_items
plain_state s v =
    let partner = signed_decimal (cast_signed w32 v.partner) in
    five (codes ",[" ++ decimal s ++ numbered v.endpoint ++ numbered v.state) (codes ",") partner (numbered v.level) (numbered v.ticks)
    (four (codes ",[") (decimal s) (numbered v.endpoint) (numbered v.state) refl (plain_number s) (plain_numbered v.endpoint) (plain_numbered v.state))
    refl (plain_signed (cast_signed w32 v.partner)) (plain_numbered v.level) (plain_numbered v.ticks)

plain_result : (r : Option ℕ) → ArePlain (result_part r)
unfolding result_part
plain_result None = refl
plain_result (Some r) = both (codes ",") (signed_decimal (cast_signed w32 r)) refl (plain_signed (cast_signed w32 r))

plain_told : (s : ℕ) (r : Option ℕ) (o : Option SlotState) → ArePlain (state_text s r o)
plain_told s r None = refl
plain_told s r (Some u) = three (state_items s u) (result_part r) (codes "]") (plain_state s u) (plain_result r) refl

plain_part : (s : ℕ) (p q : Option SlotState) (r : Option ℕ) → ArePlain (state_part s p q r)
unfolding state_part
plain_part s p q r = plain_told s r (told_state p q r)

plain_states : (x : Transition) (p q : ShownWorld) → ArePlain (changed_states x p q)
unfolding changed_states
plain_states x p q = each (λ s. state_part s (state_in p s) (state_in q s) (gone_on x s)) (λ s. plain_part s (state_in p s) (state_in q s) (gone_on x s)) (range_with_len 0 32)

-- ---- arrows

plain_party : (e : ℕ) → ArePlain (party_items e)
unfolding party_items
plain_party e =
    both (codes ",") (cond (nat_lt e (2 ^ 31)) (decimal (slot_of e)) (signed_decimal (cast_signed w32 e))) refl
    (either (nat_lt e (2 ^ 31)) (decimal (slot_of e)) (signed_decimal (cast_signed w32 e)) (plain_number (slot_of e)) (plain_signed (cast_signed w32 e)))

plain_kind : (k : DeliveryKind) → ArePlain (kind_items k)
plain_kind Message = refl
plain_kind Notification = refl

plain_delivery : (s : ℕ) (o : Option Delivery) → ArePlain (delivery_item s o)
unfolding delivery_item
plain_delivery s None = refl
plain_delivery s (Some d) =
    five (kind_items d.kind) (party_items d.from) (numbered s) (numbered d.message_type) (codes "]")
    (plain_kind d.kind) (plain_party d.from) (plain_numbered s) (plain_numbered d.message_type) refl

plain_kept : (s : ℕ) (v u : SlotGlance) (place : ℕ) → ArePlain (kept_item s v u place)
unfolding kept_item
plain_kept s v u place =
    either (is_new_bit v u place) (codes ",[2" ++ party_items (source_at place) ++ numbered s ++ codes "]") []
    (four (codes ",[2") (party_items (source_at place)) (numbered s) (codes "]") refl (plain_party (source_at place)) (plain_numbered s) refl) refl

plain_between : (s : ℕ) (v u : SlotGlance) → ArePlain (kept_between s v u)
unfolding kept_between
plain_between s v u = each (kept_item s v u) (plain_kept s v u) (range_with_len 0 34)

arrows_by : (x : Transition) (s : ℕ) (p q : Option SlotGlance) → ArePlain (arrow_items_by x s p q)
arrows_by x s None q = refl
arrows_by x s (Some v) None = refl
arrows_by x s (Some v) (Some u) = both (delivery_item s (delivery_to x s)) (kept_between s v u) (plain_delivery s (delivery_to x s)) (plain_between s v u)

plain_arrows_to : (x : Transition) (s : ℕ) → ArePlain (arrow_items x s)
unfolding arrow_items
plain_arrows_to x s = arrows_by x s (slot_in x.before s) (slot_in x.after s)

plain_arrows : (x : Transition) → ArePlain (all_arrows x)
unfolding all_arrows
plain_arrows x = each (arrow_items x) (plain_arrows_to x) (range_with_len 0 32)

-- ---- what changed

plain_items : (name items : List ℕ) → ArePlain name → ArePlain items → ArePlain (items_part name items)
unfolding items_part
plain_items name [] h g = refl
plain_items name (b ∷ items) h g = both (member name) (list_of (b ∷ items)) (plain_member name h) (plain_list (b ∷ items) g)

plain_changes : (x : Transition) (p q : ShownWorld) → ArePlain (changes_part x p q)
unfolding changes_part
plain_changes x p q =
    both (items_part (codes "c") (changed_states x p q)) (items_part (codes "d") (all_arrows x))
    (plain_items (codes "c") (changed_states x p q) refl (plain_states x p q)) (plain_items (codes "d") (all_arrows x) refl (plain_arrows x))

plain_order : (name p q : List ℕ) → ArePlain name → ArePlain (order_part name p q)
unfolding order_part
plain_order name p q h =
    either (bytes_eq p q) [] (member name ++ list_of (order_items q)) refl
    (both (member name) (list_of (order_items q)) (plain_member name h) (plain_list (order_items q) (each numbered plain_numbered q)))

byte_by : (o : Option ℕ) → ArePlain (byte_part_by o)
byte_by None = refl
byte_by (Some b) = counted (codes "b") b refl

plain_byte_part : (x : Transition) → ArePlain (byte_part x)
unfolding byte_part
plain_byte_part x = either (x.before.written == x.after.written) [] (byte_part_by x.after.last_byte) refl (byte_by x.after.last_byte)

-- ---- the row

plain_trace : (x : Transition) → ArePlain (text (but_last (record_text x))) → ArePlain (trace_part x)
unfolding trace_part
plain_trace x h = both (member (codes "t")) (text (but_last (record_text x))) (plain_member (codes "t") refl) h

pub plain_row : (x : Transition) (p q : ShownWorld) → ArePlain (text (but_last (record_text x))) → IsPlainLine (row_text x p q)
unfolding row_text
plain_row x p q h =
    let begun = event_part x ++ trace_part x ++ changes_part x p q ++ order_part (codes "q") p.ready q.ready ++ order_part (codes "w") p.waiting q.waiting in
    plain_line (begun ++ byte_part x) (begun ++ byte_part x ++ codes "}\n")
    (both begun (byte_part x)
    (five (event_part x) (trace_part x) (changes_part x p q) (order_part (codes "q") p.ready q.ready) (order_part (codes "w") p.waiting q.waiting)
    (plain_event x) (plain_trace x h) (plain_changes x p q) (plain_order (codes "q") p.ready q.ready refl) (plain_order (codes "w") p.waiting q.waiting refl))
    (plain_byte_part x)) refl
