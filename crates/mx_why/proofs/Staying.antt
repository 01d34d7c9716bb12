-- Who is said to wait for ever is of slots that are shut.
use Rattle.std.proofs.Common.{◌≡◌, ◌∙◌, ℕ, zero, suc, ◌-◌, ◌<◌, ◌==◌, ◌&&◌, ◌||◌, not, nat_le, nat_lt, Bool, true, false, cond, List, [], ◌∷◌, length, map, Option, Some, None, is_none, is_some, refl, sym, ap, subst, get_or, slice_get, arith}
use Rattle.std.specs.List.{list_any, range_with_len}
use Rattle.std.specs.Prelude.{find, unwrap_or}
use Rattle.std.specs.Option.{option_map}
use Rattle.std.proofs.lemmas.Bool.{and_parts, both_ways, cond-true, eq-eqb, eqb-true, false≢true, false_from_ne_true, lt-ltb, ltb-true, ne_eqb, not-true, or_left, or_parts, or_right, true_from_ne_false}
use Rattle.std.proofs.lemmas.List.FromFn.{get_or-map-range_with_len, get_or-range_with_len, length-range_with_len}
use Rattle.mx_word.specs.Bits.{has_bit}
use Rattle.mx_proc.specs.declared.process.Partner.{Partner}
use Rattle.mx_proc.specs.declared.process.Partner.TheVariants as partner
use Rattle.mx_proc.specs.declared.process.Process.{Process}
use Rattle.mx_proc.specs.declared.process.Source.TheVariants as source
use Rattle.mx_proc.specs.declared.process.State.{State}
use Rattle.mx_proc.specs.declared.process.State.TheVariants.{Home, Ready, Out, Doomed, Sending, Calling, Receiving, Awaiting, Down}
use Rattle.mx_proc.specs.Queues.{first_ready, list_at, tally, times}
use Rattle.mx_proc.specs.States.{is_blocked, is_down, is_out, is_ready, is_sending}
use Rattle.mx_proc.specs.Sound.{belongs}
use Rattle.mx_proc.specs.TableState.{TableState, nobody, process_at}
use Rattle.mx_proc.specs.Waits.{IsPair, next_of}
use Rattle.mx_proc.proofs.SoundLemmas.{sender_known, sends_once}
use Rattle.mx_proc.proofs.WaitLemmas.{next_pair, sends-pair}
use Rattle.mx_kcall.specs.Refusals.{owner_of}
use Rattle.mx_kcall.specs.Respawn.{is_worn}
use Rattle.mx_kcall.specs.Service.{Service}
use Rattle.mx_machine.specs.declared.events.Event.{Event}
use Rattle.mx_machine.specs.Machine.{AreSound}
use Rattle.mx_machine.specs.Move.{moves}
use Rattle.mx_machine.specs.Rest.{at_rest, down_are_worn}
use Rattle.mx_machine.specs.Sound.{IsSound, lease_at, lease_of}
use Rattle.mx_machine.specs.World.{HeldProcess, World, out_count}
use Rattle.mx_print_report.specs.declared.doing.Doing.{Doing}
use Rattle.mx_print_report.specs.declared.doing.Doing.TheVariants as doing
use Rattle.mx_print_report.specs.declared.doing.Naming.TheVariants.{Slots}
use Rattle.mx_print_report.specs.SlotDoing.{awaited_of, doing_of, receiver_of}
use Rattle.mx_why.specs.declared.seats.End.{End}
use Rattle.mx_why.specs.declared.seats.Seat.{Seat}
use Rattle.mx_why.specs.declared.verdicts.Verdict.{Verdict}
use Rattle.mx_why.specs.declared.verdicts.Verdict.TheVariants.{AwaitsAlarm, MayComeBy, NothingComes, NoSender}
use Rattle.mx_why.specs.Never.{AreNoKills, StaysWaiting}
use Rattle.mx_why.specs.Seats.{doing_in, first_line, is_slot, owns, seat_in}
use Rattle.mx_why.specs.Seeing.{end_of, seat_at, seat_of, seats_of}
use Rattle.mx_why.specs.Verdicts.{alone, behind, behind_if, by_alarm, by_line, by_partner, closed, from_any, from_any_by, has_no_sender, has_sender, is_never, verdict, verdict_on}
use Rattle.mx_why.specs.Waiting.{alarm_for, chain, chain_of, is_among, line_for, may_send, may_send_by, partner_if, partner_of, reached, takes_alarms, takes_lines, waits_for, wakes_from_outside, waking_alarm, waking_line}
use Rattle.mx_why.proofs.Closing.{chain_path, closed_goes, Goes, next_goes, Path}
use Rattle.mx_why.proofs.Reaching.{next_reached_too, reached_within_slots, woken_reached}
use Rattle.mx_why.proofs.Kept.{Keeps}
use Rattle.mx_why.proofs.KeptCalls.{IsShut, may_send_to, OwnsNone, Shut}
use Rattle.mx_why.proofs.KeptEvents.{all_spared, HaveTheirTerms, run_keeps, same_services_after, their_terms}

some_is : {X : Type 0} {x y : X} → Some x ≡ Some y → x ≡ y
some_is e = cc

none_some : {X : Type 0} {x : X} → None ≡ Some x → ⊥
none_some e = cc

some_none : {X : Type 0} {x : X} → Some x ≡ None → ⊥
some_none e = cc

is_none_of : {X : Type 0} (o : Option X) → is_none o ≡ true → o ≡ None
is_none_of None h = refl
is_none_of (Some x) h = absurd (false≢true h)

not_some_of : {X : Type 0} (o : Option X) → is_some o ≡ false → o ≡ None
not_some_of None h = refl
not_some_of (Some x) h = absurd (false≢true (sym h))

-- ---- lists

get_within : {X : Type 0} (xs : List X) (i : ℕ) (x : X) → slice_get xs i ≡ Some x → i < length xs
get_within [] i x h = absurd (none_some h)
get_within (y ∷ xs) zero x h = omega arith
get_within (y ∷ xs) (suc i) x h = let k = get_within xs i x h in omega arith

get_some : {X : Type 0} (xs : List X) (i : ℕ) → i < length xs → (x : X) × (slice_get xs i ≡ Some x)
get_some [] i lt = absurd (omega (arith, lt))
get_some (x ∷ xs) zero lt = (x, refl)
get_some (x ∷ xs) (suc i) lt = get_some xs i (omega (arith, lt))

some_within : {X : Type 0} (xs : List (Option X)) (i : ℕ) (x : X) → get_or xs i None ≡ Some x → i < length xs
some_within [] i x h = absurd (none_some h)
some_within (y ∷ xs) zero x h = omega arith
some_within (y ∷ xs) (suc i) x h = let k = some_within xs i x h in omega arith

find_none : (p : ℕ → Bool) (xs : List ℕ) (i d : ℕ) → find p xs ≡ None → i < length xs → p (get_or xs i d) ≡ false
find_none p [] i d h lt = absurd (omega (arith, lt))
find_none p (x ∷ xs) i d h lt = by_bool (p x) i refl (λ j. find_none p xs j d) h lt
  where
    by_bool : (b : Bool) (i : ℕ) → p x ≡ b → ((j : ℕ) → find p xs ≡ None → j < length xs → p (get_or xs j d) ≡ false) → cond b (Some x) (find p xs) ≡ None → i < length (x ∷ xs)
        → p (get_or (x ∷ xs) i d) ≡ false
    by_bool true i e on g l = absurd (some_none g)
    by_bool false zero e on g l = e
    by_bool false (suc i) e on g l = on i g (omega (arith, l))

any_false : (p : ℕ → Bool) (xs : List ℕ) (i d : ℕ) → list_any p xs ≡ false → i < length xs → p (get_or xs i d) ≡ false
any_false p [] i d h lt = absurd (omega (arith, lt))
any_false p (x ∷ xs) zero d h lt = (or_parts (p x) (list_any p xs) h).0
any_false p (x ∷ xs) (suc i) d h lt = any_false p xs i d (or_parts (p x) (list_any p xs) h).1 (omega (arith, lt))

-- the number i of those below n
number_at : (n i : ℕ) → i < n → get_or (range_with_len 0 n) i 0 ≡ i
number_at n i lt = get_or-range_with_len 0 n i 0 lt ∙ omega arith

number_in : (n i : ℕ) → i < n → i < length (range_with_len 0 n)
number_in n i lt = omega (arith, lt, length-range_with_len 0 n)

-- ---- what is seen of a slot

seat_is : (w : World) (s : ℕ) (v : Service) → s < 32 → slice_get w.services s ≡ Some v → seat_in (end_of w) s ≡ Some (seat_of w.table s v)
unfolding seats_of
seat_is w s v lt at =
    cond-true (nat_lt s 32) (get_or (map (seat_at w.table w.services) (range_with_len 0 32)) s None) None (lt-ltb s 32 lt)
    ∙ get_or-map-range_with_len (seat_at w.table w.services) 0 32 s s None lt (omega arith)
    ∙ ap (option_map (seat_of w.table s)) at

seat_from : (w : World) (s : ℕ) (g : Seat) → seat_in (end_of w) s ≡ Some g → (v : Service) × (s < 32) × (slice_get w.services s ≡ Some v)
unfolding seats_of
seat_from w s g h = by_bool (nat_lt s 32) refl h
  where
    by_option : (o : Option Service) → slice_get w.services s ≡ o → s < 32 → option_map (seat_of w.table s) o ≡ Some g → (v : Service) × (s < 32) × (slice_get w.services s ≡ Some v)
    by_option None e lt f = absurd (none_some f)
    by_option (Some v) e lt f = (v, lt, e)

    by_bool : (b : Bool) → nat_lt s 32 ≡ b → cond b (get_or (map (seat_at w.table w.services) (range_with_len 0 32)) s None) None ≡ Some g → (v : Service) × (s < 32) × (slice_get w.services s ≡ Some v)
    by_bool false e f = absurd (none_some f)
    by_bool true e f =
        let lt = ltb-true s 32 e in
        by_option (slice_get w.services s) refl lt (sym (get_or-map-range_with_len (seat_at w.table w.services) 0 32 s s None lt (omega arith)) ∙ f)

-- what its process does
abbrev now_does : World → ℕ → Doing
now_does w s = doing_of Slots w.table s (process_at w.table s).state

does_is : (w : World) (s : ℕ) (v : Service) → s < 32 → slice_get w.services s ≡ Some v → doing_in (end_of w) s ≡ Some (now_does w s)
unfolding seat_of
does_is w s v lt at = ap (option_map (λ (g : Seat). g.doing)) (seat_is w s v lt at)

does_from : (w : World) (s : ℕ) (d : Doing) → doing_in (end_of w) s ≡ Some d → (v : Service) × (s < 32) × (slice_get w.services s ≡ Some v) × (now_does w s ≡ d)
does_from w s d h = by_option (seat_in (end_of w) s) refl h
  where
    by_option : (o : Option Seat) → seat_in (end_of w) s ≡ o → option_map (λ (g : Seat). g.doing) o ≡ Some d → (v : Service) × (s < 32) × (slice_get w.services s ≡ Some v) × (now_does w s ≡ d)
    by_option None e f = absurd (none_some f)
    by_option (Some g) e f =
        let k = seat_from w s g e in (k.0, k.1, k.2, some_is (sym (does_is w s k.0 k.1 k.2) ∙ h))

-- for whom it waits
waits_from : (w : World) (p q : ℕ) → waits_for (end_of w) p ≡ Some q → partner_of (now_does w p) ≡ Some q
waits_from w p q h = by_option (doing_in (end_of w) p) refl h
  where
    by_option : (o : Option Doing) → doing_in (end_of w) p ≡ o → partner_if o ≡ Some q → partner_of (now_does w p) ≡ Some q
    by_option None e f = absurd (none_some f)
    by_option (Some d) e f = ap partner_of (does_from w p d e).3 ∙ f

waits_shut : (C : ℕ → Type 0) (vs : List Service) (t : TableState) (p q : ℕ) (st : State) → partner_of (doing_of Slots t p st) ≡ Some q → C q → IsShut C vs t p st
unfolding doing_of awaited_of
waits_shut C vs t p q Home h c = absurd (none_some h)
waits_shut C vs t p q Ready h c = absurd (none_some h)
waits_shut C vs t p q Out h c = absurd (none_some h)
waits_shut C vs t p q Doomed h c = absurd (none_some h)
waits_shut C vs t p q Sending h c = tt
waits_shut C vs t p q Calling h c = tt
waits_shut C vs t p q (Receiving partner.Any) h c = absurd (none_some h)
waits_shut C vs t p q (Receiving partner.System) h c = tt
waits_shut C vs t p q (Receiving (partner.Only source.Hardware)) h c = absurd (none_some h)
waits_shut C vs t p q (Receiving (partner.Only source.Clock)) h c = absurd (none_some h)
waits_shut C vs t p q (Receiving (partner.Only (source.Slot f))) h c = subst C (sym (some_is h)) c
waits_shut C vs t p q (Awaiting f) h c = subst C (sym (some_is h)) c
waits_shut C vs t p q (Down x) h c = absurd (none_some h)

sending_partner : (t : TableState) (p q : ℕ) (st : State) → is_sending st ≡ true → next_of p t.waits ≡ Some q → partner_of (doing_of Slots t p st) ≡ Some q
unfolding doing_of receiver_of
sending_partner t p q Home e n = absurd (false≢true e)
sending_partner t p q Ready e n = absurd (false≢true e)
sending_partner t p q Out e n = absurd (false≢true e)
sending_partner t p q Doomed e n = absurd (false≢true e)
sending_partner t p q Sending e n = ap (λ (o : Option ℕ). Some (unwrap_or o p)) n
sending_partner t p q Calling e n = ap (λ (o : Option ℕ). Some (unwrap_or o p)) n
sending_partner t p q (Receiving x) e n = absurd (false≢true e)
sending_partner t p q (Awaiting f) e n = absurd (false≢true e)
sending_partner t p q (Down c) e n = absurd (false≢true e)

module _ (w : World) (sound : IsSound w) where
  -- a slot that is used has a service
  served : (s : ℕ) → s < length w.table.slots → (v : Service) × (s < 32) × (slice_get w.services s ≡ Some v)
  served s lt = let k = get_some w.services s (omega (arith, lt, sound.holds.served)) in (k.0, omega (arith, lt, sound.table.few), k.1)

  used : (s : ℕ) (v : Service) → slice_get w.services s ≡ Some v → s < length w.table.slots
  used s v at = omega (arith, get_within w.services s v at, sound.holds.served)

  pair_waits : (p q : ℕ) → IsPair w.table.waits p q → waits_for (end_of w) p ≡ Some q
  pair_waits p q h =
      let known = sender_known w.table p sound.table (sends-pair w.table.waits p q h) in
      let s = served p known.0 in
      ap partner_if (does_is w p s.0 s.1 s.2)
      ∙ sending_partner w.table p q (process_at w.table p).state known.1 (next_pair w.table.waits p q (sends_once w.table sound.table p) h)

  -- ---- rings

  ring_shut : Shut (λ p. (m : ℕ) → Goes (end_of w) m p) w.services w.table
  ring_shut = record {
    each = λ p c.
        let g = c (suc zero) in
        waits_shut (λ i. (m : ℕ) → Goes (end_of w) m i) w.services w.table p g.0 (process_at w.table p).state (waits_from w p g.0 g.1) (next_goes (end_of w) p g.0 c g.1);
    pairs = λ p q h c. next_goes (end_of w) p q c (pair_waits p q h);
  }

  -- ---- lines, alarms and senders

  line_owned : (s l : ℕ) → owner_of w.table l ≡ Some s → (l < 16) × (owns (end_of w) s l ≡ true)
  line_owned s l o =
      let lt : l < 16 = omega (arith, sound.table.lines, some_within w.table.devices.owners l s o) in
      (lt, ap (is_slot s) (cond-true (nat_lt l 16) (get_or w.table.devices.owners l None) None (lt-ltb l 16 lt) ∙ o) ∙ eq-eqb s s refl)

  no_line : (s : ℕ) → first_line (end_of w) s ≡ None → OwnsNone w.table s
  no_line s h l o =
      let k = line_owned s l o in
      let none = find_none (owns (end_of w) s) (range_with_len 0 16) l 0 h (number_in 16 l k.0) in
      both_ways _ (ap (owns (end_of w) s) (sym (number_at 16 l k.0)) ∙ none) k.1

  module _ (s : ℕ) (v : Service) (lt : s < 32) (at : slice_get w.services s ≡ Some v) where
    line_is : takes_lines (now_does w s) ≡ true → waking_line (end_of w) s ≡ first_line (end_of w) s
    unfolding seat_of
    line_is takes =
        ap (line_for (end_of w) s) (seat_is w s v lt at) ∙ cond-true (takes_lines (now_does w s)) (first_line (end_of w) s) None takes

    alarm_is : takes_alarms (now_does w s) ≡ true → waking_alarm (end_of w) s ≡ (process_at w.table s).alarm
    unfolding seat_of
    alarm_is takes = ap alarm_for (seat_is w s v lt at) ∙ cond-true (takes_alarms (now_does w s)) (process_at w.table s).alarm None takes

    may_is : (to : ℕ) → to < 32 → may_send (end_of w) s to ≡ may_send_to w.table s to
    unfolding seat_of
    may_is to l =
        let m = (process_at w.table s).schedule.terms.masks in
        ap (λ (o : Option Seat). may_send_by o to) (seat_is w s v lt at)
        ∙ ap (λ (b : Bool). (b && has_bit m.sends to) && (has_bit m.traps 1 || has_bit m.traps 3 || has_bit m.traps 4)) (lt-ltb to 32 l)

-- ---- one that waits for no process

any_quiet : (e : End) (s : ℕ) (x : Verdict) → from_any e s ≡ Some x → is_never x ≡ true → (waking_alarm e s ≡ None) × (waking_line e s ≡ None) × (has_sender e s ≡ false)
unfolding from_any
any_quiet e s x h never = by_alarm (waking_alarm e s) refl h
  where
    by_rest : (b : Bool) (due : ℕ) → cond b (Some (AwaitsAlarm due)) None ≡ Some x → ⊥
    by_rest true due f = false≢true (ap is_never (some_is f) ∙ never)
    by_rest false due f = none_some f

    by_both : (b : Bool) → (is_none (waking_line e s) && has_no_sender e s) ≡ b → cond b (Some NoSender) None ≡ Some x → (waking_line e s ≡ None) × (has_sender e s ≡ false)
    by_both true f i = let parts = and_parts (is_none (waking_line e s)) (has_no_sender e s) f in (is_none_of (waking_line e s) parts.0, not-true (has_sender e s) parts.1)
    by_both false f i = absurd (none_some i)

    by_alarm : (o : Option ℕ) → waking_alarm e s ≡ o → from_any_by e s o ≡ Some x → (waking_alarm e s ≡ None) × (waking_line e s ≡ None) × (has_sender e s ≡ false)
    by_alarm None f i = let k = by_both (is_none (waking_line e s) && has_no_sender e s) refl i in (f, k.0, k.1)
    by_alarm (Some due) f i = absurd (by_rest e.at_rest due i)

line_quiet : (o : Option ℕ) (x : Verdict) → Some (by_line o) ≡ Some x → is_never x ≡ true → o ≡ None
line_quiet None x h never = refl
line_quiet (Some l) x h never = absurd (false≢true (ap is_never (some_is h) ∙ never))

alarm_quiet : (o : Option ℕ) (x : Verdict) → Some (by_alarm o) ≡ Some x → is_never x ≡ true → o ≡ None
alarm_quiet None x h never = refl
alarm_quiet (Some due) x h never = absurd (false≢true (ap is_never (some_is h) ∙ never))

-- a slot by itself
abbrev IsIt : ℕ → ℕ → Type 0
IsIt s p = p ≡ s

module _ (w : World) (sound : IsSound w) (s : ℕ) (v : Service) (lt : s < 32) (at : slice_get w.services s ≡ Some v) (x : Verdict) (never : is_never x ≡ true) where
  -- those who may send
  no_sender : has_sender (end_of w) s ≡ false → (q : ℕ) → (q ≡ s → ⊥) → q < length w.table.slots → may_send_to w.table q s ≡ false
  unfolding has_sender
  no_sender h q n lq =
      let k = served w sound q lq in
      let test = λ (p : ℕ). not (p == s) && may_send (end_of w) p s in
      let none : test q ≡ false = ap test (sym (number_at 32 q k.1)) ∙ any_false test (range_with_len 0 32) q 0 h (number_in 32 q k.1) in
      let other : (q == s) ≡ false = ne_eqb q s n in
      sym (may_is w sound q k.0 k.1 k.2 s lt) ∙ ap (λ (b : Bool). not b && may_send (end_of w) q s) (sym other) ∙ none

  it_is_shut : (st : State) → st ≡ (process_at w.table s).state → partner_of (doing_of Slots w.table s st) ≡ None → alone (end_of w) s (doing_of Slots w.table s st) ≡ Some x
      → IsShut (IsIt s) w.services w.table s st × (is_sending st ≡ false)
  unfolding doing_of awaited_of alone
  it_is_shut Home e p h = absurd (none_some h)
  it_is_shut Ready e p h = absurd (none_some h)
  it_is_shut Out e p h = absurd (none_some h)
  it_is_shut Doomed e p h = absurd (none_some h)
  it_is_shut Sending e p h = absurd (some_none p)
  it_is_shut Calling e p h = absurd (some_none p)
  it_is_shut (Receiving partner.Any) e p h =
      let quiet = any_quiet (end_of w) s x h never in
      let lines = sym (line_is w sound s v lt at (ap (λ st. takes_lines (doing_of Slots w.table s st)) (sym e))) ∙ quiet.1 in
      let alarm = sym (alarm_is w sound s v lt at (ap (λ st. takes_alarms (doing_of Slots w.table s st)) (sym e))) ∙ quiet.0 in
      (record { lines = no_line w sound s lines; alarm = alarm; senders = no_sender quiet.2 }, refl)
  it_is_shut (Receiving partner.System) e p h = (tt, refl)
  it_is_shut (Receiving (partner.Only source.Hardware)) e p h =
      let quiet = line_quiet (waking_line (end_of w) s) x h never in
      let lines = sym (line_is w sound s v lt at (ap (λ st. takes_lines (doing_of Slots w.table s st)) (sym e))) ∙ quiet in
      (no_line w sound s lines, refl)
  it_is_shut (Receiving (partner.Only source.Clock)) e p h =
      let quiet = alarm_quiet (waking_alarm (end_of w) s) x h never in
      (sym (alarm_is w sound s v lt at (ap (λ st. takes_alarms (doing_of Slots w.table s st)) (sym e))) ∙ quiet, refl)
  it_is_shut (Receiving (partner.Only (source.Slot q))) e p h = absurd (some_none p)
  it_is_shut (Awaiting q) e p h = absurd (some_none p)
  it_is_shut (Down c) e p h = absurd (none_some h)

  it_shut : partner_of (now_does w s) ≡ None → alone (end_of w) s (now_does w s) ≡ Some x → Shut (IsIt s) w.services w.table
  it_shut p h =
      let k = it_is_shut (process_at w.table s).state refl p h in
      record {
        each = λ i c. subst (λ j. IsShut (IsIt s) w.services w.table j (process_at w.table j).state) (sym c) k.0;
        pairs = λ i q pair c.
            let known = sender_known w.table i sound.table (sends-pair w.table.waits i q pair) in
            absurd (both_ways _ k.1 (subst (λ j. is_sending (process_at w.table j).state ≡ true) c known.1));
      }

-- ---- one that waits for another, at rest

-- the chain leads to one that isn't reached
abbrev Behind : End → ℕ → Type 0
Behind e p = (k : ℕ) × (r : ℕ) × Path e k p r × (is_among (reached e) r ≡ false)

leases_at : (xs : List (Option HeldProcess)) (a : ℕ) → lease_at (map lease_of xs) a ≡ lease_of (get_or xs a None)
leases_at [] a = refl
leases_at (x ∷ xs) zero = refl
leases_at (x ∷ xs) (suc a) = leases_at xs a

none_held : {X : Type 0} (xs : List (Option X)) (a : ℕ) → out_count xs ≡ 0 → get_or xs a None ≡ None
none_held [] a h = refl
none_held (None ∷ xs) zero h = refl
none_held (None ∷ xs) (suc a) h = none_held xs a h
none_held (Some x ∷ xs) a h = absurd (omega (arith, h))

none_listed : (lists : List (List ℕ)) (level : ℕ) → first_ready lists ≡ None → list_at lists level ≡ []
none_listed [] level h = refl
none_listed ([] ∷ lists) zero h = refl
none_listed ([] ∷ lists) (suc level) h = none_listed lists level h
none_listed ((x ∷ xs) ∷ lists) level h = absurd (some_none h)

worn_at : (ps : List Process) (vs : List Service) (s : ℕ) (v : Service) → down_are_worn ps vs ≡ true → length ps ≡ length vs → slice_get vs s ≡ Some v
    → (not (is_down (get_or ps s nobody).state) || is_worn (get_or ps s nobody) v) ≡ true
worn_at ps [] s v h e at = absurd (none_some at)
worn_at [] (u ∷ vs) s v h e at = absurd (omega (arith, e))
worn_at (p ∷ ps) (u ∷ vs) zero v h e at =
    let same : Some u ≡ Some v = at in
    subst (λ (y : Service). (not (is_down p.state) || is_worn p y) ≡ true) (some_is same) (and_parts _ _ h).0
worn_at (p ∷ ps) (u ∷ vs) (suc s) v h e at = worn_at ps vs s v (and_parts _ _ h).1 (omega (arith, e)) at

blocked_within : (ps : List Process) (s : ℕ) → is_blocked (get_or ps s nobody).state ≡ true → s < length ps
blocked_within [] s e = absurd (false≢true e)
blocked_within (p ∷ ps) zero e = omega arith
blocked_within (p ∷ ps) (suc s) e = let h = blocked_within ps s e in omega arith

module _ (w : World) (sound : IsSound w) (rest : at_rest w ≡ true) where
  parts : ((is_none (first_ready w.table.ready) && (out_count w.cpus == 0)) && down_are_worn w.table.slots w.services) ≡ true
  unfolding at_rest
  parts = rest

  quiet : (is_none (first_ready w.table.ready) ≡ true) × ((out_count w.cpus == 0) ≡ true)
  quiet = and_parts _ _ (and_parts (is_none (first_ready w.table.ready) && (out_count w.cpus == 0)) (down_are_worn w.table.slots w.services) parts).0

  none_ready : (p : ℕ) → is_ready (process_at w.table p).state ≡ true → ⊥
  none_ready p e =
      let level = (process_at w.table p).schedule.level in
      let empty = none_listed w.table.ready level (is_none_of (first_ready w.table.ready) quiet.0) in
      let listed = (sound.table.each p).listed level in
      let one : belongs (process_at w.table p) level ≡ 1 = cond-true (is_ready (process_at w.table p).state) (tally (level == level)) 0 e ∙ ap tally (eq-eqb level level refl) in
      let times_none : times p (list_at w.table.ready level) ≡ 0 = ap (times p) empty in
      let z : 0 ≡ 1 = sym times_none ∙ listed ∙ one in
      omega (arith, z)

  none_out : (p : ℕ) → is_out (process_at w.table p).state ≡ true → ⊥
  none_out p e =
      let ticks = (process_at w.table p).schedule.ticks in
      let lent = sound.holds.lent p ticks (cond-true (is_out (process_at w.table p).state) (Some ticks) None e) in
      let none = none_held w.cpus lent.0 (eqb-true (out_count w.cpus) 0 quiet.1) in
      none_some (sym (leases_at w.cpus lent.0 ∙ ap lease_of none) ∙ lent.1)

  -- one that isn't reached waits only for such
  waits_unreached : (p q : ℕ) → p < 32 → waits_for (end_of w) p ≡ Some q → is_among (reached (end_of w)) p ≡ false → is_among (reached (end_of w)) q ≡ false
  waits_unreached p q lp waits out =
      let e = end_of w in
      false_from_ne_true (is_among (reached e) q) (λ m.
      both_ways _ out (next_reached_too e q p (reached_within_slots e q m) lp m
      (or_right (may_send e q p) (is_slot q (waits_for e p)) (ap (is_slot q) waits ∙ eq-eqb q q refl))))

  unreached_shut : (p : ℕ) → is_among (reached (end_of w)) p ≡ false → (st : State) → st ≡ (process_at w.table p).state → IsShut (Behind (end_of w)) w.services w.table p st
  unfolding doing_of awaited_of
  unreached_shut p out Home e = sound.holds.settled p (sym e)
  unreached_shut p out Ready e = none_ready p (ap is_ready (sym e))
  unreached_shut p out Out e = none_out p (ap is_out (sym e))
  unreached_shut p out Doomed e = none_out p (ap is_out (sym e))
  unreached_shut p out Sending e = tt
  unreached_shut p out Calling e = tt
  unreached_shut p out (Receiving x) e = by_partner_of x e
    where
      lies : is_blocked (process_at w.table p).state ≡ true → p < length w.table.slots
      lies b = blocked_within w.table.slots p b

      unwoken : p < 32 → (waking_line (end_of w) p ≡ None) × (waking_alarm (end_of w) p ≡ None)
      unwoken lp =
          let woken = false_from_ne_true (wakes_from_outside (end_of w) p) (λ m. both_ways _ out (woken_reached (end_of w) p lp m)) in
          let both = or_parts _ _ woken in (not_some_of _ both.0, not_some_of _ both.1)

      unsent : p < 32 → (q : ℕ) → (Behind (end_of w) q → ⊥) → q < length w.table.slots → may_send_to w.table q p ≡ false
      unsent lp q n lq =
          let e = end_of w in
          let k = served w sound q lq in
          let reaching : is_among (reached e) q ≡ true = true_from_ne_false _ (λ f. n (zero, q, refl, f)) in
          sym (may_is w sound q k.0 k.1 k.2 p lp)
          ∙ false_from_ne_true (may_send e q p) (λ m. both_ways _ out (next_reached_too e q p k.1 lp reaching (or_left (may_send e q p) (is_slot q (waits_for e p)) m)))

      by_partner_of : (x : Partner) → Receiving x ≡ (process_at w.table p).state → IsShut (Behind (end_of w)) w.services w.table p (Receiving x)
      by_partner_of partner.Any e =
          let k = served w sound p (lies (ap is_blocked (sym e))) in
          let none = unwoken k.1 in
          record {
            lines = no_line w sound p (sym (line_is w sound p k.0 k.1 k.2 (ap (λ st. takes_lines (doing_of Slots w.table p st)) (sym e))) ∙ none.0);
            alarm = sym (alarm_is w sound p k.0 k.1 k.2 (ap (λ st. takes_alarms (doing_of Slots w.table p st)) (sym e))) ∙ none.1;
            senders = unsent k.1;
          }
      by_partner_of partner.System e = tt
      by_partner_of (partner.Only source.Hardware) e =
          let k = served w sound p (lies (ap is_blocked (sym e))) in
          no_line w sound p (sym (line_is w sound p k.0 k.1 k.2 (ap (λ st. takes_lines (doing_of Slots w.table p st)) (sym e))) ∙ (unwoken k.1).0)
      by_partner_of (partner.Only source.Clock) e =
          let k = served w sound p (lies (ap is_blocked (sym e))) in
          sym (alarm_is w sound p k.0 k.1 k.2 (ap (λ st. takes_alarms (doing_of Slots w.table p st)) (sym e))) ∙ (unwoken k.1).1
      by_partner_of (partner.Only (source.Slot q)) e =
          let k = served w sound p (lies (ap is_blocked (sym e))) in
          let waits : waits_for (end_of w) p ≡ Some q = ap partner_if (does_is w p k.0 k.1 k.2) ∙ ap (λ st. partner_of (doing_of Slots w.table p st)) (sym e) in
          (zero, q, refl, waits_unreached p q k.1 waits out)
  unreached_shut p out (Awaiting q) e =
      let k = served w sound p (blocked_within w.table.slots p (ap is_blocked (sym e))) in
      let waits : waits_for (end_of w) p ≡ Some q = ap partner_if (does_is w p k.0 k.1 k.2) ∙ ap (λ st. partner_of (doing_of Slots w.table p st)) (sym e) in
      (zero, q, refl, waits_unreached p q k.1 waits out)
  unreached_shut p out (Down c) e = λ v at.
      let both = worn_at w.table.slots w.services p v (and_parts (is_none (first_ready w.table.ready) && (out_count w.cpus == 0)) (down_are_worn w.table.slots w.services) parts).1 (sym sound.holds.served) at in
      subst (λ (d : Bool). (not d || is_worn (process_at w.table p) v) ≡ true) (ap is_down (sym e)) both

  behind_shut : Shut (Behind (end_of w)) w.services w.table
  behind_shut = record {
    each = λ p c. each p c.0 c.1 c.2 c.3;
    pairs = λ p q pair c. pairs p q pair c.0 c.1 c.2 c.3;
  }
    where
      each : (p k r : ℕ) → Path (end_of w) k p r → is_among (reached (end_of w)) r ≡ false → IsShut (Behind (end_of w)) w.services w.table p (process_at w.table p).state
      each p zero r path out = unreached_shut p (subst (λ i. is_among (reached (end_of w)) i ≡ false) (sym path) out) (process_at w.table p).state refl
      each p (suc k) r path out = waits_shut (Behind (end_of w)) w.services w.table p path.0 (process_at w.table p).state (waits_from w p path.0 path.1) (k, r, path.2, out)

      pairs : (p q : ℕ) → IsPair w.table.waits p q → (k r : ℕ) → Path (end_of w) k p r → is_among (reached (end_of w)) r ≡ false → Behind (end_of w) q
      pairs p q pair zero r path out =
          let known = sender_known w.table p sound.table (sends-pair w.table.waits p q pair) in
          let lp = (served w sound p known.0).1 in
          (zero, q, refl, waits_unreached p q lp (pair_waits w sound p q pair) (subst (λ i. is_among (reached (end_of w)) i ≡ false) (sym path) out))
      pairs p q pair (suc k) r path out = subst (Behind (end_of w)) (some_is (sym path.1 ∙ pair_waits w sound p q pair)) (k, r, path.2, out)

-- ---- the law

doing_same : (t u : TableState) (s : ℕ) (st : State) → next_of s u.waits ≡ next_of s t.waits → doing_of Slots u s st ≡ doing_of Slots t s st
unfolding doing_of receiver_of awaited_of
doing_same t u s Home e = refl
doing_same t u s Ready e = refl
doing_same t u s Out e = refl
doing_same t u s Doomed e = refl
doing_same t u s Sending e = ap (λ (o : Option ℕ). doing.Sending (unwrap_or o s)) e
doing_same t u s Calling e = ap (λ (o : Option ℕ). doing.Calling (unwrap_or o s)) e
doing_same t u s (Receiving partner.Any) e = refl
doing_same t u s (Receiving partner.System) e = refl
doing_same t u s (Receiving (partner.Only source.Hardware)) e = refl
doing_same t u s (Receiving (partner.Only source.Clock)) e = refl
doing_same t u s (Receiving (partner.Only (source.Slot q))) e = refl
doing_same t u s (Awaiting q) e = refl
doing_same t u s (Down c) e = refl

-- what one of slots that are kept does
kept_does : (C : ℕ → Type 0) (w u : World) (s : ℕ) (v : Service) → s < 32 → slice_get w.services s ≡ Some v → u.services ≡ w.services → C s → Keeps C w.table u.table → doing_in (end_of u) s ≡ doing_in (end_of w) s
kept_does C w u s v lt at same c k =
    does_is u s v lt (subst (λ vs. slice_get vs s ≡ Some v) (sym same) at)
    ∙ ap Some (doing_same w.table u.table s (process_at u.table s).state (k.next s c) ∙ ap (λ (y : State × ℕ × ℕ). doing_of Slots w.table s y.0) (k.inside s c))
    ∙ sym (does_is w s v lt at)

module _ (w : World) (s : ℕ) (x : Verdict) (sound : IsSound w) (never : is_never x ≡ true) (Result : Type 0) (v : Service) (lt : s < 32) (at : slice_get w.services s ≡ Some v) (by_it : Shut (IsIt s) w.services w.table → Result) (by_ring : Shut (λ p. (m : ℕ) → Goes (end_of w) m p) w.services w.table → ((m : ℕ) → Goes (end_of w) m s) → Result)
    (by_behind : Shut (Behind (end_of w)) w.services w.table → Behind (end_of w) s → Result) where
  by_last : (o : Option ℕ) → slice_get (chain (end_of w) s) (length (chain (end_of w) s) - 1) ≡ o → behind_if (end_of w) o ≡ Some x → Result
  unfolding behind chain
  by_last None e h = absurd (none_some h)
  by_last (Some last) e h = by_rest (end_of w).at_rest refl h
    where
      by_reach : (b : Bool) → is_among (reached (end_of w)) last ≡ b → Some (cond b (MayComeBy last) (NothingComes last)) ≡ Some x → is_among (reached (end_of w)) last ≡ false
      by_reach true f i = absurd (false≢true (ap is_never (some_is i) ∙ never))
      by_reach false f i = f

      by_rest : (b : Bool) → (end_of w).at_rest ≡ b → cond b (Some (cond (is_among (reached (end_of w)) last) (MayComeBy last) (NothingComes last))) None ≡ Some x → Result
      by_rest true f i =
          by_behind (behind_shut w sound f)
          (suc (length (chain_of 32 (end_of w) s) - 1), last, chain_path (end_of w) 32 s (length (chain_of 32 (end_of w) s) - 1) last e, by_reach (is_among (reached (end_of w)) last) refl i)
      by_rest false f i = absurd (none_some i)

  by_closing : (b : Bool) → cond b (closed (chain (end_of w) s) s) (behind_if (end_of w) (slice_get (chain (end_of w) s) (length (chain (end_of w) s) - 1))) ≡ Some x → Result
  by_closing true h = by_ring (ring_shut w sound) (closed_goes (end_of w) s x h)
  by_closing false h = by_last (slice_get (chain (end_of w) s) (length (chain (end_of w) s) - 1)) refl h

  by_waiting : (o : Option ℕ) → partner_of (now_does w s) ≡ o → by_partner (end_of w) s (now_does w s) o ≡ Some x → Result
  by_waiting None e h = by_it (it_shut w sound s v lt at x never e h)
  by_waiting (Some p) e h = by_closing (nat_le 32 (length (chain (end_of w) s))) h

stays : (w : World) (s : ℕ) (x : Verdict) (y : ℕ × Event) (ys : List (ℕ × Event)) → AreSound w (y ∷ ys) → HaveTheirTerms w → AreNoKills w (y ∷ ys)
    → verdict (end_of w) s ≡ Some x → is_never x ≡ true → doing_in (end_of (moves w (y ∷ ys)).1) s ≡ doing_in (end_of w) s
unfolding verdict
stays w s x y ys sound terms spared said never = by_doing (doing_in (end_of w) s) refl said
  where
    by : (v : Service) → s < 32 → slice_get w.services s ≡ Some v → (C : ℕ → Type 0) → Shut C w.services w.table → C s → doing_in (end_of (moves w (y ∷ ys)).1) s ≡ doing_in (end_of w) s
    by v lt at C h c =
        kept_does C w (moves w (y ∷ ys)).1 s v lt at (same_services_after (y ∷ ys) w) c (run_keeps (y ∷ ys) C w sound terms h (all_spared (y ∷ ys) C w spared))

    by_doing : (o : Option Doing) → doing_in (end_of w) s ≡ o → verdict_on (end_of w) s o ≡ Some x → doing_in (end_of (moves w (y ∷ ys)).1) s ≡ doing_in (end_of w) s
    by_doing None e h = absurd (none_some h)
    by_doing (Some d) e h =
        let k = does_from w s d e in
        by_waiting w s x sound.0 never (doing_in (end_of (moves w (y ∷ ys)).1) s ≡ doing_in (end_of w) s) k.0 k.1 k.2
        (λ shut. by k.0 k.1 k.2 (IsIt s) shut refl)
        (λ shut c. by k.0 k.1 k.2 (λ p. (m : ℕ) → Goes (end_of w) m p) shut c)
        (λ shut c. by k.0 k.1 k.2 (Behind (end_of w)) shut c)
        (partner_of (now_does w s)) refl (subst (λ z. by_partner (end_of w) s z (partner_of z) ≡ Some x) (sym k.3) h)

-- WHO IS SAID TO WAIT FOR EVER
pub stays_waiting : (boot : World) (history : List (ℕ × Event)) (s : ℕ) (said : Verdict) (more : List (ℕ × Event)) → StaysWaiting boot history s said more
stays_waiting boot history s said [] is_boot sound also spared h never = refl
stays_waiting boot history s said (x ∷ xs) is_boot sound also spared h never =
    stays (moves boot history).1 s said x xs also (their_terms history boot is_boot sound) spared h never
