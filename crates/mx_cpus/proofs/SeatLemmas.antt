-- What a record does to a seat, to the desk and to a loan.
use Rattle.std.proofs.Common.{◌≡◌, ◌∙◌, ℕ, Bool, Result, Ok, List, [], ◌∷◌, ◌++◌, slice_set, Option, Some, None, refl, sym, ap, subst}
use mathlib.Core.List.{IsPrefix}
use Rattle.atomic_table.specs.Seated.{TableId}
use Rattle.mx_machine.specs.declared.events.Answer.{Answer}
use Rattle.mx_machine.specs.declared.events.Event.{Event}
use Rattle.mx_machine.specs.declared.events.Event.TheVariants as events
use Rattle.mx_machine.specs.declared.events.Refusal.{Refusal}
use Rattle.mx_machine.specs.declared.history.Record.{Record}
use Rattle.mx_machine.specs.declared.history.Recorded.{Recorded}
use Rattle.mx_machine.specs.declared.history.Recorded.TheVariants as recorded
use Rattle.mx_machine.specs.declared.holding.Out.{Out}
use Rattle.mx_machine.specs.KernelState.{recorded_as}
use Rattle.mx_machine.specs.History.{AreAccepted, BootAndHistory, events_of, part_of, replay, events_of_history, with_record, world_after_events}
use Rattle.mx_machine.specs.Move.{world_after_event, event_answer, event_refusal, move, with_held}
use Rattle.mx_machine.specs.Rest.{at_rest}
use Rattle.mx_machine.specs.World.{World, HeldProcess, held_by}
use Rattle.mx_machine.proofs.PartLemmas.{part_own}
use Rattle.mx_machine.proofs.ReplayLemmas.{last_accepted}
use Rattle.mx_loan.proofs.Fronts.{prefix_trans}
use Rattle.mx_loan.specs.Seats.{DeskView, SeatView, LoanView, IsSeatOf, back_record, desk_after_back, desk_after_event, desk_after_take, new_loan, record_of, take_record, seat_after_back, seat_after_event, seat_after_take, seat_seeing}
use Rattle.mx_spool.specs.Written.{console_of_history}
use Rattle.mx_cpus.specs.Calls.{EndsDead, Follows, IsAcceptedCall, IsAnsweredCall, IsAnsweredHere, IsKillCall, IsLentAt, IsRefusedCall, IsRefusedKill, IsRestCall, IsAcceptedHistory, desk_beside, endpoint_now, event_of, is_dead, outs_of, slot_of, steps_of, world_after}
use Rattle.mx_cpus.proofs.WorldLemmas.{back_outs, moved_by}

-- the seat after its own record, with the kernel as it was
abbrev pub recorded_seat : SeatView → BootAndHistory → Recorded → Option Out → SeatView
recorded_seat s k e x = record { table = s.table; actor = s.actor; mine = s.mine ++ record_of s.actor e ∷ []; seen = k.history ++ record_of s.actor e ∷ []; held = x }

-- a seat that was shown the history, and whose event was recorded then
pub seat_of_event : (z : TableId) (k : BootAndHistory) (d c e : DeskView) (s u t : SeatView) (r x : Recorded) → d ≡ desk_beside z k → u ≡ seat_seeing s d.history → c ≡ d → e ≡ desk_after_event c u.actor r → t ≡ seat_after_event u e r → r ≡ x
    → t ≡ recorded_seat s k x s.held
seat_of_event z k d c e s u t r x is shown same desk seat event =
    let before = same ∙ is in
    let noted = shown ∙ ap (λ (y : DeskView). seat_seeing s y.history) is in
    seat ∙ ap (λ (y : DeskView). seat_after_event u y r) (desk ∙ ap (λ (y : DeskView). desk_after_event y u.actor r) before)
    ∙ ap (λ (v : SeatView). seat_after_event v (desk_after_event (desk_beside z k) v.actor r) r) noted
    ∙ ap (λ (y : Recorded). recorded_seat s k y s.held) event

-- or which was lent something
pub seat_of_take : (z : TableId) (k : BootAndHistory) (d c e : DeskView) (s u t : SeatView) (o : Out) → d ≡ desk_beside z k → u ≡ seat_seeing s d.history → c ≡ d → e ≡ desk_after_take c u.actor o → t ≡ seat_after_take u e o
    → t ≡ recorded_seat s k recorded.Take (Some o)
seat_of_take z k d c e s u t o is shown same desk seat =
    let before = same ∙ is in
    let noted = shown ∙ ap (λ (y : DeskView). seat_seeing s y.history) is in
    seat ∙ ap (λ (y : DeskView). seat_after_take u y o) (desk ∙ ap (λ (y : DeskView). desk_after_take y u.actor o) before)
    ∙ ap (λ (v : SeatView). seat_after_take v (desk_after_take (desk_beside z k) v.actor o) o) noted

-- or which brought something back
pub seat_of_back : (z : TableId) (k : BootAndHistory) (d e : DeskView) (s t : SeatView) (n : ℕ) → d ≡ desk_beside z k → e ≡ desk_after_back d s.actor n → t ≡ seat_after_back s e n
    → t ≡ recorded_seat s k (recorded.Back n) None
seat_of_back z k d e s t n is desk seat = seat ∙ ap (λ (y : DeskView). seat_after_back s y n) (desk ∙ ap (λ (y : DeskView). desk_after_back y s.actor n) is)

-- what the desk knows of a seat holds of the kernel's history
pub known_by : (z : TableId) (k : BootAndHistory) (d : DeskView) (s : SeatView) → d ≡ desk_beside z k → IsSeatOf s d → IsSeatOf s (desk_beside z k)
known_by z k d s is known = subst (IsSeatOf s) is known

-- a desk by its parts
same_desk : (z : TableId) (g h : List Record) (l m : List (Option Out)) → g ≡ h → l ≡ m → (let d : DeskView = record { table = z; history = g; lent = l } in d) ≡ record { table = z; history = h; lent = m }
same_desk z g h l m p q = ap (λ x. let d : DeskView = record { table = z; history = x; lent = l } in d) p ∙ ap (λ x. let d : DeskView = record { table = z; history = h; lent = x } in d) q

-- what came back is lent no more
pub desk_after_give : (z : TableId) (k n : BootAndHistory) (d e : DeskView) (a b c : ℕ) (l : HeldProcess) (o : Out) → d ≡ desk_beside z k → e ≡ desk_after_back d a c
    → b ≡ a → o.count ≡ c → n ≡ with_record k b (recorded.Back o.count) → held_by (replay k) b ≡ Some l
    → ((m : HeldProcess) → held_by (replay k) b ≡ Some m → replay n ≡ world_after_event (with_held (replay k) b (Some (record m { out = o }))) b events.Back)
    → e ≡ desk_beside z n
desk_after_give z k n d e a b c l o is now who count made held world =
    now ∙ ap (λ x. desk_after_back x a c) is
    ∙ same_desk z (k.history ++ back_record a c ∷ []) n.history (slice_set (outs_of (replay k)) a None) (outs_of (replay n))
    (sym (ap (λ (x : BootAndHistory). x.history) made ∙ ap (λ i. k.history ++ record_of i (recorded.Back o.count) ∷ []) who ∙ ap (λ i. k.history ++ back_record a i ∷ []) count))
    (sym (back_outs (replay k) (replay n) b l o held (world l held) ∙ ap (λ i. slice_set (outs_of (replay k)) i None) who))

-- what was taken is lent
pub desk_after_lend : (z : TableId) (k n : BootAndHistory) (d c e : DeskView) (a b : ℕ) (o : Out) → d ≡ desk_beside z k → c ≡ d → e ≡ desk_after_take c a o → b ≡ a → n ≡ with_record k b recorded.Take
    → outs_of (replay n) ≡ slice_set (outs_of (replay k)) b (Some o) → e ≡ desk_beside z n
desk_after_lend z k n d c e a b o is same now who made outs =
    now ∙ ap (λ x. desk_after_take x a o) (same ∙ is)
    ∙ same_desk z (k.history ++ take_record a ∷ []) n.history (slice_set (outs_of (replay k)) a (Some o)) (outs_of (replay n))
    (sym (ap (λ (x : BootAndHistory). x.history) made ∙ ap (λ i. k.history ++ take_record i ∷ []) who))
    (sym (outs ∙ ap (λ i. slice_set (outs_of (replay k)) i (Some o)) who))

-- an event that changes no loan was recorded
pub desk_after_made : (z : TableId) (k n : BootAndHistory) (d c e : DeskView) (a b : ℕ) (r x : Recorded) → d ≡ desk_beside z k → c ≡ d → e ≡ desk_after_event c a r → b ≡ a → r ≡ x → n ≡ with_record k b x
    → outs_of (replay n) ≡ outs_of (replay k) → e ≡ desk_beside z n
desk_after_made z k n d c e a b r x is same now who event made outs =
    now ∙ ap (λ y. desk_after_event y a r) (same ∙ is)
    ∙ same_desk z (k.history ++ record_of a r ∷ []) n.history (outs_of (replay k)) (outs_of (replay n))
    (sym (ap (λ (m : BootAndHistory). m.history) made ∙ ap (λ i. k.history ++ record_of i x ∷ []) who ∙ ap (λ y. k.history ++ record_of a y ∷ []) (sym event))) (sym outs)

-- a call that was recorded
pub accepted_by : (boot : World) (k n : BootAndHistory) (s t : SeatView) (b : ℕ) (e : Recorded) (holding : Option Out) (IsAnswered : World → Answer → Type 0) → k.boot ≡ boot → IsPrefix s.seen k.history → s.mine ≡ part_of k.history s.actor → b ≡ s.actor → n ≡ with_record k b e
    → t ≡ recorded_seat s k e holding → AreAccepted n.boot (events_of_history n.history) → IsAnswered (replay k) (event_answer (world_after_events (replay k) (steps_of b e)) b (event_of e)) → IsAcceptedCall boot s t e holding IsAnswered
accepted_by boot k n s t b e holding IsAnswered is front mine who made now all after =
    let r = record_of s.actor e in
    let seen : t.seen ≡ k.history ++ r ∷ [] = ap (λ (u : SeatView). u.seen) now in
    let actor : t.actor ≡ s.actor = ap (λ (u : SeatView). u.actor) now in
    let own : t.mine ≡ s.mine ++ r ∷ [] = ap (λ (u : SeatView). u.mine) now in
    let accepted = last_accepted k n b e made all in
    let x = event_answer (world_after_events (replay k) (steps_of b e)) b (event_of e) in
    let same : n.history ≡ t.seen = ap (λ (m : BootAndHistory). m.history) made ∙ ap (λ i. k.history ++ record_of i e ∷ []) who ∙ sym seen in
    record {
      history = subst (λ c. IsAcceptedHistory c t.seen) (ap (λ (m : BootAndHistory). m.boot) made ∙ is) (subst (IsAcceptedHistory n.boot) same all);
      follows = record {
        table = ap (λ (u : SeatView). u.table) now;
        actor = actor;
        seen = subst (IsPrefix s.seen) (sym seen) (prefix_trans s.seen k.history (k.history ++ r ∷ []) front (r ∷ [], refl));
        own = own ∙ ap (λ l. l ++ r ∷ []) mine ∙ sym (part_own k.history s.actor e) ∙ ap (λ h. part_of h s.actor) (sym seen) ∙ ap (part_of t.seen) (sym actor);
      };
      mine = own;
      held = ap (λ (u : SeatView). u.held) now;
      before = k.history;
      ends = seen;
      later = front;
      allowed = subst (λ c. AreAccepted (world_after c k.history) (events_of s.actor e)) is (subst (λ i. AreAccepted (replay k) (events_of i e)) who accepted);
      answer = x;
      moves = subst (λ c. move (world_after_events (world_after c k.history) (steps_of s.actor e)) s.actor (event_of e) ≡ (Ok x, world_after c t.seen)) is
          (subst (λ i. move (world_after_events (replay k) (steps_of i e)) i (event_of e) ≡ (Ok x, world_after k.boot t.seen)) who
          (moved_by k b e accepted ∙ ap (λ u. let r : Result Answer Refusal × World = (Ok x, u) in r) (ap replay (sym made) ∙ ap (λ c. world_after c n.history) (ap (λ (m : BootAndHistory). m.boot) made) ∙ ap (world_after k.boot) same)));
      answered = subst (λ c. IsAnswered (world_after c k.history) x) is after;
    }

-- whether the process that came back is dead
pub dead_by : (boot : World) (k n : BootAndHistory) (s t : SeatView) (b c : ℕ) (died : Bool) → k.boot ≡ boot → b ≡ s.actor → n ≡ with_record k b (recorded.Back c) → t ≡ recorded_seat s k (recorded.Back c) None
    → died ≡ is_dead (replay n) (slot_of (replay k) b) → EndsDead boot t died
dead_by boot k n s t b c died is who made now dead =
    subst (λ w. EndsDead w t died) is (subst (λ (u : SeatView). EndsDead k.boot u died) (sym now) (
      k.history,
      c,
      refl,
      dead ∙ ap (λ (m : BootAndHistory). is_dead (replay m) (slot_of (replay k) b)) made ∙ ap (λ i. is_dead (replay (with_record k i (recorded.Back c))) (slot_of (replay k) i)) who,
    ))

-- a call that recorded nothing: the seat was shown the history
shown_follows : (k : BootAndHistory) (s : SeatView) → IsPrefix s.seen k.history → s.mine ≡ part_of k.history s.actor → Follows s (seat_seeing s k.history)
shown_follows k s front own = record { table = refl; actor = refl; seen = front; own = own }

seat_shown : (z : TableId) (k : BootAndHistory) (d : DeskView) (s t : SeatView) → d ≡ desk_beside z k → t ≡ seat_seeing s d.history → seat_seeing s k.history ≡ t
seat_shown z k d s t is shown = sym (shown ∙ ap (λ (y : DeskView). seat_seeing s y.history) is)

pub refused_by : (boot : World) (z : TableId) (k : BootAndHistory) (d : DeskView) (s t : SeatView) (b : ℕ) (e : Event) (r : Refusal) → k.boot ≡ boot → d ≡ desk_beside z k → IsSeatOf s d → t ≡ seat_seeing s d.history
    → b ≡ t.actor → IsAcceptedHistory k.boot k.history → event_refusal (replay k) b e ≡ Some r → IsRefusedCall boot s t e r
refused_by boot z k d s t b e r is desk known shown who all refused =
    let seat = seat_shown z k d s t desk shown in
    let here = known_by z k d s desk known in
    let same : b ≡ s.actor = who ∙ ap (λ (x : SeatView). x.actor) (sym seat) in
    subst (λ w. IsRefusedCall w s t e r) is (subst (λ (x : SeatView). IsRefusedCall k.boot s x e r) seat record {
      follows = shown_follows k s here.0 here.1;
      history = all;
      mine = refl;
      held = refl;
      refused = ap (λ i. event_refusal (replay k) i e) (sym same) ∙ refused;
    })

pub rest_by : (boot : World) (z : TableId) (k : BootAndHistory) (d : DeskView) (s t : SeatView) (rest : Bool) → k.boot ≡ boot → d ≡ desk_beside z k → IsSeatOf s d → t ≡ seat_seeing s d.history
    → IsAcceptedHistory k.boot k.history → rest ≡ at_rest (replay k) → IsRestCall boot s t rest
rest_by boot z k d s t rest is desk known shown all answered =
    let here = known_by z k d s desk known in
    subst (λ w. IsRestCall w s t rest) is (subst (λ (x : SeatView). IsRestCall k.boot s x rest) (seat_shown z k d s t desk shown) record {
      follows = shown_follows k s here.0 here.1;
      history = all;
      mine = refl;
      held = refl;
      lent = here.2;
      answered = answered;
    })

-- what was lent
pub lent_by : (boot : World) (n : BootAndHistory) (t : SeatView) (l : LoanView) (a : ℕ) (o : Out) → n.boot ≡ boot → t.seen ≡ n.history → t.actor ≡ a → l ≡ new_loan a o → (x : HeldProcess) × (held_by (replay n) a ≡ Some x) × (x.out ≡ o)
    → IsLentAt (world_after boot t.seen) t.actor l
lent_by boot n t l a o is seen who made lent =
    let same : l.lent ≡ o = ap (λ (m : LoanView). m.lent) made in
    record {
      actor = ap (λ (m : LoanView). m.actor) made ∙ sym who;
      fresh = ap (λ (m : LoanView). m.out) made ∙ sym same;
      lends = (
        lent.0,
        ap (λ h. held_by (world_after boot h) t.actor) seen ∙ ap (λ b. held_by (world_after b n.history) t.actor) (sym is) ∙ ap (held_by (replay n)) who ∙ lent.1,
        lent.2 ∙ sym same,
      );
    }

-- what a seat that was shown the history has seen is the kernel's
history_seen : (z : TableId) (k : BootAndHistory) (d : DeskView) (s t : SeatView) → d ≡ desk_beside z k → t ≡ seat_seeing s d.history → k.history ≡ t.seen
history_seen z k d s t desk shown = ap (λ (u : SeatView). u.seen) (seat_shown z k d s t desk shown)

pub world_seen : (boot : World) (z : TableId) (k : BootAndHistory) (d : DeskView) (s t : SeatView) → k.boot ≡ boot → d ≡ desk_beside z k → t ≡ seat_seeing s d.history → replay k ≡ world_after boot t.seen
world_seen boot z k d s t is desk shown = ap (λ w. world_after w k.history) is ∙ ap (world_after boot) (history_seen z k d s t desk shown)

pub console_seen : (boot : World) (z : TableId) (k : BootAndHistory) (d : DeskView) (s t : SeatView) → k.boot ≡ boot → d ≡ desk_beside z k → t ≡ seat_seeing s d.history → console_of_history k.boot k.history ≡ console_of_history boot t.seen
console_seen boot z k d s t is desk shown = ap (λ w. console_of_history w k.history) is ∙ ap (console_of_history boot) (history_seen z k d s t desk shown)

-- ---- a call at a world that is known

-- what is known of the answer, by what else is known of it
answered_as : (boot : World) (s t : SeatView) (e : Recorded) (holding : Option Out) (P Q : World → Answer → Type 0) → ((w : World) (x : Answer) → P w x → Q w x) → IsAcceptedCall boot s t e holding P → IsAcceptedCall boot s t e holding Q
answered_as boot s t e holding P Q weaker h = record {
  follows = h.follows;
  history = h.history;
  mine = h.mine;
  held = h.held;
  before = h.before;
  ends = h.ends;
  later = h.later;
  allowed = h.allowed;
  answer = h.answer;
  moves = h.moves;
  answered = weaker (world_after boot h.before) h.answer h.answered;
}

-- it was made at some world
pub answered_once : (boot here : World) (s t : SeatView) (e : Event) (x : Answer) → IsAnsweredHere boot here s t e x → IsAnsweredCall boot s t e x
answered_once boot here s t e x h = answered_as boot s t (recorded_as e) s.held (λ w answer. (answer ≡ x) × (w ≡ here)) (λ w answer. answer ≡ x) (λ w answer made. made.0) h

-- a kill of the process that a slot had there
pub kill_once : (boot here : World) (slot e : ℕ) (s t : SeatView) (x : Answer) → e ≡ endpoint_now here.table slot → IsAnsweredHere boot here s t (events.Kill e) x → IsKillCall boot slot s t e x
kill_once boot here slot e s t x is h =
    answered_as boot s t (recorded.Kill e) s.held (λ w answer. (answer ≡ x) × (w ≡ here)) (λ w answer. (answer ≡ x) × (e ≡ endpoint_now w.table slot))
    (λ w answer made. (made.0, is ∙ ap (λ (u : World). endpoint_now u.table slot) (sym made.1))) h

pub kill_refused_once : (boot here : World) (slot e : ℕ) (s t : SeatView) (r : Refusal) → e ≡ endpoint_now here.table slot → IsRefusedCall boot s t (events.Kill e) r × (world_after boot t.seen ≡ here) → IsRefusedKill boot slot s t e r
kill_refused_once boot here slot e s t r is h = (h.0, is ∙ ap (λ (u : World). endpoint_now u.table slot) (sym h.1))
