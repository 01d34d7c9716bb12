-- The deliveries in the facts are those that the event makes.
use Rattle.std.proofs.Common.{◌≡◌, ◌≢◌, ◌∙◌, ℕ, zero, suc, ◌<◌, ◌≤◌, ◌%◌, ◌==◌, ◌&&◌, ◌||◌, not, nat_lt, Bool, true, false, cond, List, [], ◌∷◌, ◌++◌, length, length-append, length-set, map, Option, Some, None, refl, sym, ap, ap₂, subst, get_or, slice_get, slice_set, inl, inr, arith}
use Rattle.std.proofs.lemmas.Bool.{cases_eq, eq-eqb, lt-ltb, ltb-false, ltb-true, ne_eqb}
use Rattle.std.proofs.lemmas.Option.{slice_get_past}
use Rattle.std.proofs.lemmas.List.FromFn.{get_or-map-range_with_len}
use Rattle.std.specs.Option.{option_map}
use Rattle.mx_image.specs.declared.runs.Stop.{Stop}
use Rattle.mx_image.specs.declared.runs.Stop.TheVariants.{Spent, Trap, Fault}
use Rattle.mx_proc.specs.declared.deliveries.Delivery.{Delivery}
use Rattle.mx_proc.specs.declared.process.Process.{Process}
use Rattle.mx_proc.specs.declared.process.Source.TheVariants as source
use Rattle.mx_proc.specs.declared.process.State.{State}
use Rattle.mx_proc.specs.declared.process.State.TheVariants.{Home, Ready, Out, Doomed, Sending, Calling, Receiving, Awaiting, Down}
use Rattle.mx_proc.specs.Queues.{first_ready}
use Rattle.mx_proc.specs.Serving.{with_line, with_tick}
use Rattle.mx_proc.specs.States.{is_blocked, is_out}
use Rattle.mx_proc.specs.TableState.{TableState, nobody, process_at}
use Rattle.mx_kcall.specs.Calls.{trap_answer}
use Rattle.mx_kcall.specs.Clock.{due_slots}
use Rattle.mx_kcall.specs.Refusals.{owner_of}
use Rattle.mx_kcall.specs.Service.{Service}
use Rattle.mx_machine.specs.declared.events.Event.{Event}
use Rattle.mx_machine.specs.declared.events.Event.TheVariants as event
use Rattle.mx_machine.specs.declared.history.Record.{Record}
use Rattle.mx_machine.specs.declared.history.Recorded.{Recorded}
use Rattle.mx_machine.specs.declared.history.Recorded.TheVariants as recorded
use Rattle.mx_machine.specs.History.{events_of, world_after_events}
use Rattle.mx_machine.specs.Move.{back_refusal, event_refusal, is_doomed, table_after_coming_home, world_after_back, world_after_event, world_after_line, world_after_respawn, world_after_step, world_after_take}
use Rattle.mx_machine.specs.Sound.{IsSound}
use Rattle.mx_machine.specs.World.{World, HeldProcess, held_by}
use Rattle.mx_laws.specs.Diary.{Item, items_for}
use Rattle.mx_laws.specs.Diaries.{diary, diary_of_back, image_held_in, items_of_kill, items_of_line, items_of_rings, unless_held}
use Rattle.mx_laws.specs.Entries.{is_receiving}
use Rattle.mx_laws.specs.Items.{items_of_death, items_of_end_of_turn, items_of_notifying, items_of_trap}
use Rattle.mx_laws.specs.DiaryLaws.{IsSlot, IsWritten}
use Rattle.mx_laws.proofs.EntryLemmas.{receiving_blocked}
use Rattle.mx_laws.proofs.SoundDiaries.{not_held}
use Rattle.mx_print_report.specs.declared.doing.Naming.TheVariants.{Endpoints}
use Rattle.mx_print_report.specs.SlotDoing.{doing_of}
use Rattle.mx_look.specs.Glances.{glance_of, glance_of_slot, held_glance, slot_glance, slot_glances}
use Rattle.mx_look.specs.Images.{image_glance}
use Rattle.mx_look.specs.Kept.{latest_deliveries}
use Rattle.mx_look.specs.declared.transition.Transition.{Transition}
use Rattle.mx_look.specs.Doings.{is_listening, is_out as is_out_doing, is_waiting, seen_is}
use Rattle.mx_look.specs.Going.{acting, acting_of, calls_receive, calls_receive_by, gone_on, got, is_acted, is_acted_by, is_trap, is_zero, result_in}
use Rattle.mx_look.specs.Transition.{slot_in}
use Rattle.mx_app_step.specs.Traces.{own_event, transition_of}
use Rattle.mx_laws.specs.Made.{ToldAreMade, with_slot}
use Rattle.mx_laws.specs.Told.{IsMadeIn, result_written, world_before}
use Rattle.mx_laws.proofs.Getting.{AreFew, death_zero, IsGot, none_got, notifying_got, own_got, trap_got}
use Rattle.mx_laws.proofs.GoneOn.{gone_on_told, own_accepted, own_after, service_at}
use Rattle.mx_laws.proofs.Keeping.{event_keeps, keep, made_in, made_of_back, made_of_end_of_turn, made_of_line, made_of_rings}
use Rattle.mx_laws.proofs.Latest.{Ascend, ascend_length, ascend_within, is_to, kept_short, latest_seen, made_last, not_beyond, only_made, told_slots}
use Rattle.mx_laws.proofs.Ordered.{notifying_ascends, rings_ascend, rings_got, trap_ascends}
use Rattle.mx_laws.proofs.ReadyCalls.{and_false, and_true}
use Rattle.mx_laws.proofs.Returned.{held_out, holds_in, home_ecx, home_long, home_other, home_own, home_queued}
use Rattle.mx_laws.proofs.Seen.{cpu_seen, out_seen, slot_seen}

true_false : {b : Bool} → b ≡ true → b ≡ false → ⊥
true_false e f = cc

or_false : (b : Bool) → (b || false) ≡ b
or_false true = refl
or_false false = refl

blocked_stays : (st : State) → is_blocked st ≡ true → is_out st ≡ false
blocked_stays Home e = cc
blocked_stays Ready e = cc
blocked_stays Out e = cc
blocked_stays Doomed e = cc
blocked_stays Sending e = refl
blocked_stays Calling e = refl
blocked_stays (Receiving p) e = refl
blocked_stays (Awaiting d) e = refl
blocked_stays (Down c) e = cc

out_deaf : (st : State) → is_out st ≡ true → is_receiving st ≡ false
out_deaf Home e = cc
out_deaf Ready e = cc
out_deaf Out e = refl
out_deaf Doomed e = refl
out_deaf Sending e = cc
out_deaf Calling e = cc
out_deaf (Receiving p) e = cc
out_deaf (Awaiting d) e = cc
out_deaf (Down c) e = cc

-- a change of one process that leaves its state leaves all states
state_kept : (ps : List Process) (q s : ℕ) (x : Process) → x.state ≡ (get_or ps q nobody).state → (get_or (slice_set ps q x) s nobody).state ≡ (get_or ps s nobody).state
state_kept [] q s x e = refl
state_kept (p ∷ ps) zero zero x e = e
state_kept (p ∷ ps) zero (suc s) x e = refl
state_kept (p ∷ ps) (suc q) zero x e = refl
state_kept (p ∷ ps) (suc q) (suc s) x e = state_kept ps q s x e

-- ---- what is seen

listening_is : (t : TableState) (s : ℕ) (st : State) → is_listening (doing_of Endpoints t s st) ≡ is_receiving st
unfolding doing_of
listening_is t s Home = refl
listening_is t s Ready = refl
listening_is t s Out = refl
listening_is t s Doomed = refl
listening_is t s Sending = refl
listening_is t s Calling = refl
listening_is t s (Receiving p) = refl
listening_is t s (Awaiting d) = refl
listening_is t s (Down c) = refl

listening_seen : (w : World) (s : ℕ) (p : Service) → s < 32 → slice_get w.services s ≡ Some p → seen_is is_listening (slot_in (glance_of w) s) ≡ is_receiving (process_at w.table s).state
unfolding glance_of_slot
listening_seen w s p lt e = ap (seen_is is_listening) (slot_seen w s p lt e) ∙ listening_is w.table s (process_at w.table s).state

unseen : (w : World) (s : ℕ) → s < 32 → length w.services ≤ s → slot_in (glance_of w) s ≡ None
unfolding slot_glances
unseen w s lt past =
    ap (λ b. cond b (get_or (slot_glances w.table w.services) s None) None) (lt-ltb s 32 lt)
    ∙ get_or-map-range_with_len (slot_glance w.table w.services) 0 32 s s None lt (omega arith)
    ∙ ap (option_map (glance_of_slot w.table s)) (slice_get_past w.services s past)

same_services : (w : World) (a : ℕ) (e : Event) → (world_after_event w a e).services ≡ w.services
unfolding world_after_event
same_services w a event.Step = by_option (held_by w a)
  where
    by_option : (o : Option HeldProcess) → (world_after_step w a o).services ≡ w.services
    by_option None = refl
    by_option (Some l) = refl
same_services w a event.Take = by_option (first_ready w.table.ready)
  where
    by_option : (o : Option ℕ) → (world_after_take w a o).services ≡ w.services
    by_option None = refl
    by_option (Some s) = refl
same_services w a event.Back = by_option (held_by w a)
  where
    by_option : (o : Option HeldProcess) → (world_after_back w a o).services ≡ w.services
    by_option None = refl
    by_option (Some l) = refl
same_services w a (event.Line l) = by_option (owner_of w.table l)
  where
    by_option : (o : Option ℕ) → (world_after_line w l o).services ≡ w.services
    by_option None = refl
    by_option (Some s) = refl
same_services w a event.Tick = refl
same_services w a (event.Kill e) = refl
same_services w a (event.Respawn s) = by_option (slice_get w.services s)
  where
    by_option : (o : Option Service) → (world_after_respawn w s o).services ≡ w.services
    by_option None = refl
    by_option (Some x) = refl

-- ---- a step

module _ (v : World) (a n : ℕ) (sound : IsSound v) (few : length v.cpus ≤ 8) where
  abbrev step_to : Recorded → World → Transition
  step_to r u = record { number = n; before = glance_of v; actor = a; event = r; after = glance_of u }

  abbrev receiving : ℕ → Bool
  receiving s = is_receiving (process_at v.table s).state

  unheld_got : (items : List (ℕ × Item)) (ds : List Delivery) (s : ℕ) → IsGot v.table items ds s
      → (is_zero (result_written (unless_held (image_held_in s v.cpus) (items_for s items))) && receiving s) ≡ is_to s ds
  unheld_got items ds s h = by_bool (receiving s) refl
    where
      own : Bool
      own = is_zero (result_written (items_for s items))

      told : Bool
      told = is_zero (result_written (unless_held (image_held_in s v.cpus) (items_for s items)))

      by_bool : (b : Bool) → receiving s ≡ b → (told && receiving s) ≡ is_to s ds
      by_bool true e =
          let home : is_out (process_at v.table s).state ≡ false = blocked_stays (process_at v.table s).state (receiving_blocked (process_at v.table s).state e) in
          ap (λ o. is_zero (result_written (unless_held o (items_for s items))) && receiving s) (not_held v s sound home) ∙ h
      by_bool false e = ap (λ b. told && b) e ∙ and_false told ∙ sym (and_false own) ∙ ap (λ b. own && b) (sym e) ∙ h

  -- a slot that has a service, if no trap is acted
  got_apart : (r : Recorded) (u : World) (s : ℕ) (p : Service) (xs : List Item) (ds : List Delivery) → s < 32 → slice_get v.services s ≡ Some p → acting (step_to r u) ≡ None
      → gone_on (step_to r u) s ≡ result_written xs → (is_zero (result_written xs) && receiving s) ≡ is_to s ds → got (step_to r u) s ≡ is_to s ds
  unfolding got
  got_apart r u s p xs ds lt served none gone h =
      let x = step_to r u in
      let told = is_zero (result_written xs) in
      let heard = seen_is is_listening (slot_in (glance_of v) s) in
      ap (λ o. is_zero o && (heard || (is_acted_by (acting x) s && calls_receive_by (acting x)))) gone
      ∙ ap (λ held. told && (heard || (is_acted_by held s && calls_receive_by held))) none
      ∙ ap (λ b. told && b) (or_false heard ∙ listening_seen v s p lt served)
      ∙ h

  -- a slot without a service
  got_unserved : (r : Recorded) (u : World) (s : ℕ) → s < 32 → length v.services ≤ s → u.services ≡ v.services → got (step_to r u) s ≡ false
  unfolding got gone_on
  got_unserved r u s lt past same =
      let x = step_to r u in
      let b = seen_is is_waiting (slot_in x.before s) || is_acted x s in
      let later = unseen u s lt (subst (λ vs. length vs ≤ s) (sym same) past) in
      ap (λ o. is_zero o && (seen_is is_listening (slot_in x.before s) || (is_acted x s && calls_receive x))) (ap (λ o. cond b (result_in o) None) later ∙ either b (result_in None) refl)
    where
      either : (c : Bool) (o : Option ℕ) → o ≡ None → cond c o None ≡ None
      either true o e = e
      either false o e = refl

  module _ (l : HeldProcess) (held : held_by v a ≡ Some l) (k : ℕ) where
    abbrev home : TableState
    home = table_after_coming_home v.table l

    abbrev doomed : Bool
    doomed = is_doomed (process_at v.table l.slot).state

    abbrev items : List (ℕ × Item)
    items = items_of_end_of_turn home l.slot doomed l.out.stop

    abbrev made : List Delivery
    made = made_of_end_of_turn home l.slot doomed l.out.stop

    home_few : AreFew home
    home_few = omega (arith, home_long v a l sound held, sound.table.few)

    end_got : (b : Bool) (x : Stop) (q : ℕ) → l.slot ≢ q → IsGot home (items_of_end_of_turn home l.slot b x) (made_of_end_of_turn home l.slot b x) q
    end_got true x q m = none_got home (items_of_death home l.slot) q (death_zero home l.slot q)
    end_got false Spent q m = refl
    end_got false Trap q m = trap_got home l.slot (trap_answer home l.slot) q home_few (home_queued v a l sound held) (home_own v a l sound held) m
    end_got false (Fault w) q m = none_got home (items_of_death home l.slot) q (death_zero home l.slot q)

    own_end : (b : Bool) (x : Stop) → (is_zero (result_written (items_for l.slot (items_of_end_of_turn home l.slot b x))) && (is_trap x && not b && (l.out.image.regs.ecx == 2))) ≡ is_to l.slot (made_of_end_of_turn home l.slot b x)
    own_end true x = ap (λ c. c && (is_trap x && false && (l.out.image.regs.ecx == 2))) (death_zero home l.slot l.slot)
    own_end false Spent = refl
    own_end false (Fault w) = ap (λ c. c && false) (death_zero home l.slot l.slot)
    own_end false Trap =
        ap (λ c. is_zero (result_written (items_for l.slot (items_of_trap home l.slot (trap_answer home l.slot)))) && (c == 2)) (sym (home_ecx v a l sound held))
        ∙ own_got home l.slot home_few (home_queued v a l sound held) (home_own v a l sound held)

    -- ---- whose trap is acted

    abbrev acted : Bool
    acted = is_trap l.out.stop && seen_is is_out_doing (slot_in (glance_of v) l.slot)

    acting_is : (u : World) → acting (step_to (recorded.Back k) u) ≡ cond acted (Some (held_glance l)) None
    unfolding acting held_glance
    acting_is u =
        let few_cpus : a < 8 = omega (arith, few, holds_in v.cpus a l held) in
        ap (acting_of (step_to (recorded.Back k) u)) (cpu_seen v a few_cpus ∙ ap (option_map held_glance) held)

    -- a caller gets a message, by the facts, by its own RECEIVE
    calls : (b : Bool) (s : ℕ) → (is_acted_by (cond b (Some (held_glance l)) None) s && calls_receive_by (cond b (Some (held_glance l)) None)) ≡ (b && (l.slot == s) && (l.out.image.regs.ecx == 2))
    unfolding held_glance image_glance
    calls true s = refl
    calls false s = refl

    got_at : (u : World) (s : ℕ) (p : Service) (xs : List Item) → s < 32 → slice_get v.services s ≡ Some p → gone_on (step_to (recorded.Back k) u) s ≡ result_written xs
        → got (step_to (recorded.Back k) u) s ≡ (is_zero (result_written xs) && (receiving s || (acted && (l.slot == s) && (l.out.image.regs.ecx == 2))))
    unfolding got
    got_at u s p xs lt served gone =
        let x = step_to (recorded.Back k) u in
        let told = is_zero (result_written xs) in
        let heard = seen_is is_listening (slot_in (glance_of v) s) in
        ap (λ o. is_zero o && (heard || (is_acted_by (acting x) s && calls_receive_by (acting x)))) gone
        ∙ ap (λ o. told && (heard || (is_acted_by o s && calls_receive_by o))) (acting_is u)
        ∙ ap₂ (λ (b c : Bool). told && (b || c)) (listening_seen v s p lt served) (calls acted s)

    other_got : (u : World) (s : ℕ) (p : Service) → s < 32 → slice_get v.services s ≡ Some p → gone_on (step_to (recorded.Back k) u) s ≡ result_written (diary_of_back v s (Some l)) → l.slot ≢ s
        → got (step_to (recorded.Back k) u) s ≡ is_to s made
    other_got u s p lt served gone m =
        let xs = unless_held (image_held_in s v.cpus) (items_for s items) in
        let own : diary_of_back v s (Some l) ≡ xs = ap (λ b. cond b (items_for s items) xs) (ne_eqb l.slot s m) in
        let at : process_at home s ≡ process_at v.table s = home_other v a l sound held s (λ e. m (sym e)) in
        got_at u s p xs lt served (gone ∙ ap result_written own)
        ∙ ap (λ b. is_zero (result_written xs) && (receiving s || (acted && b && (l.out.image.regs.ecx == 2)))) (ne_eqb l.slot s m)
        ∙ ap (λ b. is_zero (result_written xs) && (receiving s || (b && (l.out.image.regs.ecx == 2)))) (and_false acted)
        ∙ ap (λ b. is_zero (result_written xs) && b) (or_false (receiving s))
        ∙ unheld_got items made s (ap (λ (x : Process). is_zero (result_written (items_for s items)) && is_receiving x.state) (sym at) ∙ end_got doomed l.out.stop s m)

    own_told : (u : World) (s : ℕ) (p : Service) → s < 32 → slice_get v.services s ≡ Some p → gone_on (step_to (recorded.Back k) u) s ≡ result_written (diary_of_back v s (Some l)) → l.slot ≡ s
        → got (step_to (recorded.Back k) u) s ≡ is_to s made
    own_told u s p lt served gone e =
        let out : is_out (process_at v.table s).state ≡ true = subst (λ z. is_out (process_at v.table z).state ≡ true) e (held_out v a l sound held) in
        let xs = items_for s items in
        let own : diary_of_back v s (Some l) ≡ xs = ap (λ b. cond b xs (unless_held (image_held_in s v.cpus) xs)) (eq-eqb l.slot s e) in
        let seen : seen_is is_out_doing (slot_in (glance_of v) l.slot) ≡ not doomed =
        subst (λ z. seen_is is_out_doing (slot_in (glance_of v) z) ≡ (is_out (process_at v.table z).state && not (is_doomed (process_at v.table z).state))) (sym e) (out_seen v s p lt served)
        ∙ ap (λ z. z && not doomed) (held_out v a l sound held) in
        let ecx = l.out.image.regs.ecx == 2 in
        got_at u s p xs lt served (gone ∙ ap result_written own)
        ∙ ap (λ b. is_zero (result_written xs) && (b || (acted && (l.slot == s) && ecx))) (out_deaf (process_at v.table s).state out)
        ∙ ap (λ b. is_zero (result_written xs) && (acted && b && ecx)) (eq-eqb l.slot s e)
        ∙ ap (λ b. is_zero (result_written xs) && (b && ecx)) (and_true acted)
        ∙ ap (λ b. is_zero (result_written xs) && (is_trap l.out.stop && b && ecx)) seen
        ∙ subst (λ z. (is_zero (result_written (items_for z items)) && (is_trap l.out.stop && not doomed && ecx)) ≡ is_to z made) e (own_end doomed l.out.stop)

    back_got : (u : World) (s : ℕ) (p : Service) → s < 32 → slice_get v.services s ≡ Some p → gone_on (step_to (recorded.Back k) u) s ≡ result_written (diary_of_back v s (Some l)) → got (step_to (recorded.Back k) u) s ≡ is_to s made
    back_got u s p lt served gone = elim (cases_eq l.slot s) [
      | inl e ↦ own_told u s p lt served gone e
      | inr m ↦ other_got u s p lt served gone m
    ]

    back_ascends : Ascend 0 (length v.table.slots) made
    back_ascends = subst (λ z. Ascend 0 z made) (home_long v a l sound held) (by_end doomed l.out.stop)
      where
        by_end : (b : Bool) (x : Stop) → Ascend 0 (length home.slots) (made_of_end_of_turn home l.slot b x)
        by_end true x = tt
        by_end false Spent = tt
        by_end false Trap = trap_ascends home l.slot (trap_answer home l.slot) home_few (home_queued v a l sound held) (home_own v a l sound held)
        by_end false (Fault w) = tt

  -- ---- each event

  -- what it makes is in order, and by the diary of each slot it is for whom it comes to
  record IsTold (u : World) (r : Recorded) (own : ℕ → List Item) (ds : List Delivery) : Type 0 where
    pub ascends : Ascend 0 (length v.table.slots) ds
    pub gets : (s : ℕ) (p : Service) → s < 32 → slice_get v.services s ≡ Some p → gone_on (step_to r u) s ≡ result_written (own s) → got (step_to r u) s ≡ is_to s ds

  -- an event without a processor
  apart_told : (u : World) (r : Recorded) (items : List (ℕ × Item)) (ds : List Delivery) → acting (step_to r u) ≡ None → Ascend 0 (length v.table.slots) ds → ((s : ℕ) → IsGot v.table items ds s)
      → IsTold u r (λ s. unless_held (image_held_in s v.cpus) (items_for s items)) ds
  apart_told u r items ds none ascends h = record {
    ascends = ascends;
    gets = λ s p lt served gone. got_apart r u s p (unless_held (image_held_in s v.cpus) (items_for s items)) ds lt served none gone (unheld_got items ds s (h s));
  }

  by_back : (u : World) (k : ℕ) (o : Option HeldProcess) → held_by v a ≡ o → back_refusal o ≡ None → IsTold u (recorded.Back k) (λ s. diary_of_back v s o) (made_of_back v.table o)
  by_back u k None e ok = cc
  by_back u k (Some l) e ok = record { ascends = back_ascends l e k; gets = back_got l e k u }

  by_line : (u : World) (line : ℕ) (o : Option ℕ) → IsTold u (recorded.Line line) (λ s. unless_held (image_held_in s v.cpus) (items_for s (items_of_line v.table line o))) (made_of_line v.table line o)
  unfolding acting
  by_line u line None = apart_told u (recorded.Line line) [] [] refl tt (λ s. refl)
  by_line u line (Some q) =
      let t = with_line v.table q line in
      let long : length t.slots ≡ length v.table.slots = length-set v.table.slots q _ in
      let t_few : AreFew t = omega (arith, long, sound.table.few) in
      apart_told u (recorded.Line line) (items_of_line v.table line (Some q)) (made_of_line v.table line (Some q)) refl
      (subst (λ z. Ascend 0 z (made_of_line v.table line (Some q))) long (notifying_ascends t source.Hardware q t_few))
      (λ s. ap (λ st. is_zero (result_written (items_for s (items_of_notifying t source.Hardware q))) && is_receiving st) (sym (state_kept v.table.slots q s _ refl)) ∙ notifying_got t source.Hardware q s t_few)

  kill_got : (q s : ℕ) → IsGot v.table (items_of_kill v.table q) [] s
  kill_got q s = none_got v.table (items_of_kill v.table q) s (by_bool (is_out (process_at v.table q).state))
    where
      by_bool : (b : Bool) → is_zero (result_written (items_for s (cond b [] (items_of_death v.table q)))) ≡ false
      by_bool true = refl
      by_bool false = death_zero v.table q s

  by_event : (u : World) (r : Recorded) → event_refusal v a (own_event r) ≡ None → IsTold u r (diary v a (own_event r)) (made_in v a (own_event r))
  unfolding acting event_refusal
  by_event u recorded.Take ok = apart_told u recorded.Take [] [] refl tt (λ s. refl)
  by_event u (recorded.Back k) ok = by_back u k (held_by v a) refl ok
  by_event u (recorded.Line line) ok = by_line u line (owner_of v.table line)
  by_event u recorded.Tick ok =
      let later = with_tick v.table in
      let due = due_slots later.uptime 0 later.slots in
      apart_told u recorded.Tick (items_of_rings due later) (made_of_rings due later) refl
      (rings_ascend later.slots later.uptime 0 (length v.table.slots) later (omega arith) sound.table.few)
      (λ s. rings_got due later s sound.table.few)
  by_event u (recorded.Kill q) ok = apart_told u (recorded.Kill q) (items_of_kill v.table (q % 1024)) [] refl tt (kill_got (q % 1024))
  by_event u (recorded.Respawn q) ok = apart_told u (recorded.Respawn q) [] [] refl tt (λ s. refl)

-- ---- a record

-- it ends with what was made, and is short enough that all of this is seen
shown : (u : World) (xs ds : List Delivery) → u.table.deliveries ≡ keep xs ds → length ds ≤ 32 → length ds ≤ length u.services → (before after : List Delivery) (d : Delivery) → before ++ d ∷ after ≡ ds
    → get_or (latest_deliveries u.table.deliveries (length u.services)) (length after) None ≡ Some d
shown u xs ds e few served before after d parts =
    let ends = made_last xs ds (omega (arith, few)) in
    let long = length-append before (d ∷ after) in
    latest_seen u.table.deliveries ends.first before after d (length u.services) (e ∙ ends.whole ∙ ap (λ l. ends.first ++ l) (sym parts))
    (subst (λ l. length l ≤ 1024) (sym e) (short ds parts))
    (omega (arith, served, long, ap length parts))
    (omega (arith, few, long, ap length parts))
  where
    short : (es : List Delivery) → before ++ d ∷ after ≡ es → length (keep xs es) ≤ 1024
    short [] f = absurd (omega (arith, ap length f, length-append before (d ∷ after)))
    short (y ∷ ys) f = kept_short xs ys y

pub are_made_told : ((w : World) (a : ℕ) (e : Event) (s : ℕ) → IsSlot w s → IsWritten w a e s) → (w : World) (n : ℕ) (x : Record) → IsMadeIn w x → ToldAreMade w n x
are_made_told written w n x h =
    told_slots (transition_of w n x) 32 0 [] ds ds refl (ascend_within 0 (length v.table.slots) 32 ds h.sound.table.few told.ascends) gets refl
    (shown u v.table.deliveries ds kept few enough)
    ∙ ap (map with_slot) (sym (event_keeps v x.actor e [] ∙ only_made ds (omega (arith, few))))
  where
    v : World
    v = world_before w x

    e : Event
    e = own_event x.event

    u : World
    u = world_after_events w (events_of x.actor x.event)

    ds : List Delivery
    ds = made_in v x.actor e

    after : u ≡ world_after_event v x.actor e
    after = own_after w x.actor x.event

    told : IsTold v x.actor n h.sound h.few u x.event (diary v x.actor e) ds
    told = by_event v x.actor n h.sound h.few u x.event (own_accepted w x.actor x.event h.accepted)

    few : length ds ≤ 32
    few = omega (arith, ascend_length 0 (length v.table.slots) ds (omega arith) told.ascends, h.sound.table.few)

    services : u.services ≡ v.services
    services = ap (λ (z : World). z.services) after ∙ same_services v x.actor e

    enough : length ds ≤ length u.services
    enough = omega (arith, ascend_length 0 (length v.table.slots) ds (omega arith) told.ascends, h.sound.holds.served, ap length services)

    kept : u.table.deliveries ≡ keep v.table.deliveries ds
    kept = ap (λ (z : World). z.table.deliveries) after ∙ event_keeps v x.actor e v.table.deliveries

    gets : (q : ℕ) → 0 ≤ q → q < 32 → got (transition_of w n x) q ≡ is_to q ds
    gets q le lt = by_bool (nat_lt q (length v.services)) refl
      where
        by_bool : (b : Bool) → nat_lt q (length v.services) ≡ b → got (transition_of w n x) q ≡ is_to q ds
        by_bool true f =
            let served = ltb-true q (length v.services) f in
            let p = service_at v.services q served in
            told.gets q p.0 lt p.1 (gone_on_told written w n x q h served)
        by_bool false f =
            let past = ltb-false q (length v.services) f in
            got_unserved v x.actor n h.sound h.few x.event u q lt past services
            ∙ sym (not_beyond 0 (length v.table.slots) q ds (omega (arith, past, h.sound.holds.served)) told.ascends)
