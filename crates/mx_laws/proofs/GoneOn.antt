-- Who has gone on is whose EAX the event set.
use Rattle.std.proofs.Common.{◌≡◌, ◌≢◌, ◌∙◌, ℕ, zero, suc, ◌<◌, ◌≤◌, ◌%◌, ◌==◌, ◌&&◌, ◌||◌, not, Bool, true, false, cond, List, [], ◌∷◌, ◌++◌, length, replicate, Option, Some, None, refl, sym, ap, ap₂, subst, get_or, slice_set, slice_get, get_or-set_other, inl, inr, arith}
use Rattle.std.proofs.lemmas.Bool.{cases_eq, eq-eqb, ne_eqb}
use Rattle.std.proofs.lemmas.List.{length-map}
use Rattle.std.specs.Option.{option_map}
use Rattle.mx_exec.specs.declared.image.Image.{Image}
use Rattle.mx_exec.specs.Image.{blank}
use Rattle.mx_image.specs.declared.runs.Stop.{Stop}
use Rattle.mx_image.specs.declared.runs.Stop.TheVariants.{Spent, Trap, Fault}
use Rattle.mx_proc.specs.declared.process.DeathCause.TheVariants as cause
use Rattle.mx_proc.specs.declared.process.Process.{Process}
use Rattle.mx_proc.specs.declared.process.State.{State}
use Rattle.mx_proc.specs.declared.process.State.TheVariants.{Home, Ready, Out, Doomed, Sending, Calling, Receiving, Awaiting, Down}
use Rattle.mx_proc.specs.Queues.{first_ready}
use Rattle.mx_proc.specs.States.{is_blocked, is_down, is_out, is_ready}
use Rattle.mx_proc.specs.TableState.{TableState, nobody, process_at, table_after_dequeue}
use Rattle.mx_kcall.specs.Calls.{trap_answer}
use Rattle.mx_kcall.specs.Refusals.{owner_of}
use Rattle.mx_kcall.specs.Respawn.{is_worn, next_process, table_after_respawn}
use Rattle.mx_kcall.specs.Service.{Service}
use Rattle.mx_machine.specs.declared.events.Event.{Event}
use Rattle.mx_machine.specs.declared.events.Event.TheVariants as event
use Rattle.mx_machine.specs.declared.events.Refusal.TheVariants.{NotDown, Worn}
use Rattle.mx_machine.specs.declared.history.Record.{Record}
use Rattle.mx_machine.specs.declared.history.Recorded.{Recorded}
use Rattle.mx_machine.specs.declared.history.Recorded.TheVariants as recorded
use Rattle.mx_machine.specs.History.{AreAccepted, events_of, world_after_events}
use Rattle.mx_machine.specs.Move.{back_refusal, event_refusal, is_doomed, respawn_refusal, if_full, table_after_back, table_after_coming_home, table_after_end_of_turn, table_after_sending_out, world_after_back, world_after_event, world_after_line, world_after_respawn, world_after_take}
use Rattle.mx_machine.specs.Sound.{IsSound}
use Rattle.mx_machine.specs.World.{World, HeldProcess, free_records, held_by}
use Rattle.mx_laws.specs.Diary.{Item, image_of, items_for, images, play}
use Rattle.mx_laws.specs.Diaries.{diary, diary_of_back, image_held_in, image_now, items_of_event, items_of_line, unless_held}
use Rattle.mx_laws.specs.Entries.{AreEntries, caller_in}
use Rattle.mx_laws.specs.Items.{items_of_death, items_of_end_of_turn}
use Rattle.mx_laws.specs.DiaryLaws.{IsSlot, IsWritten}
use Rattle.mx_laws.proofs.DiaryLemmas.{image_or, get_or-images, play_all-at}
use Rattle.mx_laws.proofs.EventEntries.{event_entries}
use Rattle.mx_laws.proofs.ItemLemmas.{end_of_turn_images}
use Rattle.mx_laws.proofs.SoundDiaries.{not_held}
use Rattle.mx_look.specs.Glances.{glance_of, held_glance}
use Rattle.mx_look.specs.declared.transition.Transition.{Transition}
use Rattle.mx_look.specs.Doings.{is_out as is_out_doing, seen_is}
use Rattle.mx_look.specs.Going.{acting, acting_of, gone_on, is_acted, is_acted_by, is_trap, result_in}
use Rattle.mx_look.specs.Transition.{slot_in}
use Rattle.mx_app_step.specs.Traces.{own_event, steps_before}
use Rattle.mx_app_step.proofs.RecordLemmas.{after_both}
use Rattle.mx_laws.specs.Told.{IsMadeIn, result_written, ToldGoneOn, world_before}
use Rattle.mx_laws.proofs.Readies.{flag, IsIdle, queueing_readies, readies, readies-at, readies-set}
use Rattle.mx_laws.proofs.ReadyCalls.{and_false, and_true, death_tells, kill_tells, line_tells, misses_waiting, Tells, tick_tells, trap_tells}
use Rattle.mx_laws.proofs.Results.{entries_no_result, entries_no_step, has_result, HaveNoStep, none_written, result_for, result_played}
use Rattle.mx_laws.proofs.Returned.{held_out, holds_in, home_idle, home_long, home_other, home_own, home_queued, out_within, sound_queued}
use Rattle.mx_laws.proofs.Seen.{cpu_seen, out_seen, result_seen, waiting_seen}

-- ---- states

blocked_idle : (st : State) → is_blocked st ≡ true → is_ready st ≡ false
blocked_idle Home e = cc
blocked_idle Ready e = cc
blocked_idle Out e = cc
blocked_idle Doomed e = cc
blocked_idle Sending e = refl
blocked_idle Calling e = refl
blocked_idle (Receiving p) e = refl
blocked_idle (Awaiting d) e = refl
blocked_idle (Down c) e = cc

blocked_stays : (st : State) → is_blocked st ≡ true → is_out st ≡ false
blocked_stays Home e = cc
blocked_stays Ready e = cc
blocked_stays Out e = cc
blocked_stays Doomed e = cc
blocked_stays Sending e = refl
blocked_stays Calling e = refl
blocked_stays (Receiving p) e = refl
blocked_stays (Awaiting d) e = refl
blocked_stays (Down c) e = cc

blocked_lives : (st : State) → is_blocked st ≡ true → is_down st ≡ false
blocked_lives Home e = cc
blocked_lives Ready e = cc
blocked_lives Out e = cc
blocked_lives Doomed e = cc
blocked_lives Sending e = refl
blocked_lives Calling e = refl
blocked_lives (Receiving p) e = refl
blocked_lives (Awaiting d) e = refl
blocked_lives (Down c) e = cc

out_unblocked : (st : State) → is_out st ≡ true → is_blocked st ≡ false
out_unblocked Home e = cc
out_unblocked Ready e = cc
out_unblocked Out e = refl
out_unblocked Doomed e = refl
out_unblocked Sending e = cc
out_unblocked Calling e = cc
out_unblocked (Receiving p) e = cc
out_unblocked (Awaiting d) e = cc
out_unblocked (Down c) e = cc

true_false : {b : Bool} → b ≡ true → b ≡ false → ⊥
true_false e f = cc

-- ---- one slot

pick : (b ready g : Bool) (eax : ℕ) (r : Option ℕ) → (b ≡ true → (ready ≡ g) × (cond g (Some eax) None ≡ r)) → (b ≡ false → r ≡ None) → cond b (cond ready (Some eax) None) None ≡ r
pick true ready g eax r f k = let h = f refl in ap (λ z. cond z (Some eax) None) h.0 ∙ h.1
pick false ready g eax r f k = sym (k refl)

or_false : (b : Bool) → (b || false) ≡ b
or_false true = refl
or_false false = refl

acted_if : (l : HeldProcess) (s : ℕ) (b : Bool) → is_acted_by (cond b (Some (held_glance l)) None) s ≡ (b && (l.slot == s))
unfolding held_glance
acted_if l s true = refl
acted_if l s false = refl

cleared : (fs : List Bool) (q s : ℕ) → flag fs s ≡ false → flag (slice_set fs q false) s ≡ false
cleared [] q s e = e
cleared (f ∷ fs) zero zero e = refl
cleared (f ∷ fs) zero (suc s) e = e
cleared (f ∷ fs) (suc q) zero e = e
cleared (f ∷ fs) (suc q) (suc s) e = cleared fs q s e

-- a slot that may be respawned is down
was_down : (b c : Bool) (left : ℕ) → cond (not b) (Some NotDown) (cond c (Some Worn) (if_full left 1)) ≡ None → b ≡ true
was_down true c left e = refl
was_down false c left e = cc

module _ (v : World) (a n s : ℕ) (p : Service) (sound : IsSound v) (few : length v.cpus ≤ 8) (lt : s < 32) (within : s < length v.table.slots)
    (served : slice_get v.services s ≡ Some p) where
  abbrev state : State
  state = (process_at v.table s).state

  -- a record as a transition from this world to another
  abbrev transition_to : Recorded → World → Transition
  transition_to r u = record { number = n; before = glance_of v; actor = a; event = r; after = glance_of u }

  gone : (r : Recorded) (u : World) (b : Bool) → is_acted (transition_to r u) s ≡ b → slice_get u.services s ≡ Some p
      → gone_on (transition_to r u) s ≡ cond (is_blocked state || b) (cond (is_ready (process_at u.table s).state) (Some (process_at u.table s).image.regs.eax) None) None
  unfolding gone_on
  gone r u b acts after =
      ap₂ (λ (x y : Bool). cond (x || y) (result_in (slot_in (glance_of u) s)) None) (waiting_seen v s p lt served) acts
      ∙ ap (λ o. cond (is_blocked state || b) o None) (result_seen u s p lt after)

  idle : is_blocked state ≡ true → IsIdle v.table s
  idle e = readies-at v.table.slots s ∙ blocked_idle state e

  not_out : is_blocked state ≡ true → image_held_in s v.cpus ≡ None
  not_out e = not_held v s sound (blocked_stays state e)

  -- an event without items
  silent : (r : Recorded) (u : World) (o : Option Image) → is_acted (transition_to r u) s ≡ false → slice_get u.services s ≡ Some p
      → (is_blocked state ≡ true → is_ready (process_at u.table s).state ≡ false) → gone_on (transition_to r u) s ≡ result_written (unless_held o [])
  silent r u o acts after rests =
      gone r u false acts after ∙ ap (λ b. cond b (cond (is_ready (process_at u.table s).state) (Some (process_at u.table s).image.regs.eax) None) None) (or_false (is_blocked state))
      ∙ pick (is_blocked state) (is_ready (process_at u.table s).state) false (process_at u.table s).image.regs.eax (result_written (unless_held o []))
      (λ e. (rests e, sym (none o))) (λ e. none o)
    where
      none : (o : Option Image) → result_written (unless_held o []) ≡ None
      none None = refl
      none (Some m) = refl

  -- an event without a processor
  apart : (r : Recorded) (e : Event) (u : World) (items : List (ℕ × Item)) → is_acted (transition_to r u) s ≡ false → slice_get u.services s ≡ Some p → u.cpus ≡ v.cpus
      → e ≢ event.Step → caller_in v a e ≢ Some s → diary v a e s ≡ unless_held (image_held_in s v.cpus) (items_for s items)
      → Tells v.table u.table items s → image_now u s ≡ play (diary v a e s) (image_now v s) → gone_on (transition_to r u) s ≡ result_written (diary v a e s)
  apart r e u items acts after same unstepped uncalled written tells played =
      gone r u false acts after ∙ ap (λ b. cond b (cond (is_ready (process_at u.table s).state) (Some (process_at u.table s).image.regs.eax) None) None) (or_false (is_blocked state))
      ∙ pick (is_blocked state) (is_ready (process_at u.table s).state) (has_result d) (process_at u.table s).image.regs.eax (result_written d) waiting resting
    where
      d : List Item
      d = diary v a e s

      entries : AreEntries v a e s d
      entries = event_entries v a e s sound

      steps : HaveNoStep d
      steps = entries_no_step v a e s d unstepped entries

      resting : is_blocked state ≡ false → result_written d ≡ None
      resting b = none_written d (image_now v s) steps (entries_no_result v a e s d uncalled b entries)

      waiting : is_blocked state ≡ true → (is_ready (process_at u.table s).state ≡ has_result d) × (cond (has_result d) (Some (process_at u.table s).image.regs.eax) None ≡ result_written d)
      waiting b =
          let own : d ≡ items_for s items = written ∙ ap (λ o. unless_held o (items_for s items)) (not_out b) in
          let home : image_now u s ≡ (process_at u.table s).image =
          ap (λ cpus. image_or (get_or (images u.table) s blank) (image_held_in s cpus)) same ∙ ap (image_or (get_or (images u.table) s blank)) (not_out b) ∙ get_or-images u.table.slots s in
          let image : (process_at u.table s).image ≡ play d (image_now v s) = sym home ∙ played in (
            sym (readies-at u.table.slots s) ∙ tells within (idle b) ∙ sym (ap has_result own ∙ result_for s items),
            ap (λ (m : Image). cond (has_result d) (Some m.regs.eax) None) image ∙ result_played d (image_now v s) steps,
          )

  -- ---- a return

  module _ (l : HeldProcess) (held : held_by v a ≡ Some l) (k : ℕ) where
    abbrev home : TableState
    home = table_after_coming_home v.table l

    abbrev doomed : Bool
    doomed = is_doomed (process_at v.table l.slot).state

    abbrev items : List (ℕ × Item)
    items = items_of_end_of_turn home l.slot doomed l.out.stop

    abbrev back : World
    back = world_after_back v a (Some l)

    abbrev transition : Transition
    transition = transition_to (recorded.Back k) back

    out : is_out (process_at v.table l.slot).state ≡ true
    out = held_out v a l sound held

    -- ---- whose trap is acted

    acting_is : (b : Bool) → (is_trap l.out.stop && seen_is is_out_doing (slot_in (glance_of v) l.slot)) ≡ b → is_acted transition s ≡ (b && (l.slot == s))
    unfolding acting held_glance
    acting_is b e =
        let few_cpus : a < 8 = omega (arith, few, holds_in v.cpus a l held) in
        ap (λ o. is_acted_by (acting_of transition o) s) (cpu_seen v a few_cpus ∙ ap (option_map held_glance) held)
        ∙ ap (λ z. is_acted_by (cond z (Some (held_glance l)) None) s) e ∙ acted_if l s b

    -- ---- the slot of another

    entries : AreEntries v a event.Back s (diary v a event.Back s)
    entries = event_entries v a event.Back s sound

    end_tells : (q : ℕ) → q ≢ l.slot → Tells home (table_after_end_of_turn home l.slot doomed l.out.stop) items q
    end_tells q m = by_end doomed l.out.stop
      where
        by_end : (b : Bool) (x : Stop) → Tells home (table_after_end_of_turn home l.slot b x) (items_of_end_of_turn home l.slot b x) q
        by_end true x = death_tells home l.slot cause.Kill q (home_queued v a l sound held)
        by_end false Spent = λ lies rests. ap (λ fs. flag fs q) (queueing_readies home l.slot) ∙ get_or-set_other (readies home) l.slot q true false m ∙ rests
        by_end false Trap = trap_tells home l.slot (trap_answer home l.slot) q (home_queued v a l sound held) (home_own v a l sound held) (home_idle v a l sound held)
        by_end false (Fault w) = death_tells home l.slot (cause.Fault w) q (home_queued v a l sound held)

    image_at : (q : ℕ) (b : Bool) (x : Stop) → q < length v.table.slots
        → (process_at (table_after_end_of_turn home l.slot b x) q).image ≡ play (items_for q (items_of_end_of_turn home l.slot b x)) (process_at home q).image
    image_at q b x lies =
        let room : q < length (images home) = omega (arith, lies, (home_long v a l sound held), length-map home.slots image_of) in
        let made = items_of_end_of_turn home l.slot b x in
        sym (get_or-images (table_after_end_of_turn home l.slot b x).slots q) ∙ ap (λ ms. get_or ms q blank) (end_of_turn_images home l.slot b x)
        ∙ play_all-at made (images home) q room ∙ ap (play (items_for q made)) (get_or-images home.slots q)

    back_table : back.table ≡ table_after_end_of_turn home l.slot doomed l.out.stop
    unfolding table_after_back
    back_table = refl

    entries_now : AreEntries v a event.Back s (diary_of_back v s (Some l))
    entries_now = subst (λ o. AreEntries v a event.Back s (diary_of_back v s o)) held entries

    now_steps : HaveNoStep (diary_of_back v s (Some l))
    now_steps = entries_no_step v a event.Back s (diary_of_back v s (Some l)) (λ e. cc) entries_now

    other_told : l.slot ≢ s → gone_on transition s ≡ result_written (diary_of_back v s (Some l))
    other_told m =
        gone (recorded.Back k) back false acts served ∙ ap (λ b. cond b (cond (is_ready (process_at back.table s).state) (Some (process_at back.table s).image.regs.eax) None) None) (or_false (is_blocked state))
        ∙ pick (is_blocked state) (is_ready (process_at back.table s).state) (has_result d) (process_at back.table s).image.regs.eax (result_written d) waiting resting
      where
        d : List Item
        d = diary_of_back v s (Some l)

        acts : is_acted transition s ≡ false
        acts = let b = is_trap l.out.stop && seen_is is_out_doing (slot_in (glance_of v) l.slot) in acting_is b refl ∙ ap (λ z. b && z) (ne_eqb l.slot s m) ∙ and_false b

        uncalled : caller_in v a event.Back ≢ Some s
        uncalled e = m (some_is l.slot s (sym (ap (option_map (λ (x : HeldProcess). x.slot)) held) ∙ e))
          where
            some_is : (i j : ℕ) → Some i ≡ Some j → i ≡ j
            some_is i j e = cc

        resting : is_blocked state ≡ false → result_written d ≡ None
        resting b = none_written d (process_at home s).image now_steps (entries_no_result v a event.Back s d uncalled b entries_now)

        waiting : is_blocked state ≡ true → (is_ready (process_at back.table s).state ≡ has_result d) × (cond (has_result d) (Some (process_at back.table s).image.regs.eax) None ≡ result_written d)
        waiting b =
            let own : d ≡ items_for s items = ap (λ z. cond z (items_for s items) (unless_held (image_held_in s v.cpus) (items_for s items))) (ne_eqb l.slot s m) ∙ ap (λ o. unless_held o (items_for s items)) (not_out b) in
            let rests : IsIdle home s = readies-at home.slots s ∙ ap (λ (x : Process). is_ready x.state) ((home_other v a l sound held) s (λ e. m (sym e))) ∙ blocked_idle state b in
            let lies : s < length home.slots = omega (arith, within, (home_long v a l sound held)) in
            let image : (process_at back.table s).image ≡ play d (process_at home s).image =
            ap (λ (t : TableState). (process_at t s).image) back_table ∙ image_at s doomed l.out.stop within ∙ ap (λ xs. play xs (process_at home s).image) (sym own) in (
              ap (λ (t : TableState). is_ready (process_at t s).state) back_table ∙ sym (readies-at (table_after_end_of_turn home l.slot doomed l.out.stop).slots s)
                  ∙ end_tells s (λ e. m (sym e)) lies rests ∙ sym (ap has_result own ∙ result_for s items),
              ap (λ (x : Image). cond (has_result d) (Some x.regs.eax) None) image ∙ result_played d (process_at home s).image now_steps,
            )

    -- ---- its own slot

    own_end : (b : Bool) (x : Stop) → HaveNoStep (items_for l.slot (items_of_end_of_turn home l.slot b x))
        → cond (is_trap x && not b) (cond (is_ready (process_at (table_after_end_of_turn home l.slot b x) l.slot).state) (Some (process_at (table_after_end_of_turn home l.slot b x) l.slot).image.regs.eax) None) None
        ≡ result_written (items_for l.slot (items_of_end_of_turn home l.slot b x))
    own_end true x steps =
        ap (λ z. cond z (cond (is_ready (process_at (table_after_end_of_turn home l.slot true x) l.slot).state) (Some (process_at (table_after_end_of_turn home l.slot true x) l.slot).image.regs.eax) None) None) (and_false (is_trap x))
        ∙ sym (none_written (items_for l.slot (items_of_death home l.slot)) (process_at home l.slot).image steps (result_for l.slot (items_of_death home l.slot) ∙ misses_waiting home l.slot (home_queued v a l sound held)))
    own_end false Spent steps = refl
    own_end false (Fault w) steps =
        sym (none_written (items_for l.slot (items_of_death home l.slot)) (process_at home l.slot).image steps (result_for l.slot (items_of_death home l.slot) ∙ misses_waiting home l.slot (home_queued v a l sound held)))
    own_end false Trap steps =
        let made = items_of_end_of_turn home l.slot false Trap in
        let end = table_after_end_of_turn home l.slot false Trap in
        let lies = out_within v.table.slots l.slot out in
        let room : l.slot < length home.slots = omega (arith, lies, (home_long v a l sound held)) in
        let ready : is_ready (process_at end l.slot).state ≡ has_result (items_for l.slot made) =
        sym (readies-at end.slots l.slot) ∙ trap_tells home l.slot (trap_answer home l.slot) l.slot (home_queued v a l sound held) (home_own v a l sound held) (home_idle v a l sound held) room (home_idle v a l sound held) ∙ sym (result_for l.slot made) in
        ap (λ z. cond z (Some (process_at end l.slot).image.regs.eax) None) ready
        ∙ ap (λ (x : Image). cond (has_result (items_for l.slot made)) (Some x.regs.eax) None) (image_at l.slot false Trap lies)
        ∙ result_played (items_for l.slot made) (process_at home l.slot).image steps

    own_told : l.slot ≡ s → gone_on transition s ≡ result_written (diary_of_back v s (Some l))
    own_told e =
        gone (recorded.Back k) back (is_trap l.out.stop && not doomed) acts served
        ∙ ap (λ z. cond (z || (is_trap l.out.stop && not doomed)) (cond (is_ready (process_at back.table s).state) (Some (process_at back.table s).image.regs.eax) None) None) unblocked
        ∙ ap (λ (t : TableState). cond (is_trap l.out.stop && not doomed) (cond (is_ready (process_at t s).state) (Some (process_at t s).image.regs.eax) None) None) back_table
        ∙ subst (λ z. cond (is_trap l.out.stop && not doomed) (cond (is_ready (process_at ended z).state) (Some (process_at ended z).image.regs.eax) None) None ≡ result_written (items_for z items)) e (own_end doomed l.out.stop steps)
        ∙ ap result_written (sym own)
      where
        ended : TableState
        ended = table_after_end_of_turn home l.slot doomed l.out.stop

        unblocked : is_blocked state ≡ false
        unblocked = out_unblocked state (subst (λ z. is_out (process_at v.table z).state ≡ true) e out)

        own : diary_of_back v s (Some l) ≡ items_for s items
        own = ap (λ z. cond z (items_for s items) (unless_held (image_held_in s v.cpus) (items_for s items))) (eq-eqb l.slot s e)

        steps : HaveNoStep (items_for l.slot items)
        steps = subst (λ z. HaveNoStep (items_for z items)) (sym e) (subst HaveNoStep own now_steps)

        seen : seen_is is_out_doing (slot_in (glance_of v) l.slot) ≡ not doomed
        seen =
            subst (λ z. seen_is is_out_doing (slot_in (glance_of v) z) ≡ (is_out (process_at v.table z).state && not (is_doomed (process_at v.table z).state))) (sym e) (out_seen v s p lt served)
            ∙ ap (λ z. z && not doomed) out

        acts : is_acted transition s ≡ (is_trap l.out.stop && not doomed)
        acts = acting_is (is_trap l.out.stop && not doomed) (ap (λ z. is_trap l.out.stop && z) seen) ∙ ap (λ z. (is_trap l.out.stop && not doomed) && z) (eq-eqb l.slot s e) ∙ and_true (is_trap l.out.stop && not doomed)

    back_told : gone_on transition s ≡ result_written (diary_of_back v s (Some l))
    back_told = elim (cases_eq l.slot s) [
      | inl e ↦ own_told e
      | inr m ↦ other_told m
    ]

  -- ---- each event

  by_back : (x : Option HeldProcess) (k : ℕ) → held_by v a ≡ x → back_refusal x ≡ None → gone_on (transition_to (recorded.Back k) (world_after_back v a x)) s ≡ result_written (diary_of_back v s x)
  by_back None k e ok = cc
  by_back (Some l) k e ok = back_told l e k

  by_take : (q : Option ℕ) → gone_on (transition_to recorded.Take (world_after_take v a q)) s ≡ result_written (unless_held (image_held_in s v.cpus) [])
  unfolding acting table_after_sending_out
  by_take None = silent recorded.Take v (image_held_in s v.cpus) refl served (λ e. blocked_idle state e)
  by_take (Some q) = silent recorded.Take (world_after_take v a (Some q)) (image_held_in s v.cpus) refl served (λ e. sym (readies-at (table_after_sending_out v.table q).slots s)
      ∙ ap (λ fs. flag fs s) (readies-set (table_after_dequeue v.table q).slots q _ ∙ ap (λ fs. slice_set fs q false) (readies-set v.table.slots q _))
      ∙ cleared (slice_set (readies v.table) q false) q s (cleared (readies v.table) q s (idle e)))

  by_respawn : (q : ℕ) (x : Option Service) → slice_get v.services q ≡ x → respawn_refusal (free_records v) (process_at v.table q) x ≡ None
      → gone_on (transition_to (recorded.Respawn q) (world_after_respawn v q x)) s ≡ result_written (unless_held (image_held_in s v.cpus) [])
  unfolding acting table_after_respawn
  by_respawn q None e ok = silent (recorded.Respawn q) v (image_held_in s v.cpus) refl served (λ b. blocked_idle state b)
  by_respawn q (Some x) e ok = silent (recorded.Respawn q) (world_after_respawn v q (Some x)) (image_held_in s v.cpus) refl served (λ b.
      let apart : s ≢ q = λ g. true_false (was_down (is_down (process_at v.table q).state) (is_worn (process_at v.table q) x) (free_records v) ok) (subst (λ z. is_down (process_at v.table z).state ≡ false) g (blocked_lives state b)) in
      ap (λ (y : Process). is_ready y.state) (get_or-set_other v.table.slots q s (next_process (process_at v.table q) x) nobody apart) ∙ blocked_idle state b)

  by_line : (line : ℕ) (o : Option ℕ) → owner_of v.table line ≡ o → image_now (world_after_line v line o) s ≡ play (diary v a (event.Line line) s) (image_now v s)
      → gone_on (transition_to (recorded.Line line) (world_after_line v line o)) s ≡ result_written (diary v a (event.Line line) s)
  unfolding acting
  by_line line None e played = apart (recorded.Line line) (event.Line line) v [] refl served refl (λ z. cc) (λ z. cc)
      (ap (λ o. unless_held (image_held_in s v.cpus) (items_for s (items_of_line v.table line o))) e) (λ lies rests. rests) played
  by_line line (Some q) e played = apart (recorded.Line line) (event.Line line) (world_after_line v line (Some q)) (items_of_line v.table line (Some q)) refl served refl (λ z. cc) (λ z. cc)
      (ap (λ o. unless_held (image_held_in s v.cpus) (items_for s (items_of_line v.table line o))) e) (line_tells v.table line q s) played

  by_event : (r : Recorded) → event_refusal v a (own_event r) ≡ None → IsWritten v a (own_event r) s
      → gone_on (transition_to r (world_after_event v a (own_event r))) s ≡ result_written (diary v a (own_event r) s)
  unfolding acting event_refusal world_after_event
  by_event recorded.Take ok written = by_take (first_ready v.table.ready)
  by_event (recorded.Back k) ok written = by_back (held_by v a) k refl ok
  by_event (recorded.Line line) ok written = by_line line (owner_of v.table line) refl (written ok tt)
  by_event recorded.Tick ok written = apart recorded.Tick event.Tick (world_after_event v a event.Tick) (items_of_event v event.Tick) refl served refl (λ z. cc) (λ z. cc) refl (tick_tells v.table s) (written ok tt)
  by_event (recorded.Kill q) ok written = apart (recorded.Kill q) (event.Kill q) (world_after_event v a (event.Kill q)) (items_of_event v (event.Kill q)) refl served refl (λ z. cc) (λ z. cc) refl
      (kill_tells v.table (q % 1024) s (sound_queued v.table sound.table)) (written ok tt)
  by_event (recorded.Respawn q) ok written = by_respawn q (slice_get v.services q) refl ok

-- ---- a record

last_accepted : (w : World) (xs ys : List (ℕ × Event)) → AreAccepted w (xs ++ ys) → AreAccepted (world_after_events w xs) ys
last_accepted w [] ys h = h
last_accepted w (x ∷ xs) ys h = last_accepted (world_after_event w x.0 x.1) xs ys h.1

pub own_accepted : (w : World) (a : ℕ) (r : Recorded) → AreAccepted w (events_of a r) → event_refusal (world_after_events w (steps_before a r)) a (own_event r) ≡ None
own_accepted w a recorded.Take h = h.0
own_accepted w a (recorded.Back k) h = (last_accepted w (replicate k (a, event.Step)) ((a, event.Back) ∷ []) h).0
own_accepted w a (recorded.Line l) h = h.0
own_accepted w a recorded.Tick h = h.0
own_accepted w a (recorded.Kill e) h = h.0
own_accepted w a (recorded.Respawn q) h = h.0

pub own_after : (w : World) (a : ℕ) (r : Recorded) → world_after_events w (events_of a r) ≡ world_after_event (world_after_events w (steps_before a r)) a (own_event r)
own_after w a recorded.Take = refl
own_after w a (recorded.Back k) = after_both w (replicate k (a, event.Step)) ((a, event.Back) ∷ [])
own_after w a (recorded.Line l) = refl
own_after w a recorded.Tick = refl
own_after w a (recorded.Kill e) = refl
own_after w a (recorded.Respawn q) = refl

pub service_at : (vs : List Service) (s : ℕ) → s < length vs → (p : Service) × (slice_get vs s ≡ Some p)
service_at [] s lt = absurd (omega (arith, lt))
service_at (x ∷ vs) zero lt = (x, refl)
service_at (x ∷ vs) (suc s) lt = service_at vs s (omega (arith, lt))

pub gone_on_told : ((w : World) (a : ℕ) (e : Event) (s : ℕ) → IsSlot w s → IsWritten w a e s) → (w : World) (n : ℕ) (x : Record) (s : ℕ) → IsMadeIn w x → s < length (world_before w x).services → ToldGoneOn w n x s
gone_on_told written w n x s h served =
    let v = world_before w x in
    let service = service_at v.services s served in
    let within : s < length v.table.slots = omega (arith, served, h.sound.holds.served) in
    let lt : s < 32 = omega (arith, within, h.sound.table.few) in
    let slot : IsSlot v s = record { sound = h.sound; served = served } in
    let told = by_event v x.actor n s service.0 h.sound h.few lt within service.1 x.event (own_accepted w x.actor x.event h.accepted) (written v x.actor (own_event x.event) s slot) in
    ap (λ (u : World). gone_on (record { number = n; before = glance_of v; actor = x.actor; event = x.event; after = glance_of u }) s) (own_after w x.actor x.event) ∙ told
