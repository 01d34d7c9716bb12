-- Each item that an event writes down is an entry.
use Rattle.std.proofs.Common.{◌≡◌, ◌≢◌, ◌∙◌, get_or-set_other, ℕ, ◌≤◌, ◌%◌, ◌==◌, Bool, true, false, cond, List, [], ◌∷◌, Option, Some, None, refl, sym, ap, subst, nat_lt, inl, inr, arith}
use Rattle.std.specs.Option.{option_map}
use Rattle.std.proofs.lemmas.Bool.{cases_eq, eq-eqb, ne_eqb}
use Rattle.mx_exec.specs.declared.image.Image.{Image}
use Rattle.mx_proc.specs.declared.process.Process.{Process}
use Rattle.mx_proc.specs.declared.process.Source.{Source}
use Rattle.mx_proc.specs.declared.process.Source.TheVariants.{Hardware, Clock}
use Rattle.mx_proc.specs.declared.process.State.{State}
use Rattle.mx_proc.specs.declared.process.State.TheVariants.{Home, Ready, Out, Doomed, Sending, Calling, Receiving, Awaiting, Down}
use Rattle.mx_proc.specs.Queues.{tally}
use Rattle.mx_proc.specs.Serving.{with_alarm, with_tick}
use Rattle.mx_proc.specs.Sound.{HasBuffer, Sound}
use Rattle.mx_proc.specs.States.{is_blocked, is_out, is_sending}
use Rattle.mx_proc.specs.TableState.{TableState, nobody, process_at, renewed, table_after_move_home, table_after_notice, table_with_first, table_with_last, with_pending, without_pending, with_process, with_result}
use Rattle.mx_proc.specs.Partners.{order_of_source}
use Rattle.mx_proc.specs.Waits.{sends_of}
use Rattle.mx_kcall.specs.Calls.{goes_on, hears, table_after_notifying}
use Rattle.mx_kcall.specs.Clock.{due_slots, table_after_ring}
use Rattle.mx_kcall.specs.Queueing.{is_last_renewed, next_level, table_after_queueing}
use Rattle.mx_kcall.specs.Refusals.{owner_of}
use Rattle.mx_machine.specs.declared.events.Event.{Event}
use Rattle.mx_machine.specs.declared.events.Event.TheVariants.{Step, Take, Back, Line, Tick, Kill, Respawn}
use Rattle.mx_machine.specs.Move.{is_doomed, table_after_coming_home}
use Rattle.mx_machine.specs.Sound.{IsSound}
use Rattle.mx_machine.specs.World.{World, HeldProcess, held_by}
use Rattle.mx_laws.specs.Diary.{Item, items_for}
use Rattle.mx_laws.specs.Diary.Item.{Ran, Result, Message, Copy}
use Rattle.mx_laws.specs.Items.{items_of_death, items_of_end_of_turn, items_of_notifying}
use Rattle.mx_laws.specs.Diaries.{diary, diary_of_back, diary_of_step, image_held_in, items_of_event, items_of_kill, items_of_line, items_of_rings, unless_held}
use Rattle.mx_laws.specs.Entries.{AreEntries, copy_at_back, copy_at_end, copy_in, IsEntry, is_receiving, MayGetMessage, MayGetResult, slot_on}
use Rattle.mx_laws.proofs.SoundDiaries.{held_is_out}
use Rattle.mx_laws.proofs.EntryLemmas.{AreReady, after_set, Blocked, death_each, Each, each-append, each-case, end_of_turn_each, Goes, notifying_each, Receives, Scene, Sends}

-- ---- one slot's entries

abbrev WrittenBy : World → ℕ → Event → List (ℕ × Item) → Type 0
WrittenBy w a e xs = Each (Goes (MayGetResult w a e) (MayGetMessage w a e) (copy_in w a e)) xs

is_entry : (w : World) (a : ℕ) (e : Event) (s : ℕ) (x : Item) → Goes (MayGetResult w a e) (MayGetMessage w a e) (copy_in w a e) s x → IsEntry w a e s x
is_entry w a e s Ran h = absurd h
is_entry w a e s (Result r) h = h
is_entry w a e s (Message bytes) h = h
is_entry w a e s (Copy place bytes) h = h

entries_for : (w : World) (a : ℕ) (e : Event) (s : ℕ) (xs : List (ℕ × Item)) → WrittenBy w a e xs → AreEntries w a e s (items_for s xs)
entries_for w a e s [] h = tt
entries_for w a e s (x ∷ xs) h =
    let rest = entries_for w a e s xs h.1 in
    elim (cases_eq x.0 s) [
      | inl g ↦ subst (λ b. AreEntries w a e s (cond b (x.1 ∷ items_for s xs) (items_for s xs))) (sym (eq-eqb x.0 s g)) (is_entry w a e s x.1 (subst (λ z. Goes (MayGetResult w a e) (MayGetMessage w a e) (copy_in w a e) z x.1) g h.0), rest)
      | inr n ↦ subst (λ b. AreEntries w a e s (cond b (x.1 ∷ items_for s xs) (items_for s xs))) (sym (ne_eqb x.0 s n)) rest
    ]

entries_unless : (w : World) (a : ℕ) (e : Event) (s : ℕ) (o : Option Image) (items : List Item) → AreEntries w a e s items → AreEntries w a e s (unless_held o items)
entries_unless w a e s None items h = h
entries_unless w a e s (Some m) items h = tt

-- ---- who waits after a change

like : {w : TableState} {R M : ℕ → Type 0} → Scene w R M → (v : TableState) → ((s : ℕ) → Blocked (process_at v s) → Blocked (process_at w s)) → ((s : ℕ) → Receives (process_at v s) → Receives (process_at w s)) → v.waits ≡ w.waits → Scene v R M
like {w} {R} {M} h v f g e = record { blocked = λ s b. h.blocked s (f s b); receiving = λ s b. h.receiving s (g s b); sends = λ s k. h.sends s (subst (λ ps. Sends ps s) e k) }

-- a process with the state of before
same_state : {w : TableState} {R M : ℕ → Type 0} → Scene w R M → (s : ℕ) (x : Process) → x.state ≡ (process_at w s).state → Scene (with_process w s x) R M
same_state {w} h s x e = like h (with_process w s x)
    (λ p b. after_set Blocked w.slots s p x b (λ z. ap is_blocked (sym e) ∙ z))
    (λ p b. after_set Receives w.slots s p x b (λ z. ap is_receiving (sym e) ∙ z)) refl

abbrev readied : Process → Process
readied p = record p { state = Ready }

first_scene : {w : TableState} {R M : ℕ → Type 0} → Scene w R M → (s : ℕ) → Scene (table_with_first w s) R M
first_scene {w} h s = let x = readied (process_at w s) in like h (table_with_first w s) (λ p b. after_set Blocked w.slots s p x b (λ z. cc)) (λ p b. after_set Receives w.slots s p x b (λ z. cc)) refl

last_scene : {w : TableState} {R M : ℕ → Type 0} → Scene w R M → (s level : ℕ) → Scene (table_with_last w s level) R M
last_scene {w} h s level = let x = renewed level (process_at w s) in like h (table_with_last w s level) (λ p b. after_set Blocked w.slots s p x b (λ z. cc)) (λ p b. after_set Receives w.slots s p x b (λ z. cc)) refl

case_scene : {R M : ℕ → Type 0} (b : Bool) (x y : TableState) → Scene x R M → Scene y R M → Scene (cond b x y) R M
case_scene true x y h k = h
case_scene false x y h k = k

goes_on_scene : {w : TableState} {R M : ℕ → Type 0} → Scene w R M → (s r : ℕ) → Scene (goes_on w s r) R M
unfolding goes_on table_after_queueing
goes_on_scene {w} {R} {M} h s r =
    let v = with_result w s r in
    let k : Scene v R M = same_state h s _ refl in
    case_scene (nat_lt 0 (process_at v s).schedule.ticks) (table_with_first v s) (table_with_last v s (next_level (process_at v s) (is_last_renewed v s))) (first_scene k s) (last_scene k s (next_level (process_at v s) (is_last_renewed v s)))

notice_scene : {w : TableState} {R M : ℕ → Type 0} → Scene w R M → (d : ℕ) (x : Source) → Scene (table_after_notice w d x) R M
unfolding table_after_notice
notice_scene {w} {R} {M} h d x =
    let p = without_pending (process_at w d) x in
    let v = with_process w d p in
    let k : Scene v R M = same_state h d p refl in
    like k (table_after_notice w d x) (λ q b. after_set Blocked v.slots d q _ b (λ z. z)) (λ q b. after_set Receives v.slots d q _ b (λ z. z)) refl

notifying_scene : {w : TableState} {R M : ℕ → Type 0} → Scene w R M → (x : Source) (d : ℕ) → Scene (table_after_notifying w x d) R M
unfolding table_after_notifying
notifying_scene {w} h x d = case_scene (hears (process_at w d).state x) (goes_on (table_after_notice w d x) d 0) (with_pending w d (order_of_source x) true) (goes_on_scene (notice_scene h d x) d 0) (same_state h d _ refl)

home_scene : {t : TableState} {R M : ℕ → Type 0} → Scene t R M → (l : HeldProcess) → Scene (table_after_coming_home t l) R M
unfolding table_after_coming_home
home_scene {t} {R} {M} h l =
    let v = table_after_move_home t l.slot l.out.image in
    let x : Process = record (process_at t l.slot) { state = Home; image = l.out.image } in
    let k : Scene v R M = like h v (λ p b. after_set Blocked t.slots l.slot p x b (λ z. cc)) (λ p b. after_set Receives t.slots l.slot p x b (λ z. cc)) refl in
    same_state k l.slot _ refl

-- ---- alarms

rings_each : (R M : ℕ → Type 0) (ps : List ℕ) (w : TableState) → Scene w R M → Each (Goes R M None) (items_of_rings ps w)
rings_each R M [] w h = tt
rings_each R M (s ∷ ps) w h =
    let v = with_alarm w s None in
    let k : Scene v R M = same_state h s _ refl in
    each-append (Goes R M None) (items_of_notifying v Clock s) (items_of_rings ps (table_after_ring w s)) (notifying_each k None Clock s) (rings_each R M ps (table_after_ring w s) (notifying_scene k Clock s))

-- ---- who waits in a sound machine

sends_some : (s : ℕ) (pairs : List (ℕ × ℕ)) → Sends pairs s → 1 ≤ sends_of s pairs
sends_some s [] h = absurd h
sends_some s (e ∷ es) (inl g) = omega (arith, ap tally (eq-eqb e.0 s g))
sends_some s (e ∷ es) (inr h) = omega (arith, sends_some s es h)

sending_blocked : (st : State) → is_sending st ≡ true → is_blocked st ≡ true
sending_blocked Home h = cc
sending_blocked Ready h = cc
sending_blocked Out h = cc
sending_blocked Doomed h = cc
sending_blocked Sending h = refl
sending_blocked Calling h = refl
sending_blocked (Receiving p) h = cc
sending_blocked (Awaiting d) h = cc
sending_blocked (Down c) h = cc

sending_home : (st : State) → is_sending st ≡ true → is_out st ≡ false
sending_home Home h = cc
sending_home Ready h = cc
sending_home Out h = cc
sending_home Doomed h = cc
sending_home Sending h = refl
sending_home Calling h = refl
sending_home (Receiving p) h = cc
sending_home (Awaiting d) h = cc
sending_home (Down c) h = cc

sending_apart : (st : State) → is_sending st ≡ true → is_receiving st ≡ false
sending_apart Home h = cc
sending_apart Ready h = cc
sending_apart Out h = cc
sending_apart Doomed h = cc
sending_apart Sending h = refl
sending_apart Calling h = refl
sending_apart (Receiving p) h = cc
sending_apart (Awaiting d) h = cc
sending_apart (Down c) h = cc

sends_sending : (w : TableState) (s : ℕ) → Sound w → Sends w.waits s → is_sending (process_at w s).state ≡ true
sends_sending w s h k = by_bool (is_sending (process_at w s).state) ((h.each s).waiting)
  where
    by_bool : (b : Bool) → sends_of s w.waits ≡ tally b → b ≡ true
    by_bool true e = refl
    by_bool false e = absurd (omega (arith, e, sends_some s w.waits k))

sends_blocked : (w : TableState) (s : ℕ) → Sound w → Sends w.waits s → is_blocked (process_at w s).state ≡ true
sends_blocked w s h k = sending_blocked (process_at w s).state (sends_sending w s h k)

scene_now : (w : World) (a : ℕ) (e : Event) → Sound w.table → Scene w.table (MayGetResult w a e) (MayGetMessage w a e)
scene_now w a e h = record { blocked = λ s b. inr b; receiving = λ s b. inr b; sends = λ s k. inr (sends_blocked w.table s h k) }

-- ---- each event

by_step : (w : World) (a s : ℕ) (x : Option HeldProcess) → held_by w a ≡ x → AreEntries w a Step s (diary_of_step s x)
by_step w a s None e = tt
by_step w a s (Some l) e = elim (cases_eq l.slot s) [
  | inl g ↦ subst (λ b. AreEntries w a Step s (cond b (Ran ∷ []) [])) (sym (eq-eqb l.slot s g)) ((refl, ap (option_map (λ (k : HeldProcess). k.slot)) e ∙ ap Some g), tt)
  | inr n ↦ subst (λ b. AreEntries w a Step s (cond b (Ran ∷ []) [])) (sym (ne_eqb l.slot s n)) tt
]

entries_case : (w : World) (a : ℕ) (e : Event) (s : ℕ) (b : Bool) (xs ys : List Item) → AreEntries w a e s xs → AreEntries w a e s ys → AreEntries w a e s (cond b xs ys)
entries_case w a e s true xs ys h k = h
entries_case w a e s false xs ys h k = k

-- who comes home sent nothing: it was on a processor
sends_others : (w : World) (a p : ℕ) (l : HeldProcess) → IsSound w → held_by w a ≡ Some l → Sends w.table.waits p → p ≢ l.slot
sends_others w a p l h e k g =
    let sending = sends_sending w.table l.slot h.table (subst (Sends w.table.waits) g k) in
    held_is_out w a l h e (sending_home (process_at w.table l.slot).state sending)

coming_home_waits : (t : TableState) (l : HeldProcess) → (table_after_coming_home t l).waits ≡ t.waits
unfolding table_after_coming_home
coming_home_waits t l = refl

-- another slot's process isn't changed where one comes home
pub home_at : (t : TableState) (l : HeldProcess) (s : ℕ) → s ≢ l.slot → process_at (table_after_coming_home t l) s ≡ process_at t s
unfolding table_after_coming_home
home_at t l s n = get_or-set_other (table_after_move_home t l.slot l.out.image).slots l.slot s _ nobody n ∙ get_or-set_other t.slots l.slot s _ nobody n

are_ready : (w : World) (a : ℕ) (l : HeldProcess) → IsSound w → held_by w a ≡ Some l → AreReady (table_after_coming_home w.table l)
are_ready w a l h e =
    let sends : (p : ℕ) → Sends (table_after_coming_home w.table l).waits p → Sends w.table.waits p = λ p k. subst (λ ps. Sends ps p) (coming_home_waits w.table l) k in
    let same : (p : ℕ) → Sends (table_after_coming_home w.table l).waits p → process_at (table_after_coming_home w.table l) p ≡ process_at w.table p = λ p k. home_at w.table l p (sends_others w a p l h e (sends p k)) in
    record {
      room = λ p k. subst HasBuffer (sym (same p k)) ((h.table.each p).process.buffer (sends_blocked w.table p h.table (sends p k)));
      apart = λ p k. ap (λ (x : Process). is_receiving x.state) (same p k) ∙ sending_apart (process_at w.table p).state (sends_sending w.table p h.table (sends p k));
    }

by_back : (w : World) (a s : ℕ) (x : Option HeldProcess) → IsSound w → held_by w a ≡ x → AreEntries w a Back s (diary_of_back w s x)
by_back w a s None h e = tt
by_back w a s (Some l) h e =
    let t = table_after_coming_home w.table l in
    let doomed = is_doomed (process_at w.table l.slot).state in
    let items = items_of_end_of_turn t l.slot doomed l.out.stop in
    let own : slot_on w a ≡ Some l.slot = ap (option_map (λ (k : HeldProcess). k.slot)) e in
    let made : copy_at_end t l.slot doomed l.out.stop ≡ copy_in w a Back = ap (copy_at_back w.table) (sym e) in
    let each : WrittenBy w a Back items = subst (λ m. Each (Goes (MayGetResult w a Back) (MayGetMessage w a Back) m) items) made (end_of_turn_each (home_scene (scene_now w a Back h.table) l) (are_ready w a l h e) l.slot doomed l.out.stop (inl own) (inl own)) in
    let entries = entries_for w a Back s items each in
    entries_case w a Back s (l.slot == s) (items_for s items) (unless_held (image_held_in s w.cpus) (items_for s items)) entries (entries_unless w a Back s (image_held_in s w.cpus) (items_for s items) entries)

line_each : (w : World) (a l : ℕ) (x : Option ℕ) → Sound w.table → WrittenBy w a (Line l) (items_of_line w.table l x)
line_each w a l None h = tt
line_each w a l (Some s) h = notifying_each (same_state (scene_now w a (Line l) h) s _ refl) None Hardware s

tick_each : (w : World) (a : ℕ) → Sound w.table → WrittenBy w a Tick (items_of_event w Tick)
tick_each w a h = let later = with_tick w.table in rings_each (MayGetResult w a Tick) (MayGetMessage w a Tick) (due_slots later.uptime 0 later.slots) later (like (scene_now w a Tick h) later (λ p b. b) (λ p b. b) refl)

kill_each : (w : World) (a e : ℕ) → Sound w.table → WrittenBy w a (Kill e) (items_of_kill w.table (e % 1024))
kill_each w a e h = each-case (Goes (MayGetResult w a (Kill e)) (MayGetMessage w a (Kill e)) None) (is_out (process_at w.table (e % 1024)).state) [] (items_of_death w.table (e % 1024)) (λ t. tt) (λ t. death_each (scene_now w a (Kill e) h) None (e % 1024))

-- THE ENTRIES of an event
pub event_entries : (w : World) (a : ℕ) (e : Event) (s : ℕ) → IsSound w → AreEntries w a e s (diary w a e s)
event_entries w a Step s h = by_step w a s (held_by w a) refl
event_entries w a Take s h = entries_unless w a Take s (image_held_in s w.cpus) [] tt
event_entries w a Back s h = by_back w a s (held_by w a) h refl
event_entries w a (Line l) s h = entries_unless w a (Line l) s (image_held_in s w.cpus) _ (entries_for w a (Line l) s (items_of_line w.table l (owner_of w.table l)) (line_each w a l (owner_of w.table l) h.table))
event_entries w a Tick s h = entries_unless w a Tick s (image_held_in s w.cpus) _ (entries_for w a Tick s (items_of_event w Tick) (tick_each w a h.table))
event_entries w a (Kill e) s h = entries_unless w a (Kill e) s (image_held_in s w.cpus) _ (entries_for w a (Kill e) s (items_of_kill w.table (e % 1024)) (kill_each w a e h.table))
event_entries w a (Respawn t) s h = entries_unless w a (Respawn t) s (image_held_in s w.cpus) [] tt
