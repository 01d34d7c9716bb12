-- What an event does to an image is what its diary says.
use Rattle.std.proofs.Common.{◌≡◌, ◌≢◌, ◌∙◌, ℕ, zero, suc, ◌<◌, ◌%◌, ◌==◌, Bool, true, false, cond, nat_lt, List, [], ◌∷◌, length, Option, Some, None, refl, sym, ap, subst, get_or, slice_set, get_or-set_same, get_or-set_other, length-set, slice_get, inl, inr, arith}
use Rattle.std.proofs.lemmas.Bool.{cases_eq, eq-eqb, ne_eqb, ltb-true}
use Rattle.mx_exec.specs.declared.image.Image.{Image}
use Rattle.mx_exec.specs.Image.{blank}
use Rattle.mx_proc.specs.declared.process.DeathCause.TheVariants as cause
use Rattle.mx_proc.specs.declared.process.Source.TheVariants.{Hardware, Clock}
use Rattle.mx_proc.specs.Queues.{first_ready}
use Rattle.mx_proc.specs.States.{is_out}
use Rattle.mx_proc.specs.Serving.{with_line, with_alarm, with_tick}
use Rattle.mx_proc.specs.TableState.{TableState, process_at, table_after_dequeue, table_after_steps, table_after_move_home}
use Rattle.mx_kcall.specs.Service.{Service}
use Rattle.mx_kcall.specs.Respawn.{table_after_respawn, next_process}
use Rattle.mx_kcall.specs.Clock.{table_after_line, due_slots, table_after_ring, table_after_rings, table_after_tick}
use Rattle.mx_kcall.specs.Refusals.{owner_of}
use Rattle.mx_machine.specs.declared.events.Event.{Event}
use Rattle.mx_machine.specs.declared.events.Event.TheVariants.{Step, Take, Back, Line, Tick, Kill, Respawn}
use Rattle.mx_machine.specs.declared.events.Refusal.TheVariants.{CpuBusy}
use Rattle.mx_machine.specs.Held.{out_after_step}
use Rattle.mx_machine.specs.Move.{world_after_back, world_after_event, world_after_line, world_after_respawn, world_after_step, world_after_take, table_after_coming_home, event_refusal, is_doomed, table_after_kill, held_at_take, table_after_end_of_turn, table_after_back, table_after_sending_out, take_refusal}
use Rattle.mx_machine.specs.World.{World, HeldProcess, held_by, free_records}
use Rattle.mx_laws.specs.Diary.{Item, play, play_all, items_for, images}
use Rattle.mx_laws.specs.Items.{items_of_notifying, items_of_end_of_turn}
use Rattle.mx_laws.specs.Diary.Item.{Ran}
use Rattle.mx_laws.specs.Diaries.{image_held_in, image_now, items_of_rings, items_of_line, items_of_kill, items_of_event, unless_held, diary_of_step, diary_of_back, diary, IsNoRespawnOf}
use Rattle.mx_laws.proofs.DiaryLemmas.{image_held_by, image_or, held_first, get_or-images, images-kept, images-set, play_all-append, play_all-at, by_case, notifying_images, death_images}
use Rattle.mx_laws.proofs.ItemLemmas.{end_of_turn_images}

-- What processors hold is held once, and who is first to run isn't held.
pub record IsHeldOnce (w : World) : Type 0 where
  pub apart : (a b : ℕ) (l k : HeldProcess) → held_by w a ≡ Some l → held_by w b ≡ Some k → l.slot ≡ k.slot → a ≡ b
  pub picked_free : (s : ℕ) → first_ready w.table.ready ≡ Some s → image_held_in s w.cpus ≡ None

-- ---- what processors hold

abbrev Skips : ℕ → Option HeldProcess → Type 0
Skips s None = Unit {0}
Skips s (Some l) = l.slot ≢ s

skipped : (s : ℕ) (x : Option HeldProcess) (rest : Option Image) → Skips s x → image_held_by s x rest ≡ rest
skipped s None rest n = refl
skipped s (Some l) rest n = rw (ne_eqb l.slot s n) refl

-- another slot's
held_other : (s : ℕ) (xs : List (Option HeldProcess)) (a : ℕ) (x : Option HeldProcess) → Skips s (get_or xs a None) → Skips s x → image_held_in s (slice_set xs a x) ≡ image_held_in s xs
held_other s [] a x m n = refl
held_other s (y ∷ ys) zero x m n = held_first s x ys ∙ skipped s x (image_held_in s ys) n ∙ sym (skipped s y (image_held_in s ys) m) ∙ sym (held_first s y ys)
held_other s (y ∷ ys) (suc a) x m n = held_first s y (slice_set ys a x) ∙ ap (image_held_by s y) (held_other s ys a x m n) ∙ sym (held_first s y ys)

none_held : (s : ℕ) (xs : List (Option HeldProcess)) → ((b : ℕ) → Skips s (get_or xs b None)) → image_held_in s xs ≡ None
none_held s [] f = refl
none_held s (y ∷ ys) f = held_first s y ys ∙ skipped s y (image_held_in s ys) (f zero) ∙ none_held s ys (λ b. f (suc b))

-- its own, where no other processor holds it
held_own : (s : ℕ) (xs : List (Option HeldProcess)) (a : ℕ) (x : Option HeldProcess) → a < length xs → ((b : ℕ) → b ≢ a → Skips s (get_or xs b None)) → image_held_in s (slice_set xs a x) ≡ image_held_by s x None
held_own s [] a x lt f = absurd (omega (arith, lt))
held_own s (y ∷ ys) zero x lt f = held_first s x ys ∙ ap (image_held_by s x) (none_held s ys (λ b. f (suc b) (λ e. cc)))
held_own s (y ∷ ys) (suc a) x lt f = held_first s y (slice_set ys a x) ∙ skipped s y (image_held_in s (slice_set ys a x)) (f zero (λ e. cc)) ∙ held_own s ys a x (omega arith) (λ b n. f (suc b) (λ e. n (omega arith)))

set-own : {X : Type 0} (xs : List X) (i : ℕ) (d y : X) → get_or xs i d ≡ y → slice_set xs i y ≡ xs
set-own [] i d y e = refl
set-own (x ∷ xs) zero d y e = ap (λ z. z ∷ xs) (sym e)
set-own (x ∷ xs) (suc i) d y e = ap (λ l. x ∷ l) (set-own xs i d y e)

holds_in : {X : Type 0} (xs : List (Option X)) (a : ℕ) (x : X) → get_or xs a None ≡ Some x → a < length xs
holds_in [] a x e = cc
holds_in (y ∷ ys) zero x e = omega arith
holds_in (y ∷ ys) (suc a) x e = let h = holds_in ys a x e in omega arith

held_here : (l : HeldProcess) (m : Option Image) → image_held_by l.slot (Some l) m ≡ Some l.out.image
held_here l m = rw (eq-eqb l.slot l.slot refl) refl

skips_others : (w : World) (a : ℕ) (l : HeldProcess) → IsHeldOnce w → held_by w a ≡ Some l → (b : ℕ) → b ≢ a → Skips l.slot (held_by w b)
skips_others w a l h e b n = by_held (held_by w b) refl
  where
    by_held : (x : Option HeldProcess) → held_by w b ≡ x → Skips l.slot x
    by_held None f = tt
    by_held (Some k) f = λ g. n (h.apart b a k l f e g)

-- one that nobody held
take_own : (p : ℕ) (xs : List (Option HeldProcess)) (a : ℕ) (l : HeldProcess) → a < length xs → l.slot ≡ p → image_held_in p xs ≡ None → get_or xs a None ≡ None → image_held_in p (slice_set xs a (Some l)) ≡ Some l.out.image
take_own p [] a l lt e f g = absurd (omega (arith, lt))
take_own p (y ∷ ys) zero l lt e f g = rw (eq-eqb l.slot p e) refl
take_own p (y ∷ ys) (suc a) l lt e f g = let k = not_first y (sym (held_first p y ys) ∙ f) in held_first p y (slice_set ys a (Some l)) ∙ k.0 (image_held_in p (slice_set ys a (Some l))) ∙ take_own p ys a l (omega arith) e k.1 g
  where
    not_first : (y : Option HeldProcess) → image_held_by p y (image_held_in p ys) ≡ None → ((rest : Option Image) → image_held_by p y rest ≡ rest) × (image_held_in p ys ≡ None)
    not_first None f = (λ rest. refl, f)
    not_first (Some k) f = by_bool (k.slot == p) refl f
      where
        by_bool : (b : Bool) → (k.slot == p) ≡ b → cond b (Some k.out.image) (image_held_in p ys) ≡ None → ((rest : Option Image) → cond (k.slot == p) (Some k.out.image) rest ≡ rest) × (image_held_in p ys ≡ None)
        by_bool true g f = cc
        by_bool false g f = (λ rest. ap (λ c. cond c (Some k.out.image) rest) g, f)

-- ---- images at home

home_law : (t u : TableState) (items : List (ℕ × Item)) (s : ℕ) (o : Option Image) → s < length (images t) → images u ≡ play_all items (images t)
    → image_or (get_or (images u) s blank) o ≡ play (unless_held o (items_for s items)) (image_or (get_or (images t) s blank) o)
home_law t u items s None b e = ap (λ ms. get_or ms s blank) e ∙ play_all-at items (images t) s b
home_law t u items s (Some m) b e = refl

ring_images : (ps : List ℕ) (w : TableState) → images (table_after_rings w ps) ≡ play_all (items_of_rings ps w) (images w)
ring_images [] w = refl
ring_images (s ∷ ps) w =
    let first : images (table_after_ring w s) ≡ play_all (items_of_notifying (with_alarm w s None) Clock s) (images w) = notifying_images (with_alarm w s None) Clock s ∙ ap (play_all (items_of_notifying (with_alarm w s None) Clock s)) (images-kept w.slots s _ refl) in
    ring_images ps (table_after_ring w s) ∙ ap (play_all (items_of_rings ps (table_after_ring w s))) first ∙ sym (play_all-append (items_of_notifying (with_alarm w s None) Clock s) (items_of_rings ps (table_after_ring w s)) (images w))

tick_images : (w : World) → images (table_after_tick w.table) ≡ play_all (items_of_event w Tick) (images w.table)
unfolding table_after_tick
tick_images w = let later = with_tick w.table in ring_images (due_slots later.uptime 0 later.slots) later

line_images : (t : TableState) (l s : ℕ) → images (table_after_line t l s) ≡ play_all (items_of_line t l (Some s)) (images t)
line_images t l s = notifying_images (with_line t s l) Hardware s ∙ ap (play_all (items_of_notifying (with_line t s l) Hardware s)) (images-kept t.slots s _ refl)

kill_images : (t : TableState) (s : ℕ) → images (table_after_kill t s) ≡ play_all (items_of_kill t s) (images t)
unfolding table_after_kill
kill_images t s = by_case (is_out (process_at t s).state) _ _ _ _ (images t) (images-kept t.slots s _ refl) (death_images t s cause.Kill)

sent_out_at : (t : TableState) (p s : ℕ) → p ≢ s → get_or (images (table_after_sending_out t p)) s blank ≡ get_or (images t) s blank
unfolding table_after_sending_out
sent_out_at t p s n = ap (λ ms. get_or ms s blank) (images-set (table_after_dequeue t p).slots p _) ∙ get_or-set_other (images (table_after_dequeue t p)) p s blank blank (λ e. n (sym e)) ∙ ap (λ ms. get_or ms s blank) (images-kept t.slots p _ refl)

home_images : (t : TableState) (l : HeldProcess) → images (table_after_coming_home t l) ≡ slice_set (images t) l.slot l.out.image
unfolding table_after_coming_home
home_images t l = spent_kept ∙ images-set t.slots l.slot _
  where
    spent_kept : images (table_after_steps (table_after_move_home t l.slot l.out.image) l.slot l.out.count) ≡ images (table_after_move_home t l.slot l.out.image)
    spent_kept = images-kept (table_after_move_home t l.slot l.out.image).slots l.slot _ refl

pub image_in : (t : TableState) (p : ℕ) → get_or (images t) p blank ≡ (process_at t p).image
image_in t p = get_or-images t.slots p

-- ---- each event

by_step : (w : World) (a s : ℕ) (x : Option HeldProcess) → IsHeldOnce w → held_by w a ≡ x → image_now (world_after_step w a x) s ≡ play (diary_of_step s x) (image_now w s)
unfolding out_after_step
by_step w a s None h e = refl
by_step w a s (Some l) h e =
    let k : HeldProcess = record l { out = out_after_step l.out } in
    let lt = holds_in w.cpus a l e in
    elim (cases_eq l.slot s) [
      | inl g ↦
          let own : image_held_in l.slot (slice_set w.cpus a (Some k)) ≡ Some k.out.image = held_own l.slot w.cpus a (Some k) lt (skips_others w a l h e) ∙ held_here k None in
          let was : image_held_in l.slot w.cpus ≡ Some l.out.image = ap (image_held_in l.slot) (sym (set-own w.cpus a None (Some l) e)) ∙ held_own l.slot w.cpus a (Some l) lt (skips_others w a l h e) ∙ held_here l None in
          subst (λ z. image_now (world_after_step w a (Some l)) z ≡ play (diary_of_step z (Some l)) (image_now w z)) g
          (ap (image_or (get_or (images w.table) l.slot blank)) own
          ∙ sym (ap (λ b. play (cond b (Ran ∷ []) []) (image_now w l.slot)) (eq-eqb l.slot l.slot refl) ∙ ap (λ o. play (Ran ∷ []) (image_or (get_or (images w.table) l.slot blank) o)) was))
      | inr n ↦ rw (ne_eqb l.slot s n) (ap (image_or (get_or (images w.table) s blank)) (held_other s w.cpus a (Some k) (subst (Skips s) (sym e) n) n))
    ]

by_take : (w : World) (a s : ℕ) (p : Option ℕ) → IsHeldOnce w → first_ready w.table.ready ≡ p → held_by w a ≡ None → a < length w.cpus → image_now (world_after_take w a p) s ≡ image_now w s
by_take w a s None h e f lt = refl
by_take w a s (Some p) h e f lt =
    let l = held_at_take w.table p in
    elim (cases_eq p s) [
      | inl g ↦
          let free_records = h.picked_free p e in
          let own : image_held_in p (slice_set w.cpus a (Some l)) ≡ Some l.out.image = take_own p w.cpus a l lt refl free_records f in
          subst (λ z. image_now (world_after_take w a (Some p)) z ≡ image_now w z) g
          (ap (image_or (get_or (images (table_after_sending_out w.table p)) p blank)) own ∙ sym (ap (image_or (get_or (images w.table) p blank)) free_records ∙ image_in w.table p))
      | inr n ↦
          ap (image_or (get_or (images (table_after_sending_out w.table p)) s blank)) (held_other s w.cpus a (Some l) (subst (Skips s) (sym f) tt) n)
          ∙ ap (λ m. image_or m (image_held_in s w.cpus)) (sent_out_at w.table p s n)
    ]

by_back : (w : World) (a s : ℕ) (x : Option HeldProcess) → IsHeldOnce w → held_by w a ≡ x → s < length (images w.table) → image_now (world_after_back w a x) s ≡ play (diary_of_back w s x) (image_now w s)
unfolding table_after_back
by_back w a s None h e b = refl
by_back w a s (Some l) h e b =
    let t = table_after_coming_home w.table l in
    let doomed = is_doomed (process_at w.table l.slot).state in
    let items = items_of_end_of_turn t l.slot doomed l.out.stop in
    let u = table_after_end_of_turn t l.slot doomed l.out.stop in
    let made : images u ≡ play_all items (images t) = end_of_turn_images t l.slot doomed l.out.stop in
    let lt = holds_in w.cpus a l e in
    let room : s < length (images t) = subst (λ ms. s < length ms) (sym (home_images w.table l)) (omega (arith, b, length-set (images w.table) l.slot l.out.image)) in
    elim (cases_eq l.slot s) [
      | inl g ↦
          let gone : image_held_in s (slice_set w.cpus a None) ≡ None = subst (λ z. image_held_in z (slice_set w.cpus a None) ≡ None) g (held_own l.slot w.cpus a None lt (skips_others w a l h e)) in
          let was : image_held_in s w.cpus ≡ Some l.out.image = subst (λ z. image_held_in z w.cpus ≡ Some l.out.image) g (ap (image_held_in l.slot) (sym (set-own w.cpus a None (Some l) e)) ∙ held_own l.slot w.cpus a (Some l) lt (skips_others w a l h e) ∙ held_here l None) in
          let came : get_or (images t) s blank ≡ l.out.image = ap (λ ms. get_or ms s blank) (home_images w.table l) ∙ subst (λ z. get_or (slice_set (images w.table) z l.out.image) s blank ≡ l.out.image) (sym g) (get_or-set_same (images w.table) s l.out.image blank b) in
          ap (image_or (get_or (images u) s blank)) gone ∙ ap (λ ms. get_or ms s blank) made ∙ play_all-at items (images t) s room ∙ ap (play (items_for s items)) came
          ∙ sym (ap (λ c. play (cond c (items_for s items) (unless_held (image_held_in s w.cpus) (items_for s items))) (image_now w s)) (eq-eqb l.slot s g) ∙ ap (λ o. play (items_for s items) (image_or (get_or (images w.table) s blank) o)) was)
      | inr n ↦
          let kept : get_or (images t) s blank ≡ get_or (images w.table) s blank = ap (λ ms. get_or ms s blank) (home_images w.table l) ∙ get_or-set_other (images w.table) l.slot s l.out.image blank (λ g. n (sym g)) in
          ap (image_or (get_or (images u) s blank)) (held_other s w.cpus a None (subst (Skips s) (sym e) n) tt)
          ∙ home_law t u items s (image_held_in s w.cpus) room made
          ∙ ap (λ m. play (unless_held (image_held_in s w.cpus) (items_for s items)) (image_or m (image_held_in s w.cpus))) kept
          ∙ sym (ap (λ c. play (cond c (items_for s items) (unless_held (image_held_in s w.cpus) (items_for s items))) (image_now w s)) (ne_eqb l.slot s n))
    ]

nothing : (o : Option Image) (m : Image) → m ≡ play (unless_held o []) m
nothing None m = refl
nothing (Some k) m = refl

by_line : (w : World) (l s : ℕ) (x : Option ℕ) → s < length (images w.table) → image_now (world_after_line w l x) s ≡ play (unless_held (image_held_in s w.cpus) (items_for s (items_of_line w.table l x))) (image_now w s)
by_line w l s None b = nothing (image_held_in s w.cpus) (image_now w s)
by_line w l s (Some p) b = home_law w.table (table_after_line w.table l p) (items_of_line w.table l (Some p)) s (image_held_in s w.cpus) b (line_images w.table l p)

by_respawn : (w : World) (t s : ℕ) (x : Option Service) → t ≢ s → image_now (world_after_respawn w t x) s ≡ image_now w s
unfolding table_after_respawn
by_respawn w t s None n = refl
by_respawn w t s (Some v) n = ap (λ m. image_or m (image_held_in s w.cpus)) (ap (λ ms. get_or ms s blank) (images-set w.table.slots t (next_process (process_at w.table t) v)) ∙ get_or-set_other (images w.table) t s (next_process (process_at w.table t) v).image blank (λ g. n (sym g)))

take_ready : (w : World) (a : ℕ) → event_refusal w a Take ≡ None → (held_by w a ≡ None) × (a < length w.cpus)
unfolding event_refusal
take_ready w a e = by_bool (nat_lt a (length w.cpus)) refl e
  where
    by_held : (x : Option HeldProcess) → held_by w a ≡ x → take_refusal (free_records w) x (first_ready w.table.ready) ≡ None → x ≡ None
    by_held None f g = refl
    by_held (Some l) f g = cc

    by_bool : (b : Bool) → nat_lt a (length w.cpus) ≡ b → cond b (take_refusal (free_records w) (held_by w a) (first_ready w.table.ready)) (Some CpuBusy) ≡ None → (held_by w a ≡ None) × (a < length w.cpus)
    by_bool true f g = (by_held (held_by w a) refl g, ltb-true a (length w.cpus) f)
    by_bool false f g = cc

-- AN EVENT
pub event_law : (w : World) (a : ℕ) (e : Event) (s : ℕ) → IsHeldOnce w → event_refusal w a e ≡ None → s < length (images w.table) → IsNoRespawnOf s e → image_now (world_after_event w a e) s ≡ play (diary w a e s) (image_now w s)
unfolding world_after_event
event_law w a Step s h r b n = by_step w a s (held_by w a) h refl
event_law w a Take s h r b n = let k = take_ready w a r in by_take w a s (first_ready w.table.ready) h refl k.0 k.1 ∙ nothing (image_held_in s w.cpus) (image_now w s)
event_law w a Back s h r b n = by_back w a s (held_by w a) h refl b
event_law w a (Line l) s h r b n = by_line w l s (owner_of w.table l) b
event_law w a Tick s h r b n = home_law w.table (table_after_tick w.table) (items_of_event w Tick) s (image_held_in s w.cpus) b (tick_images w)
event_law w a (Kill e) s h r b n = home_law w.table (table_after_kill w.table (e % 1024)) (items_of_kill w.table (e % 1024)) s (image_held_in s w.cpus) b (kill_images w.table (e % 1024))
event_law w a (Respawn t) s h r b n = by_respawn w t s (slice_get w.services t) n ∙ nothing (image_held_in s w.cpus) (image_now w s)
