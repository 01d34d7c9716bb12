-- What a run does to an image is what its diary says; and each process begins as its program.
use Rattle.std.proofs.Common.{◌≡◌, ◌∙◌, ℕ, zero, suc, ◌<◌, Bool, true, false, cond, not, List, [], ◌∷◌, ◌++◌, length, map, replicate, Option, Some, None, refl, sym, ap, subst, get_or, slice_get, get_or-set_same, inl, inr, arith}
use Rattle.std.proofs.lemmas.Bool.{cases_eq, eq-eqb, ne_eqb}
use Rattle.std.proofs.lemmas.List.{length-map}
use Rattle.mx_exec.specs.declared.image.Image.{Image}
use Rattle.mx_exec.specs.Image.{blank}
use Rattle.mx_proc.specs.declared.process.Process.{Process}
use Rattle.mx_proc.specs.declared.process.State.{State}
use Rattle.mx_proc.specs.declared.process.State.TheVariants.{Home, Ready, Out, Doomed, Sending, Calling, Receiving, Awaiting, Down}
use Rattle.mx_proc.specs.States.{is_down, is_out}
use Rattle.mx_proc.specs.TableState.{process_at}
use Rattle.mx_kcall.specs.Load.{image_of_program}
use Rattle.mx_kcall.specs.Respawn.{is_worn, next_process, table_after_respawn}
use Rattle.mx_kcall.specs.Service.{Service}
use Rattle.mx_kcall.specs.Rules.{Rules}
use Rattle.mx_machine.specs.declared.config.Config.{Config}
use Rattle.mx_machine.specs.declared.events.Event.{Event}
use Rattle.mx_machine.specs.declared.events.Event.TheVariants.{Step, Take, Back, Line, Tick, Kill, Respawn}
use Rattle.mx_machine.specs.declared.events.Refusal.{Refusal}
use Rattle.mx_machine.specs.Boot.{first_process, first_table, world_at_boot, world_at_boot_with}
use Rattle.mx_machine.specs.declared.events.Refusal.TheVariants.{NotDown, Worn}
use Rattle.mx_machine.specs.Move.{event_refusal, if_full, move, move_by, moves, respawn_refusal, world_after_event, world_after_step, world_after_take, world_after_back, world_after_line, world_after_respawn}
use Rattle.mx_machine.specs.History.{BootAndHistory, events_of_history, replay}
use Rattle.mx_machine.specs.Sound.{IsSound}
use Rattle.mx_machine.specs.World.{World, HeldProcess, free_records, held_by}
use Rattle.mx_proc.specs.Queues.{first_ready}
use Rattle.mx_kcall.specs.Refusals.{owner_of}
use Rattle.mx_machine.specs.Machine.{AreSound}
use Rattle.mx_laws.specs.Diary.{Item, image_after_item, image_of, images, play}
use Rattle.mx_laws.specs.Diaries.{diary, image_held_in, image_now, IsNoRespawnOf}
use Rattle.mx_laws.specs.Runs.{AreNoRespawnsOf, written_down, diary_along, diary_with, diary_after, diary_of_life, generation_diary, image_of_life, IsLife, Life, life_of}
use Rattle.mx_laws.proofs.DiaryLemmas.{image_or, images-set}
use Rattle.mx_laws.proofs.DiaryMoves.{event_law}
use Rattle.mx_laws.proofs.SoundDiaries.{held_once, not_held}

play-append : (xs ys : List Item) (m : Image) → play (xs ++ ys) m ≡ play ys (play xs m)
play-append [] ys m = refl
play-append (x ∷ xs) ys m = play-append xs ys (image_after_item x m)

-- ---- services stay, and each has a slot

services_step : (w : World) (a : ℕ) (x : Option HeldProcess) → (world_after_step w a x).services ≡ w.services
services_step w a None = refl
services_step w a (Some l) = refl

services_take : (w : World) (a : ℕ) (x : Option ℕ) → (world_after_take w a x).services ≡ w.services
services_take w a None = refl
services_take w a (Some s) = refl

services_back : (w : World) (a : ℕ) (x : Option HeldProcess) → (world_after_back w a x).services ≡ w.services
services_back w a None = refl
services_back w a (Some l) = refl

services_line : (w : World) (l : ℕ) (x : Option ℕ) → (world_after_line w l x).services ≡ w.services
services_line w l None = refl
services_line w l (Some s) = refl

services_respawn : (w : World) (s : ℕ) (x : Option Service) → (world_after_respawn w s x).services ≡ w.services
services_respawn w s None = refl
services_respawn w s (Some v) = refl

services_event : (w : World) (a : ℕ) (e : Event) → (world_after_event w a e).services ≡ w.services
unfolding world_after_event
services_event w a Step = services_step w a (held_by w a)
services_event w a Take = services_take w a (first_ready w.table.ready)
services_event w a Back = services_back w a (held_by w a)
services_event w a (Line l) = services_line w l (owner_of w.table l)
services_event w a Tick = refl
services_event w a (Kill e) = refl
services_event w a (Respawn s) = services_respawn w s (slice_get w.services s)

services_by : (w : World) (a : ℕ) (e : Event) (r : Option Refusal) → (move_by w a e r).1.services ≡ w.services
services_by w a e (Some r) = refl
services_by w a e None = services_event w a e

services_move : (w : World) (a : ℕ) (e : Event) → (move w a e).1.services ≡ w.services
unfolding move
services_move w a e = services_by w a e (event_refusal w a e)

pub has_slot : (w : World) (s : ℕ) → IsSound w → s < length w.services → s < length (images w.table)
has_slot w s h lt = omega (arith, lt, h.holds.served, length-map w.table.slots image_of)

is_served : (vs : List Service) (s : ℕ) (v : Service) → slice_get vs s ≡ Some v → s < length vs
is_served [] s v e = cc
is_served (x ∷ vs) zero v e = omega arith
is_served (x ∷ vs) (suc s) v e = let h = is_served vs s v e in omega arith

-- ---- a run without a new process

by_refusal : (w : World) (a : ℕ) (e : Event) (s : ℕ) (r : Option Refusal) → event_refusal w a e ≡ r → IsSound w → s < length (images w.table) → IsNoRespawnOf s e → image_now (move_by w a e r).1 s ≡ play (written_down w a e s r) (image_now w s)
by_refusal w a e s (Some r) f h b n = refl
by_refusal w a e s None f h b n = event_law w a e s (held_once w h) f b n

pub move_law : (w : World) (a : ℕ) (e : Event) (s : ℕ) → IsSound w → s < length (images w.table) → IsNoRespawnOf s e → image_now (move w a e).1 s ≡ play (written_down w a e s (event_refusal w a e)) (image_now w s)
unfolding move
move_law w a e s h b n = by_refusal w a e s (event_refusal w a e) refl h b n

pub run_law : (xs : List (ℕ × Event)) (w : World) (s : ℕ) → AreSound w xs → AreNoRespawnsOf s xs → s < length w.services → image_now (moves w xs).1 s ≡ play (diary_along w xs s) (image_now w s)
run_law [] w s h n b = refl
run_law (x ∷ xs) w s h n b =
    let first = written_down w x.0 x.1 s (event_refusal w x.0 x.1) in
    let v = (move w x.0 x.1).1 in
    let c : s < length v.services = subst (λ (vs : List Service). s < length vs) (sym (services_move w x.0 x.1)) b in
    run_law xs v s h.1 n.1 c ∙ ap (play (diary_along v xs s)) (move_law w x.0 x.1 s h.0 (has_slot w s h.0 b) n.0) ∙ sym (play-append first (diary_along v xs s) (image_now w s))

-- ---- a new process, and boot

down_not_out : (st : State) → is_down st ≡ true → is_out st ≡ false
down_not_out Home e = cc
down_not_out Ready e = cc
down_not_out Out e = cc
down_not_out Doomed e = cc
down_not_out Sending e = cc
down_not_out Calling e = cc
down_not_out (Receiving p) e = cc
down_not_out (Awaiting d) e = cc
down_not_out (Down c) e = refl

respawn_down : (n : ℕ) (p : Process) (v : Service) → respawn_refusal n p (Some v) ≡ None → is_down p.state ≡ true
respawn_down n p v e = by_bool (is_down p.state) e
  where
    by_bool : (b : Bool) → cond (not b) (Some NotDown) (cond (is_worn p v) (Some Worn) (if_full n 1)) ≡ None → b ≡ true
    by_bool true f = refl
    by_bool false f = cc

respawned_at : (w : World) (s : ℕ) (x : Option Service) (v : Service) → x ≡ Some v → s < length (images w.table) → image_held_in s w.cpus ≡ None → image_now (world_after_respawn w s x) s ≡ image_of_program v.program
unfolding table_after_respawn
respawned_at w s None v e b free = cc
respawned_at w s (Some x) v e b free =
    let p = next_process (process_at w.table s) x in
    ap (image_or (get_or (images (table_after_respawn w.table s x)) s blank)) free
    ∙ ap (λ ms. get_or ms s blank) (images-set w.table.slots s p)
    ∙ get_or-set_same (images w.table) s p.image blank b
    ∙ ap (λ (o : Option Service). program_image o) e
  where
    program_image : Option Service → Image
    program_image None = blank
    program_image (Some y) = image_of_program y.program

refusal_read : (w : World) (a s : ℕ) (v : Service) → slice_get w.services s ≡ Some v → event_refusal w a (Respawn s) ≡ None → respawn_refusal (free_records w) (process_at w.table s) (Some v) ≡ None
unfolding event_refusal
refusal_read w a s v e f = ap (respawn_refusal (free_records w) (process_at w.table s)) (sym e) ∙ f

-- A NEW PROCESS begins as its program
pub respawn_law : (w : World) (a s : ℕ) (v : Service) → IsSound w → event_refusal w a (Respawn s) ≡ None → slice_get w.services s ≡ Some v → image_now (world_after_event w a (Respawn s)) s ≡ image_of_program v.program
unfolding world_after_event
respawn_law w a s v h f e =
    let down = respawn_down (free_records w) (process_at w.table s) v (refusal_read w a s v e f) in
    respawned_at w s (slice_get w.services s) v e (has_slot w s h (is_served w.services s v e)) (not_held w s h (down_not_out (process_at w.table s).state down))

none_at_boot : (s n : ℕ) → image_held_in s (replicate n None) ≡ None
none_at_boot s zero = refl
none_at_boot s (suc n) = none_at_boot s n

first_image : (vs : List Service) (s : ℕ) (v : Service) → slice_get vs s ≡ Some v → get_or (map image_of (map first_process vs)) s blank ≡ image_of_program v.program
first_image [] s v e = cc
first_image (x ∷ vs) zero v e = ap program_image e
  where
    program_image : Option Service → Image
    program_image None = blank
    program_image (Some y) = image_of_program y.program
first_image (x ∷ vs) (suc s) v e = first_image vs s v e

-- so does each process at boot
pub boot_law : (rules : Rules) (services : List Service) (cpus others capacity s : ℕ) (v : Service) → slice_get services s ≡ Some v → image_now (world_at_boot_with rules services cpus others capacity) s ≡ image_of_program v.program
unfolding first_table
boot_law rules services cpus others capacity s v e =
    ap (image_or (get_or (images (first_table rules services)) s blank)) (none_at_boot s cpus) ∙ first_image services s v e

-- ---- generations

usual : (w : World) (a : ℕ) (e : Event) (s : ℕ) (v : Service) (before : List Item) → IsSound w → event_refusal w a e ≡ None → slice_get w.services s ≡ Some v → IsNoRespawnOf s e
    → image_now w s ≡ play before (image_of_program v.program) → image_now (world_after_event w a e) s ≡ play (before ++ diary w a e s) (image_of_program v.program)
usual w a e s v before h f g n m =
    event_law w a e s (held_once w h) f (has_slot w s h (is_served w.services s v g)) n
    ∙ ap (play (diary w a e s)) m
    ∙ sym (play-append before (diary w a e s) (image_of_program v.program))

event_adds : (w : World) (a : ℕ) (e : Event) (s : ℕ) (v : Service) (before : List Item) → IsSound w → event_refusal w a e ≡ None → slice_get w.services s ≡ Some v
    → image_now w s ≡ play before (image_of_program v.program) → image_now (world_after_event w a e) s ≡ play (diary_with s e before (diary w a e s)) (image_of_program v.program)
event_adds w a Step s v before h f g m = usual w a Step s v before h f g tt m
event_adds w a Take s v before h f g m = usual w a Take s v before h f g tt m
event_adds w a Back s v before h f g m = usual w a Back s v before h f g tt m
event_adds w a (Line l) s v before h f g m = usual w a (Line l) s v before h f g tt m
event_adds w a Tick s v before h f g m = usual w a Tick s v before h f g tt m
event_adds w a (Kill e) s v before h f g m = usual w a (Kill e) s v before h f g tt m
event_adds w a (Respawn t) s v before h f g m = elim (cases_eq t s) [
  | inl e ↦
      let now : image_now (world_after_event w a (Respawn t)) s ≡ image_of_program v.program = subst (λ z. image_now (world_after_event w a (Respawn z)) s ≡ image_of_program v.program) (sym e) (respawn_law w a s v h (subst (λ z. event_refusal w a (Respawn z) ≡ None) e f) g) in
      now ∙ sym (ap (λ b. play (cond b [] (before ++ diary w a (Respawn t) s)) (image_of_program v.program)) (eq-eqb t s e))
  | inr n ↦ usual w a (Respawn t) s v before h f g n m ∙ sym (ap (λ b. play (cond b [] (before ++ diary w a (Respawn t) s)) (image_of_program v.program)) (ne_eqb t s n))
]

adds_by : (w : World) (a : ℕ) (e : Event) (s : ℕ) (v : Service) (before : List Item) (r : Option Refusal) → event_refusal w a e ≡ r → IsSound w → slice_get w.services s ≡ Some v
    → image_now w s ≡ play before (image_of_program v.program) → image_now (move_by w a e r).1 s ≡ play (diary_after w a e s r before) (image_of_program v.program)
adds_by w a e s v before (Some r) f h g m = m
adds_by w a e s v before None f h g m = event_adds w a e s v before h f g m

move_adds : (w : World) (a : ℕ) (e : Event) (s : ℕ) (v : Service) (before : List Item) → IsSound w → slice_get w.services s ≡ Some v → image_now w s ≡ play before (image_of_program v.program)
    → image_now (move w a e).1 s ≡ play (diary_after w a e s (event_refusal w a e) before) (image_of_program v.program)
unfolding move
move_adds w a e s v before h g m = adds_by w a e s v before (event_refusal w a e) refl h g m

-- A GENERATION
pub generation_law : (xs : List (ℕ × Event)) (w : World) (s : ℕ) (v : Service) (before : List Item) → AreSound w xs → slice_get w.services s ≡ Some v → image_now w s ≡ play before (image_of_program v.program)
    → image_now (moves w xs).1 s ≡ play (generation_diary w xs s before) (image_of_program v.program)
generation_law [] w s v before h g m = m
generation_law (x ∷ xs) w s v before h g m =
    let u = (move w x.0 x.1).1 in
    generation_law xs u s v (diary_after w x.0 x.1 s (event_refusal w x.0 x.1) before) h.1 (ap (λ vs. slice_get vs s) (services_move w x.0 x.1) ∙ g) (move_adds w x.0 x.1 s v before h.0 g m)

pub life_law : (x : Life) → IsLife x → image_of_life x ≡ play (diary_of_life x) (image_of_program x.service.program)
life_law x h = generation_law x.events x.world x.slot x.service x.before h.sound h.service h.begins

pub lives_agree : (x y : Life) → IsLife x → IsLife y → x.service.program ≡ y.service.program → diary_of_life x ≡ diary_of_life y → image_of_life x ≡ image_of_life y
lives_agree x y h k p d =
    life_law x h
    ∙ ap (λ items. play items (image_of_program x.service.program)) d
    ∙ ap (λ program. play (diary_of_life y) (image_of_program program)) p
    ∙ sym (life_law y k)

-- ---- where lives begin

pub begins_at_boot : (config : Config) (services : List Service) (s : ℕ) (v : Service) (xs : List (ℕ × Event)) → slice_get services s ≡ Some v → AreSound (world_at_boot config services) xs
    → IsLife (record { world = world_at_boot config services; slot = s; service = v; before = []; events = xs })
begins_at_boot config services s v xs e sound = record {
  service = e;
  begins = boot_law config.rules services config.cpus config.others config.log s v e;
  sound = sound;
}

pub begins_again : (w : World) (a s : ℕ) (v : Service) (xs : List (ℕ × Event)) → IsSound w → event_refusal w a (Respawn s) ≡ None → slice_get w.services s ≡ Some v → AreSound (world_after_event w a (Respawn s)) xs
    → IsLife (record { world = world_after_event w a (Respawn s); slot = s; service = v; before = []; events = xs })
begins_again w a s v xs h f e sound = record {
  service = ap (λ vs. slice_get vs s) (services_event w a (Respawn s)) ∙ e;
  begins = respawn_law w a s v h f e;
  sound = sound;
}

-- ---- kernels

-- What is known of a kernel's history.
pub record IsRunFromBoot (k : BootAndHistory) : Type 0 where
  pub booted : k.boot ≡ world_at_boot_with k.boot.table.rules k.boot.services (length k.boot.cpus) k.boot.others k.boot.capacity
  pub sound : AreSound k.boot (events_of_history k.history)
  pub leads : (moves k.boot (events_of_history k.history)).1 ≡ replay k

pub kernel_life : (k : BootAndHistory) (s : ℕ) (v : Service) → IsRunFromBoot k → slice_get k.boot.services s ≡ Some v → IsLife (life_of k s v)
kernel_life k s v h e = record {
  service = e;
  begins = ap (λ w. image_now w s) h.booted ∙ boot_law k.boot.table.rules k.boot.services (length k.boot.cpus) k.boot.others k.boot.capacity s v e;
  sound = h.sound;
}

pub kernel_law : (k : BootAndHistory) (s : ℕ) (v : Service) → IsRunFromBoot k → slice_get k.boot.services s ≡ Some v → image_now (replay k) s ≡ play (diary_of_life (life_of k s v)) (image_of_program v.program)
kernel_law k s v h e = ap (λ w. image_now w s) (sym h.leads) ∙ life_law (life_of k s v) (kernel_life k s v h e)

pub kernels_agree : (k n : BootAndHistory) (s t : ℕ) (v u : Service) → IsRunFromBoot k → IsRunFromBoot n → slice_get k.boot.services s ≡ Some v → slice_get n.boot.services t ≡ Some u
    → v.program ≡ u.program → diary_of_life (life_of k s v) ≡ diary_of_life (life_of n t u) → image_now (replay k) s ≡ image_now (replay n) t
kernels_agree k n s t v u h g e f p d =
    ap (λ w. image_now w s) (sym h.leads)
    ∙ lives_agree (life_of k s v) (life_of n t u) (kernel_life k s v h e) (kernel_life n t u g f) p d
    ∙ ap (λ w. image_now w t) g.leads
