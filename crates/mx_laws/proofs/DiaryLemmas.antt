-- What each call does to the images of a table is what it writes down.
use Rattle.std.proofs.Common.{◌≡◌, ◌∙◌, ℕ, zero, suc, ◌<◌, ◌==◌, Bool, true, false, cond, List, [], ◌∷◌, ◌++◌, length, map, Option, Some, None, refl, sym, ap, subst, get_or, slice_set, nat_lt, get_or-set_same, get_or-set_other, length-set, inl, inr, arith}
use Rattle.std.specs.Option.{unwrap_or}
use Rattle.std.proofs.lemmas.Bool.{cases_eq, eq-eqb, ne_eqb}
use Rattle.mx_exec.specs.declared.image.Image.{Image}
use Rattle.mx_exec.specs.Image.{blank}
use Rattle.mx_proc.specs.declared.process.Process.{Process}
use Rattle.mx_proc.specs.declared.process.DeathCause.{DeathCause}
use Rattle.mx_proc.specs.declared.process.State.{State}
use Rattle.mx_proc.specs.declared.process.State.TheVariants.{Home, Ready, Out, Doomed, Sending, Calling, Receiving, Awaiting, Down}
use Rattle.mx_proc.specs.declared.process.Source.{Source}
use Rattle.mx_proc.specs.declared.errors.Errno.TheVariants.{Dead}
use Rattle.mx_proc.specs.Errors.{errno_bits}
use Rattle.mx_proc.specs.States.{is_ready, is_sending}
use Rattle.mx_proc.specs.Serving.{without_bit_of, table_after_forgetting}
use Rattle.mx_proc.specs.TableState.{TableState, nobody, process_at, with_process, with_result, table_after_delivery, table_after_notice, without_pending, message_of, table_after_unblock, table_after_dequeue}
use Rattle.mx_kcall.specs.Queueing.{table_after_queueing}
use Rattle.mx_kcall.specs.Calls.{goes_on, accepts, hears, table_after_send, table_after_notifying, table_after_release, table_after_taking_from}
use Rattle.mx_kcall.specs.Death.{table_after_taking_out, table_after_freeing, table_after_freeing_all, waiting_for, table_after_death}
use Rattle.mx_machine.specs.World.{HeldProcess}
use Rattle.mx_laws.specs.Diaries.{image_held_in}
use Rattle.mx_laws.specs.Diary.{Item, image_after_item, play, play_all, items_for, image_of, images}
use Rattle.mx_laws.specs.Items.{items_of_send, bytes_of_notice, items_of_notifying, items_of_release, items_of_taking, items_of_freeing}
use Rattle.mx_laws.specs.Diary.Item.{Result, Message}

-- ---- where an image is

-- the held one, or else this
abbrev pub image_or : Image → Option Image → Image
image_or m held = unwrap_or held m

-- what one processor holds of slot s, or else the rest
abbrev pub image_held_by : ℕ → Option HeldProcess → Option Image → Option Image
image_held_by s None rest = rest
image_held_by s (Some l) rest = cond (l.slot == s) (Some l.out.image) rest

pub held_first : (s : ℕ) (x : Option HeldProcess) (xs : List (Option HeldProcess)) → image_held_in s (x ∷ xs) ≡ image_held_by s x (image_held_in s xs)
held_first s None xs = refl
held_first s (Some l) xs = refl

-- ---- lists of images

pub get_or-images : (ps : List Process) (s : ℕ) → get_or (map image_of ps) s blank ≡ (get_or ps s nobody).image
get_or-images [] s = refl
get_or-images (p ∷ ps) zero = refl
get_or-images (p ∷ ps) (suc s) = get_or-images ps s

pub images-set : (ps : List Process) (s : ℕ) (p : Process) → map image_of (slice_set ps s p) ≡ slice_set (map image_of ps) s p.image
images-set [] s p = refl
images-set (r ∷ ps) zero p = refl
images-set (r ∷ ps) (suc s) p = ap (λ l. r.image ∷ l) (images-set ps s p)

pub images-kept : (ps : List Process) (s : ℕ) (p : Process) → p.image ≡ (get_or ps s nobody).image → map image_of (slice_set ps s p) ≡ map image_of ps
images-kept [] s p e = refl
images-kept (r ∷ ps) zero p e = ap (λ m. m ∷ map image_of ps) e
images-kept (r ∷ ps) (suc s) p e = ap (λ l. r.image ∷ l) (images-kept ps s p e)

images-mapped : (f : Process → Process) → ((p : Process) → (f p).image ≡ p.image) → (ps : List Process) → map image_of (map f ps) ≡ map image_of ps
images-mapped f e [] = refl
images-mapped f e (p ∷ ps) = ap (λ m. m ∷ map image_of (map f ps)) (e p) ∙ ap (λ l. p.image ∷ l) (images-mapped f e ps)

pub play_all-append : (xs ys : List (ℕ × Item)) (ms : List Image) → play_all (xs ++ ys) ms ≡ play_all ys (play_all xs ms)
play_all-append [] ys ms = refl
play_all-append (x ∷ xs) ys ms = play_all-append xs ys (slice_set ms x.0 (image_after_item x.1 (get_or ms x.0 blank)))

-- an item of one slot
pub one_given : (w : TableState) (s : ℕ) (x : Item) (p : Process) → p.image ≡ image_after_item x (process_at w s).image → images (with_process w s p) ≡ play_all ((s, x) ∷ []) (images w)
one_given w s x p e = images-set w.slots s p ∙ ap (slice_set (images w) s) (e ∙ ap (image_after_item x) (sym (get_or-images w.slots s)))

-- ---- calls

pub queueing_images : (w : TableState) (s : ℕ) → images (table_after_queueing w s) ≡ images w
unfolding table_after_queueing
queueing_images w s = either (nat_lt 0 (process_at w s).schedule.ticks) _ _ (images-kept w.slots s _ refl) (images-kept w.slots s _ refl)
  where
    either : (b : Bool) (x y : TableState) {ms : List Image} → images x ≡ ms → images y ≡ ms → images (cond b x y) ≡ ms
    either true x y e f = e
    either false x y e f = f

pub goes_on_images : (w : TableState) (s r : ℕ) → images (goes_on w s r) ≡ play_all ((s, Result r) ∷ []) (images w)
unfolding goes_on
goes_on_images w s r = queueing_images (with_result w s r) s ∙ one_given w s (Result r) _ refl

pub then_goes_on : (w v : TableState) (es : List (ℕ × Item)) (s r : ℕ) → images v ≡ play_all es (images w) → images (goes_on v s r) ≡ play_all (es ++ (s, Result r) ∷ []) (images w)
then_goes_on w v es s r e = goes_on_images v s r ∙ ap (play_all ((s, Result r) ∷ [])) e ∙ sym (play_all-append es ((s, Result r) ∷ []) (images w))

pub delivery_images : (w : TableState) (from to : ℕ) → images (table_after_delivery w from to) ≡ play_all ((to, Message (message_of w from)) ∷ []) (images w)
unfolding table_after_delivery
delivery_images w from to = one_given w to (Message (message_of w from)) _ refl

pub notice_images : (w : TableState) (d : ℕ) (x : Source) → images (table_after_notice w d x) ≡ play_all ((d, Message (bytes_of_notice w d x)) ∷ []) (images w)
unfolding table_after_notice
notice_images w d x =
    let v = with_process w d (without_pending (process_at w d) x) in
    let k : images v ≡ images w = images-kept w.slots d _ refl in
    one_given v d (Message (bytes_of_notice w d x)) _ refl ∙ ap (play_all ((d, Message (bytes_of_notice w d x)) ∷ [])) k

pub by_case : (b : Bool) (x y : TableState) (xs ys : List (ℕ × Item)) (ms : List Image) → images x ≡ play_all xs ms → images y ≡ play_all ys ms → images (cond b x y) ≡ play_all (cond b xs ys) ms
by_case true x y xs ys ms e f = e
by_case false x y xs ys ms e f = f

pub send_images : (w : TableState) (s d : ℕ) → images (table_after_send w s d) ≡ play_all (items_of_send w s d) (images w)
unfolding table_after_send
send_images w s d = by_case (accepts (process_at w d).state s) _ _ _ _ (images w)
    (then_goes_on w (goes_on (table_after_delivery w s d) d 0) ((d, Message (message_of w s)) ∷ (d, Result 0) ∷ []) s 0 (then_goes_on w (table_after_delivery w s d) ((d, Message (message_of w s)) ∷ []) d 0 (delivery_images w s d)))
    (images-kept w.slots s _ refl)

pub notifying_images : (w : TableState) (x : Source) (d : ℕ) → images (table_after_notifying w x d) ≡ play_all (items_of_notifying w x d) (images w)
unfolding table_after_notifying
notifying_images w x d = by_case (hears (process_at w d).state x) _ _ _ _ (images w)
    (then_goes_on w (table_after_notice w d x) ((d, Message (bytes_of_notice w d x)) ∷ []) d 0 (notice_images w d x))
    (images-kept w.slots d _ refl)

unblock_images : (w : TableState) (p : ℕ) → images (table_after_unblock w p) ≡ images w
unblock_images w p = images-kept w.slots p _ refl

release_images : (w : TableState) (s p : ℕ) (st : State) → images (table_after_release w s p st) ≡ play_all (items_of_release p st) (images w)
unfolding table_after_release
release_images w s p Calling = images-kept (table_after_unblock w p).slots p _ refl ∙ unblock_images w p
release_images w s p Home = goes_on_images (table_after_unblock w p) p 0 ∙ ap (play_all ((p, Result 0) ∷ [])) (unblock_images w p)
release_images w s p Ready = goes_on_images (table_after_unblock w p) p 0 ∙ ap (play_all ((p, Result 0) ∷ [])) (unblock_images w p)
release_images w s p Out = goes_on_images (table_after_unblock w p) p 0 ∙ ap (play_all ((p, Result 0) ∷ [])) (unblock_images w p)
release_images w s p Doomed = goes_on_images (table_after_unblock w p) p 0 ∙ ap (play_all ((p, Result 0) ∷ [])) (unblock_images w p)
release_images w s p Sending = goes_on_images (table_after_unblock w p) p 0 ∙ ap (play_all ((p, Result 0) ∷ [])) (unblock_images w p)
release_images w s p (Receiving x) = goes_on_images (table_after_unblock w p) p 0 ∙ ap (play_all ((p, Result 0) ∷ [])) (unblock_images w p)
release_images w s p (Awaiting x) = goes_on_images (table_after_unblock w p) p 0 ∙ ap (play_all ((p, Result 0) ∷ [])) (unblock_images w p)
release_images w s p (Down x) = goes_on_images (table_after_unblock w p) p 0 ∙ ap (play_all ((p, Result 0) ∷ [])) (unblock_images w p)

pub taking_from_images : (w : TableState) (s : ℕ) (st : State) (p : Option ℕ) → images (table_after_taking_from w s st p) ≡ play_all (items_of_taking w s p) (images w)
taking_from_images w s st None = images-kept w.slots s _ refl
taking_from_images w s st (Some p) =
    let x : ℕ × Item = (s, Message (message_of w p)) in
    then_goes_on w (table_after_release (table_after_delivery w p s) s p (process_at w p).state) (x ∷ items_of_release p (process_at w p).state) s 0
    (release_images (table_after_delivery w p s) s p (process_at w p).state ∙ ap (play_all (items_of_release p (process_at w p).state)) (delivery_images w p s))

-- ---- a death writes results to those that wait, and no other byte

taking_out_images : (w : TableState) (s : ℕ) → images (table_after_taking_out w s) ≡ images w
unfolding table_after_taking_out
taking_out_images w s = by_state (process_at w s).state
  where
    by_state : (st : State) → images (cond (is_ready st) (table_after_dequeue w s) (cond (is_sending st) (table_after_unblock w s) w)) ≡ images w
    by_state st = by_bools (is_ready st) (is_sending st)
      where
        by_bools : (a b : Bool) → images (cond a (table_after_dequeue w s) (cond b (table_after_unblock w s) w)) ≡ images w
        by_bools true b = images-kept w.slots s _ refl
        by_bools false true = images-kept w.slots s _ refl
        by_bools false false = refl

freeing_images : (ps : List ℕ) (w : TableState) → images (table_after_freeing_all w ps) ≡ play_all (items_of_freeing ps) (images w)
freeing_images [] w = refl
freeing_images (p ∷ ps) w =
    freeing_images ps (table_after_freeing w p)
    ∙ ap (play_all (items_of_freeing ps)) (goes_on_images (table_after_taking_out w p) p (errno_bits Dead) ∙ ap (play_all ((p, Result (errno_bits Dead)) ∷ [])) (taking_out_images w p))

pub death_images : (w : TableState) (s : ℕ) (cause : DeathCause) → images (table_after_death w s cause) ≡ play_all (items_of_freeing (waiting_for (table_after_taking_out w s) s)) (images w)
unfolding table_after_death
death_images w s cause =
    let left = table_after_taking_out w s in
    let all = table_after_freeing_all left (waiting_for left s) in
    let f : images (table_after_forgetting all s) ≡ images all = images-mapped (without_bit_of s) (λ p. refl) all.slots in
    images-kept (table_after_forgetting all s).slots s _ refl ∙ f ∙ freeing_images (waiting_for left s) left ∙ ap (play_all (items_of_freeing (waiting_for left s))) (taking_out_images w s)

-- ---- one slot's diary

-- what is played for all slots is, at each, its own items
pub play_all-at : (xs : List (ℕ × Item)) (ms : List Image) (s : ℕ) → s < length ms → get_or (play_all xs ms) s blank ≡ play (items_for s xs) (get_or ms s blank)
play_all-at [] ms s b = refl
play_all-at (x ∷ xs) ms s b =
    let ns = slice_set ms x.0 (image_after_item x.1 (get_or ms x.0 blank)) in
    let c : s < length ns = omega (arith, length-set ms x.0 (image_after_item x.1 (get_or ms x.0 blank)), b) in
    play_all-at xs ns s c ∙ elim (cases_eq x.0 s) [
      | inl e ↦ rw (eq-eqb x.0 s e) (ap (play (items_for s xs)) (subst (λ k. get_or (slice_set ms k (image_after_item x.1 (get_or ms k blank))) s blank ≡ image_after_item x.1 (get_or ms s blank)) (sym e) (get_or-set_same ms s (image_after_item x.1 (get_or ms s blank)) blank b)))
      | inr n ↦ rw (ne_eqb x.0 s n) (ap (play (items_for s xs)) (get_or-set_other ms x.0 s (image_after_item x.1 (get_or ms x.0 blank)) blank (λ e. n (sym e))))
    ]
