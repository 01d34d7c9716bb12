-- Who is ready after a call: who was, and who has a result.
use Rattle.std.proofs.Common.{◌≡◌, ◌∙◌, ℕ, zero, suc, Bool, true, false, cond, nat_lt, List, [], ◌∷◌, ◌++◌, map, Option, Some, None, refl, sym, ap, get_or, slice_set}
use Rattle.mx_proc.specs.declared.process.DeathCause.{DeathCause}
use Rattle.mx_proc.specs.declared.process.Process.{Process}
use Rattle.mx_proc.specs.declared.process.Source.{Source}
use Rattle.mx_proc.specs.declared.process.State.{State}
use Rattle.mx_proc.specs.declared.process.State.TheVariants.{Home, Ready, Out, Doomed, Sending, Calling, Receiving, Awaiting, Down}
use Rattle.mx_proc.specs.declared.errors.Errno.TheVariants.{Dead}
use Rattle.mx_proc.specs.Errors.{errno_bits}
use Rattle.mx_proc.specs.States.{is_ready, is_sending}
use Rattle.mx_proc.specs.Serving.{without_bit_of, table_after_forgetting}
use Rattle.mx_proc.specs.TableState.{TableState, nobody, process_at, with_process, with_result, table_after_delivery, table_after_notice, without_pending, table_after_unblock, table_after_dequeue}
use Rattle.mx_kcall.specs.Queueing.{table_after_queueing}
use Rattle.mx_kcall.specs.Calls.{goes_on, accepts, hears, table_after_send, table_after_notifying, table_after_release, table_after_taking_from}
use Rattle.mx_kcall.specs.Death.{table_after_taking_out, table_after_freeing, table_after_freeing_all, waiting_for, table_after_death}
use Rattle.mx_laws.specs.Diary.{Item}
use Rattle.mx_laws.specs.Items.{items_of_death, items_of_send, items_of_notifying, items_of_release, items_of_taking, items_of_freeing}
use Rattle.mx_laws.specs.Diary.Item.{Ran, Result, Message, Copy}

-- ---- lists of who is ready

abbrev pub ready_of : Process → Bool
ready_of p = is_ready p.state

abbrev pub readies : TableState → List Bool
readies w = map ready_of w.slots

-- an item of a slot
abbrev pub marked : Item → ℕ → List Bool → List Bool
marked Ran s fs = fs
marked (Result r) s fs = slice_set fs s true
marked (Message bytes) s fs = fs
marked (Copy place bytes) s fs = fs

-- who has a result is ready
abbrev pub mark : List (ℕ × Item) → List Bool → List Bool
mark [] fs = fs
mark (x ∷ xs) fs = mark xs (marked x.1 x.0 fs)

-- the flag of a slot
abbrev pub flag : List Bool → ℕ → Bool
flag fs s = get_or fs s false

pub mark-append : (xs ys : List (ℕ × Item)) (fs : List Bool) → mark (xs ++ ys) fs ≡ mark ys (mark xs fs)
mark-append [] ys fs = refl
mark-append (x ∷ xs) ys fs = mark-append xs ys (marked x.1 x.0 fs)

pub readies-at : (ps : List Process) (s : ℕ) → get_or (map ready_of ps) s false ≡ is_ready (get_or ps s nobody).state
readies-at [] s = refl
readies-at (p ∷ ps) zero = refl
readies-at (p ∷ ps) (suc s) = readies-at ps s

pub readies-set : (ps : List Process) (s : ℕ) (p : Process) → map ready_of (slice_set ps s p) ≡ slice_set (map ready_of ps) s (is_ready p.state)
readies-set [] s p = refl
readies-set (r ∷ ps) zero p = refl
readies-set (r ∷ ps) (suc s) p = ap (λ l. is_ready r.state ∷ l) (readies-set ps s p)

pub set-own : (fs : List Bool) (s : ℕ) (b : Bool) → get_or fs s false ≡ b → slice_set fs s b ≡ fs
set-own [] s b e = refl
set-own (f ∷ fs) zero b e = ap (λ z. z ∷ fs) (sym e)
set-own (f ∷ fs) (suc s) b e = ap (λ l. f ∷ l) (set-own fs s b e)

pub set-twice : (fs : List Bool) (s : ℕ) (b c : Bool) → slice_set (slice_set fs s b) s c ≡ slice_set fs s c
set-twice [] s b c = refl
set-twice (f ∷ fs) zero b c = refl
set-twice (f ∷ fs) (suc s) b c = ap (λ l. f ∷ l) (set-twice fs s b c)

pub readies-kept : (ps : List Process) (s : ℕ) (p : Process) → p.state ≡ (get_or ps s nobody).state → map ready_of (slice_set ps s p) ≡ map ready_of ps
readies-kept ps s p e = readies-set ps s p ∙ set-own (map ready_of ps) s (is_ready p.state) (readies-at ps s ∙ ap is_ready (sym e))

readies-mapped : (f : Process → Process) → ((p : Process) → (f p).state ≡ p.state) → (ps : List Process) → map ready_of (map f ps) ≡ map ready_of ps
readies-mapped f e [] = refl
readies-mapped f e (p ∷ ps) = ap (λ st. is_ready st ∷ map ready_of (map f ps)) (e p) ∙ ap (λ l. is_ready p.state ∷ l) (readies-mapped f e ps)

-- who isn't ready, and gets a state that isn't
abbrev pub IsIdle : TableState → ℕ → Type 0
IsIdle w s = flag (readies w) s ≡ false

pub idle_set : (w : TableState) (s : ℕ) (p : Process) → is_ready p.state ≡ false → IsIdle w s → map ready_of (slice_set w.slots s p) ≡ readies w
idle_set w s p e idle = readies-set w.slots s p ∙ ap (slice_set (readies w) s) e ∙ set-own (readies w) s false idle

-- ---- calls

either : (b : Bool) (x y : TableState) {fs : List Bool} → readies x ≡ fs → readies y ≡ fs → readies (cond b x y) ≡ fs
either true x y e f = e
either false x y e f = f

pub queueing_readies : (w : TableState) (s : ℕ) → readies (table_after_queueing w s) ≡ slice_set (readies w) s true
unfolding table_after_queueing
queueing_readies w s = either (nat_lt 0 (process_at w s).schedule.ticks) _ _ (readies-set w.slots s _) (readies-set w.slots s _)

pub goes_on_readies : (w : TableState) (s r : ℕ) → readies (goes_on w s r) ≡ slice_set (readies w) s true
unfolding goes_on
goes_on_readies w s r = queueing_readies (with_result w s r) s ∙ ap (λ fs. slice_set fs s true) (readies-kept w.slots s _ refl)

pub then_goes_on : (w v : TableState) (es : List (ℕ × Item)) (s r : ℕ) → readies v ≡ mark es (readies w) → readies (goes_on v s r) ≡ mark (es ++ (s, Result r) ∷ []) (readies w)
then_goes_on w v es s r e = goes_on_readies v s r ∙ ap (λ fs. slice_set fs s true) e ∙ sym (mark-append es ((s, Result r) ∷ []) (readies w))

pub delivery_readies : (w : TableState) (from to : ℕ) → readies (table_after_delivery w from to) ≡ readies w
unfolding table_after_delivery
delivery_readies w from to = readies-kept w.slots to _ refl

pub notice_readies : (w : TableState) (d : ℕ) (x : Source) → readies (table_after_notice w d x) ≡ readies w
unfolding table_after_notice
notice_readies w d x =
    let v = with_process w d (without_pending (process_at w d) x) in
    readies-kept v.slots d _ refl ∙ readies-kept w.slots d _ refl

pub by_case : (b : Bool) (x y : TableState) (xs ys : List (ℕ × Item)) (fs : List Bool) → readies x ≡ mark xs fs → readies y ≡ mark ys fs → readies (cond b x y) ≡ mark (cond b xs ys) fs
by_case true x y xs ys fs e f = e
by_case false x y xs ys fs e f = f

pub send_readies : (w : TableState) (s d : ℕ) → IsIdle w s → readies (table_after_send w s d) ≡ mark (items_of_send w s d) (readies w)
unfolding table_after_send
send_readies w s d idle = by_case (accepts (process_at w d).state s) _ _ _ _ (readies w)
    (goes_on_readies (goes_on (table_after_delivery w s d) d 0) s 0 ∙ ap (λ fs. slice_set fs s true) (goes_on_readies (table_after_delivery w s d) d 0 ∙ ap (λ fs. slice_set fs d true) (delivery_readies w s d)))
    (idle_set w s _ refl idle)

pub notifying_readies : (w : TableState) (x : Source) (d : ℕ) → readies (table_after_notifying w x d) ≡ mark (items_of_notifying w x d) (readies w)
unfolding table_after_notifying
notifying_readies w x d = by_case (hears (process_at w d).state x) _ _ _ _ (readies w)
    (goes_on_readies (table_after_notice w d x) d 0 ∙ ap (λ fs. slice_set fs d true) (notice_readies w d x))
    (readies-kept w.slots d _ refl)

unblock_readies : (w : TableState) (p : ℕ) → IsIdle w p → readies (table_after_unblock w p) ≡ readies w
unblock_readies w p idle = idle_set w p _ refl idle

release_goes_on : (w : TableState) (p : ℕ) → IsIdle w p → readies (goes_on (table_after_unblock w p) p 0) ≡ slice_set (readies w) p true
release_goes_on w p idle = goes_on_readies (table_after_unblock w p) p 0 ∙ ap (λ fs. slice_set fs p true) (unblock_readies w p idle)

release_readies : (w : TableState) (s p : ℕ) (st : State) → IsIdle w p → readies (table_after_release w s p st) ≡ mark (items_of_release p st) (readies w)
unfolding table_after_release
release_readies w s p Calling idle =
    let v = table_after_unblock w p in
    idle_set v p _ refl (ap (λ fs. flag fs p) (unblock_readies w p idle) ∙ idle) ∙ unblock_readies w p idle
release_readies w s p Home idle = release_goes_on w p idle
release_readies w s p Ready idle = release_goes_on w p idle
release_readies w s p Out idle = release_goes_on w p idle
release_readies w s p Doomed idle = release_goes_on w p idle
release_readies w s p Sending idle = release_goes_on w p idle
release_readies w s p (Receiving x) idle = release_goes_on w p idle
release_readies w s p (Awaiting x) idle = release_goes_on w p idle
release_readies w s p (Down x) idle = release_goes_on w p idle

-- who is taken from isn't ready
abbrev pub IsIdleIfAny : TableState → Option ℕ → Type 0
IsIdleIfAny w None = Unit {0}
IsIdleIfAny w (Some p) = IsIdle w p

pub taking_from_readies : (w : TableState) (s : ℕ) (st : State) (p : Option ℕ) → is_ready st ≡ false → IsIdle w s → IsIdleIfAny w p
    → readies (table_after_taking_from w s st p) ≡ mark (items_of_taking w s p) (readies w)
taking_from_readies w s st None e idle other = idle_set w s _ e idle
taking_from_readies w s st (Some p) e idle other =
    let v = table_after_delivery w p s in
    let x : ℕ × Item = (s, Message []) in
    let same = delivery_readies w p s in
    let released = release_readies v s p (process_at w p).state (ap (λ fs. flag fs p) same ∙ other) ∙ ap (mark (items_of_release p (process_at w p).state)) same in
    goes_on_readies (table_after_release v s p (process_at w p).state) s 0 ∙ ap (λ fs. slice_set fs s true) released
    ∙ sym (mark-append (items_of_release p (process_at w p).state) ((s, Result 0) ∷ []) (readies w))

-- ---- a death

pub taking_out_readies : (w : TableState) (s : ℕ) → readies (table_after_taking_out w s) ≡ slice_set (readies w) s false
unfolding table_after_taking_out
taking_out_readies w s = by_bools (is_ready (process_at w s).state) (is_sending (process_at w s).state) refl
  where
    by_bools : (a b : Bool) → is_ready (process_at w s).state ≡ a → readies (cond a (table_after_dequeue w s) (cond b (table_after_unblock w s) w)) ≡ slice_set (readies w) s false
    by_bools true b e = readies-set w.slots s _
    by_bools false true e = readies-set w.slots s _
    by_bools false false e = sym (set-own (readies w) s false (readies-at w.slots s ∙ e))

freeing_readies : (ps : List ℕ) (w : TableState) → readies (table_after_freeing_all w ps) ≡ mark (items_of_freeing ps) (readies w)
freeing_readies [] w = refl
freeing_readies (p ∷ ps) w =
    freeing_readies ps (table_after_freeing w p)
    ∙ ap (mark (items_of_freeing ps)) (goes_on_readies (table_after_taking_out w p) p (errno_bits Dead) ∙ ap (λ fs. slice_set fs p true) (taking_out_readies w p) ∙ set-twice (readies w) p false true)

pub death_readies : (w : TableState) (s : ℕ) (cause : DeathCause) → readies (table_after_death w s cause) ≡ slice_set (mark (items_of_death w s) (slice_set (readies w) s false)) s false
unfolding table_after_death
death_readies w s cause =
    let left = table_after_taking_out w s in
    let all = table_after_freeing_all left (waiting_for left s) in
    let f : readies (table_after_forgetting all s) ≡ readies all = readies-mapped (without_bit_of s) (λ p. refl) all.slots in
    readies-set (table_after_forgetting all s).slots s _
    ∙ ap (λ fs. slice_set fs s false) (f ∙ freeing_readies (waiting_for left s) left ∙ ap (mark (items_of_freeing (waiting_for left s))) (taking_out_readies w s))
