-- What a kernel keeps of events.
use Rattle.std.proofs.Common.{◌≡◌, ◌∙◌, ℕ, zero, suc, List, [], ◌∷◌, ◌++◌, Some, None, Result, Ok, Err, refl, ap, sym}
use Rattle.mx_machine.specs.declared.events.Answer.{Answer}
use Rattle.mx_machine.specs.declared.events.Event.{Event}
use Rattle.mx_machine.specs.declared.events.Refusal.{Refusal}
use Rattle.mx_machine.specs.History.{AreAccepted, BootAndHistory, world_after_events}
use Rattle.mx_machine.specs.Machine.{kept_after, kept_along}
use Rattle.mx_machine.specs.Move.{event_answer, event_refusal, move, move_by, moves, world_after_event}
use Rattle.mx_machine.specs.World.{World}
use Rattle.mx_walk.specs.Kept.{kept_of}
use Rattle.mx_walk.specs.Positions.{HasMade, steps_of}

-- ---- one event

accepted_moved : (w : World) (a : ℕ) (x : Event) → event_refusal w a x ≡ None → move w a x ≡ (Ok (event_answer w a x), world_after_event w a x)
unfolding move
accepted_moved w a x h = ap (move_by w a x) h

refused_moved : (w : World) (a : ℕ) (x : Event) (r : Refusal) → event_refusal w a x ≡ Some r → move w a x ≡ (Err r, w)
unfolding move
refused_moved w a x r h = ap (move_by w a x) h

-- by its answer
pub kept_by_answer : (k m : BootAndHistory) (w u : World) (a : ℕ) (x : Event) (y : Result Answer Refusal) → m ≡ kept_after k a x y → move w a x ≡ (y, u) → m ≡ kept_of k w ((a, x) ∷ [])
kept_by_answer k m w u a x y h moved = h ∙ ap (kept_after k a x) (sym (ap (λ (p : Result Answer Refusal × World). p.0) moved))

-- nothing, if it is refused
pub none_kept : (k : BootAndHistory) (w : World) (a : ℕ) (x : Event) (r : Refusal) → event_refusal w a x ≡ Some r → kept_of k w ((a, x) ∷ []) ≡ k
none_kept k w a x r h = ap (λ (p : Result Answer Refusal × World). kept_after k a x p.0) (refused_moved w a x r h)

-- ---- events in a row

-- events, and then others
pub kept_both : (w : World) (k : BootAndHistory) (xs ys : List (ℕ × Event)) → AreAccepted w xs → kept_of k w (xs ++ ys) ≡ kept_of (kept_of k w xs) (world_after_events w xs) ys
kept_both w k [] ys h = refl
kept_both w k (x ∷ xs) ys h =
    let r = (move w x.0 x.1).0 in
    let v : (move w x.0 x.1).1 ≡ world_after_event w x.0 x.1 = ap (λ (p : Result Answer Refusal × World). p.1) (accepted_moved w x.0 x.1 h.0) in
    ap (λ (u : World). kept_of (kept_after k x.0 x.1 r) u (xs ++ ys)) v
    ∙ kept_both (world_after_event w x.0 x.1) (kept_after k x.0 x.1 r) xs ys h.1
    ∙ ap (λ (u : World). kept_of (kept_of (kept_after k x.0 x.1 r) u xs) (world_after_events (world_after_event w x.0 x.1) xs) ys) (sym v)

-- steps leave the history
kept_steps : (k : BootAndHistory) (c n : ℕ) (rs : List (Result Answer Refusal)) → kept_along k (steps_of c n) rs ≡ k
kept_steps k c zero rs = refl
kept_steps k c (suc n) [] = refl
kept_steps k c (suc n) (Ok y ∷ rs) = kept_steps k c n rs
kept_steps k c (suc n) (Err r ∷ rs) = kept_steps k c n rs

-- n steps were made, and an event after them
pub then_kept : (w v : World) (c n : ℕ) (x z : Event) (k m l : BootAndHistory) → HasMade w v (steps_of c n) → x ≡ z → m ≡ k → l ≡ kept_of m v ((c, x) ∷ []) → l ≡ kept_of k w (steps_of c n ++ (c, z) ∷ [])
then_kept w v c n x z k m l h same stays kept =
    kept ∙ ap (λ (e : Event). kept_of m v ((c, e) ∷ [])) same
    ∙ ap (λ (i : BootAndHistory). kept_of i v ((c, z) ∷ [])) (stays ∙ sym (kept_steps k c n (moves w (steps_of c n)).0))
    ∙ ap (λ (u : World). kept_of (kept_of k w (steps_of c n)) u ((c, z) ∷ [])) h.world
    ∙ sym (kept_both w k (steps_of c n) ((c, z) ∷ []) h.accepted)
