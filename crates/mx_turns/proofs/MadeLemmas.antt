-- What a machine has made.
use Rattle.std.proofs.Common.{◌≡◌, ◌∙◌, cond, not, slice_get, ℕ, suc, zero, ◌++◌, Bool, true, false, List, [], ◌∷◌, Option, Some, None, Result, Ok, Err, IfErr, OnOk, refl, ap, sym, subst}
use Rattle.mx_machine.specs.declared.events.Answer.{Answer}
use Rattle.mx_machine.specs.declared.events.Event.{Event}
use Rattle.mx_machine.specs.declared.events.Event.TheVariants.{Back, Respawn}
use Rattle.mx_machine.specs.declared.events.Refusal.{Refusal}
use Rattle.mx_machine.specs.declared.events.Refusal.TheVariants.{LogFull, CpuEmpty, NotDown, Worn}
use Rattle.mx_machine.specs.History.{AreAccepted, BootAndHistory, world_after_events}
use Rattle.mx_machine.specs.Held.{held_run}
use Rattle.mx_machine.specs.Move.{back_refusal, event_answer, event_refusal, if_full, move, move_by, moves, respawn_refusal, world_after_event}
use Rattle.mx_machine.specs.Proc.States.{is_down}
use Rattle.mx_machine.specs.Proc.TableState.{process_at}
use Rattle.mx_machine.specs.Proc.declared.process.Process.{Process}
use Rattle.mx_machine.specs.Respawn.{is_worn}
use Rattle.mx_machine.specs.Service.{Service}
use Rattle.mx_machine.specs.Steps.{steps_of}
use Rattle.mx_machine.specs.World.{World, HeldProcess, free_records, held_by}
use Rattle.mx_machine.proofs.ReplayLemmas.{accepted_append, after_append}
use Rattle.mx_machine.specs.Machine.{HasWorked, MachineState, kept_after, kept_along, record_of, with_records, world_of}
use Rattle.mx_turns.specs.Made.{HasMade, HasOffered, is_full}
use Rattle.mx_turns.specs.Turns.{Offered, most_steps, offered, offered_first, then_offered}
use Rattle.mx_turns.proofs.OfferLemmas.{Offers, empty_offered, offered_full, offered_more, steps_offered}

-- ---- one event

accepted-move : (w : World) (a : ℕ) (e : Event) → event_refusal w a e ≡ None → move w a e ≡ (Ok (event_answer w a e), world_after_event w a e)
unfolding move
accepted-move w a e h = ap (move_by w a e) h

offer_by : (m n : MachineState) (a : ℕ) (e : Event) (q : Option Refusal) (r : Result Answer Refusal) → event_refusal (world_of m) a e ≡ q → move_by (world_of m) a e q ≡ (r, world_of n) → n.kernel ≡ kept_after m.kernel a e r
    → HasOffered m (offered_first (a, e) q (offered (world_of m) []) (offered (world_after_event (world_of m) a e) [])) (is_full r) n
offer_by m n a e None r q h k =
    let answer : Ok (event_answer (world_of m) a e) ≡ r = ap (λ (p : Result Answer Refusal × World). p.0) h in
    record {
      made = record {
        accepted = (q, tt);
        world = sym (ap (λ (p : Result Answer Refusal × World). p.1) h);
        kernel = k ∙ ap (kept_after m.kernel a e) (sym answer ∙ sym (ap (λ (p : Result Answer Refusal × World). p.0) (accepted-move (world_of m) a e q)));
      };
      full = ap is_full answer;
    }
offer_by m n a e (Some LogFull) r q h k =
    let answer : Err LogFull ≡ r = ap (λ (p : Result Answer Refusal × World). p.0) h in
    record {
      made = record { accepted = tt; world = sym (ap (λ (p : Result Answer Refusal × World). p.1) h); kernel = k ∙ ap (kept_after m.kernel a e) (sym answer) };
      full = ap is_full answer;
    }
offer_by m n a e (Some x) r q h k =
    let answer : Err x ≡ r = ap (λ (p : Result Answer Refusal × World). p.0) h in
    record {
      made = record { accepted = tt; world = sym (ap (λ (p : Result Answer Refusal × World). p.1) h); kernel = k ∙ ap (kept_after m.kernel a e) (sym answer) };
      full = ap is_full answer;
    }

-- AN OFFER, by what the machine answers
pub offer_done : (m n : MachineState) (a : ℕ) (e : Event) (r : Result Answer Refusal) → move (world_of m) a e ≡ (r, world_of n) → n.kernel ≡ kept_after m.kernel a e r → HasOffered m (offered (world_of m) ((a, e) ∷ [])) (is_full r) n
unfolding move
offer_done m n a e r h k = offer_by m n a e (event_refusal (world_of m) a e) r refl h k

-- ---- events in a row

-- nothing was made
pub none_made : (m : MachineState) → HasMade m [] m
none_made m = record { accepted = tt; world = refl; kernel = refl }

pub kept_append : (w : World) (k : BootAndHistory) (xs ys : Offers) → AreAccepted w xs → kept_along k (xs ++ ys) (moves w (xs ++ ys)).0 ≡ kept_along (kept_along k xs (moves w xs).0) ys (moves (world_after_events w xs) ys).0
kept_append w k [] ys h = refl
kept_append w k (x ∷ xs) ys h =
    let r = (move w x.0 x.1).0 in
    let v : (move w x.0 x.1).1 ≡ world_after_event w x.0 x.1 = ap (λ (p : Result Answer Refusal × World). p.1) (accepted-move w x.0 x.1 h.0) in
    ap (λ (u : World). kept_along (kept_after k x.0 x.1 r) (xs ++ ys) (moves u (xs ++ ys)).0) v
    ∙ kept_append (world_after_event w x.0 x.1) (kept_after k x.0 x.1 r) xs ys h.1
    ∙ ap (λ (u : World). kept_along (kept_along (kept_after k x.0 x.1 r) xs (moves u xs).0) ys (moves (world_after_events (world_after_event w x.0 x.1) xs) ys).0) (sym v)

pub then_made : (m n p : MachineState) (xs ys : Offers) → HasMade m xs n → HasMade n ys p → HasMade m (xs ++ ys) p
then_made m n p xs ys h g = record {
  accepted = accepted_append (world_of m) xs ys h.accepted (subst (λ (u : World). AreAccepted u ys) h.world g.accepted);
  world = g.world ∙ ap (λ (u : World). world_after_events u ys) h.world ∙ sym (after_append (world_of m) xs ys);
  kernel = g.kernel
      ∙ ap (λ (u : World). kept_along n.kernel ys (moves u ys).0) h.world
      ∙ ap (λ (k : BootAndHistory). kept_along k ys (moves (world_after_events (world_of m) xs) ys).0) h.kernel
      ∙ sym (kept_append (world_of m) m.kernel xs ys h.accepted);
}

-- steps leave the history
pub kept_steps : (k : BootAndHistory) (c n : ℕ) (rs : List (Result Answer Refusal)) → kept_along k (steps_of c n) rs ≡ k
kept_steps k c zero rs = refl
kept_steps k c (suc n) [] = refl
kept_steps k c (suc n) (Ok y ∷ rs) = kept_steps k c n rs
kept_steps k c (suc n) (Err r ∷ rs) = kept_steps k c n rs

-- events leave the boot
pub same_boot : (k : BootAndHistory) (a : ℕ) (x : Event) (r : Result Answer Refusal) → (kept_after k a x r).boot ≡ k.boot
same_boot k a x (Err r) = refl
same_boot k a x (Ok y) = by (record_of x y)
  where
    by : (o : Option _) → (with_records k a o).boot ≡ k.boot
    by None = refl
    by (Some e) = refl

pub kept_boot : (k : BootAndHistory) (xs : List (ℕ × Event)) (rs : List (Result Answer Refusal)) → (kept_along k xs rs).boot ≡ k.boot
kept_boot k [] rs = refl
kept_boot k (x ∷ xs) [] = refl
kept_boot k (x ∷ xs) (r ∷ rs) = kept_boot (kept_after k x.0 x.1 r) xs rs ∙ same_boot k x.0 x.1 r

-- ---- offers in a row

-- nothing was offered
pub none_offered : (m : MachineState) → HasOffered m (offered (world_of m) []) false m
none_offered m = record { made = none_made m; full = refl }

-- offers, and then others
pub then_done : (m n p : MachineState) (first : Offered) (ys : Offers) (full : Bool) → HasMade m first.made n → HasOffered n (offered (world_of n) ys) full p → HasOffered m (then_offered (world_of m) first ys) full p
then_done m n p first ys full h g =
    let at : HasOffered n (offered (world_after_events (world_of m) first.made) ys) full p = subst (λ (u : World). HasOffered n (offered u ys) full p) h.world g in
    record { made = then_made m n p first.made (offered (world_after_events (world_of m) first.made) ys).made h at.made; full = at.full }

pub more_done : (m n p : MachineState) (xs ys zs : Offers) (full : Bool) → zs ≡ xs ++ ys → HasOffered m (offered (world_of m) xs) false n → HasOffered n (offered (world_of n) ys) full p → HasOffered m (offered (world_of m) zs) full p
more_done m n p xs ys zs full e h g =
    subst (λ (o : Offered). HasOffered m o full p) (sym (ap (offered (world_of m)) e ∙ offered_more (world_of m) xs ys h.full))
    (then_done m n p (offered (world_of m) xs) ys full h.made g)

-- a full history ends the offers
pub full_done : (m n : MachineState) (xs ys zs : Offers) → zs ≡ xs ++ ys → HasOffered m (offered (world_of m) xs) true n → HasOffered m (offered (world_of m) zs) true n
full_done m n xs ys zs e h = subst (λ (o : Offered). HasOffered m o true n) (sym (ap (offered (world_of m)) e ∙ offered_full (world_of m) xs ys h.full)) h

-- one offer more, by its answer
pub next_done : (m n p : MachineState) (xs : Offers) (x : ℕ × Event) (zs : Offers) (r full : Bool) → zs ≡ xs ++ x ∷ [] → HasOffered m (offered (world_of m) xs) false n → HasOffered n (offered (world_of n) (x ∷ [])) r p → r ≡ full → HasOffered m (offered (world_of m) zs) full p
next_done m n p xs x zs r full e h g same = more_done m n p xs (x ∷ []) zs full e h (subst (λ b. HasOffered n (offered (world_of n) (x ∷ [])) b p) same g)

-- ---- a new process for a slot that isn't down: it is refused, and not since the history is full

by_service : (w : World) (x : ℕ × Event) (accepted : Offered) (left : ℕ) (p : Process) (o : Option Service) → is_down p.state ≡ false → offered_first x (respawn_refusal left p o) (offered w []) accepted ≡ offered w []
by_service w x accepted left p None up = refl
by_service w x accepted left p (Some v) up =
    ap (λ b. offered_first x (cond (not b) (Some NotDown) (cond (is_worn p v) (Some Worn) (if_full left 1))) (offered w []) accepted) up

respawn_refused : (w : World) (other s : ℕ) → is_down (process_at w.table s).state ≡ false → offered w ((other, Respawn s) ∷ []) ≡ offered w []
unfolding event_refusal
respawn_refused w other s up =
    by_service w (other, Respawn s) (offered (world_after_event w other (Respawn s)) []) (free_records w) (process_at w.table s) (slice_get w.services s) up

pub respawn_of_none_down : (m : MachineState) (other s : ℕ) → is_down (process_at (world_of m).table s).state ≡ false → HasOffered m (offered (world_of m) ((other, Respawn s) ∷ [])) false m
respawn_of_none_down m other s up = subst (λ (o : Offered). HasOffered m o false m) (sym (respawn_refused (world_of m) other s up)) (none_offered m)

-- ---- a processor's steps and its return

by_back : (q : Option Refusal) (w v : World) (c : ℕ) (held : Option HeldProcess) → q ≡ back_refusal held → (offered_first (c, Back) q (offered w []) (offered v [])).full ≡ false
by_back None w v c held e = refl
by_back (Some LogFull) w v c None e = cc
by_back (Some LogFull) w v c (Some l) e = cc
by_back (Some r) w v c held e = refl

-- a return never meets a full history
pub back_not_full : (w : World) (c : ℕ) → (offered w ((c, Back) ∷ [])).full ≡ false
unfolding event_refusal
back_not_full w c = by_back (event_refusal w c Back) w (world_after_event w c Back) c (held_by w c) refl

-- what comes of steps up to the stop
pub work_done : (X Y : Type 0) (m n : MachineState) (c : ℕ) (r : Result (Unit {0}) Refusal)
    → OnOk r ((l : HeldProcess) × HasWorked (world_of m) (world_of n) c most_steps l × X)
    → IfErr r (λ e. (e ≡ CpuEmpty) × (held_by (world_of m) c ≡ None) × (n ≡ m) × Y)
    → n.kernel ≡ m.kernel → HasOffered m (offered (world_of m) (steps_of c most_steps)) false n
work_done X Y m n c (Ok u) h f k =
    let l = h.0 in
    let w = h.1 in
    let count = (held_run most_steps l.out).0.0 in
    subst (λ (o : Offered). HasOffered m o false n) (sym (steps_offered most_steps (world_of m) c l w.held)) (record {
      made = record { accepted = w.accepted; world = w.world; kernel = k ∙ sym (kept_steps m.kernel c count (moves (world_of m) (steps_of c count)).0) };
      full = refl;
    })
work_done X Y m n c (Err e) h f k =
    subst (λ (o : Offered). HasOffered m o false n) (sym (empty_offered (world_of m) c f.1 most_steps))
    (subst (λ (x : MachineState). HasOffered m (record { made = []; full = false }) false x) (sym f.2) (none_offered m))
