use Rattle.std.proofs.Common.{◌≡◌, ◌∙◌, ℕ, All, None, Result, Ok, IsOk, List, [], ◌∷◌, ap, refl, sym, subst, rules}
use Rattle.std.proofs.lemmas.List.Elements.{All-nil, All-cons}
use Rattle.mx_machine.specs.declared.events.Event.{Event}
use Rattle.mx_machine.specs.declared.events.Refusal.{Refusal}
use Rattle.mx_machine.specs.declared.events.Answer.{Answer}
use Rattle.mx_machine.specs.World.{World}
use Rattle.mx_machine.specs.Move.{move, moves, move_by, event_refusal, event_answer, world_after_event}
use Rattle.mx_machine.specs.History.{AreAccepted, world_after_events, events_of_history, replay}
use Rattle.mx_machine.proofs.replay_laws.histories_replay.Goals as goal

move-accepted : (w : World) (a : ℕ) (x : Event) → event_refusal w a x ≡ None → move w a x ≡ (Ok (event_answer w a x), world_after_event w a x)
unfolding move
move-accepted w a x h = ap (move_by w a x) h

-- What events that are accepted answer, and where they lead.
record Went (w : World) (xs : List (ℕ × Event)) : Type 0 where
  accepted : All IsOk (moves w xs).0
  world : (moves w xs).1 ≡ world_after_events w xs

moves-accepted : (w : World) (xs : List (ℕ × Event)) → AreAccepted w xs → Went w xs
moves-accepted w [] h = record { accepted = All-nil _; world = refl }
moves-accepted w (x ∷ xs) h =
    let m : move w x.0 x.1 ≡ (Ok (event_answer w x.0 x.1), world_after_event w x.0 x.1) = move-accepted w x.0 x.1 h.0 in
    let r : Went (world_after_event w x.0 x.1) xs = moves-accepted (world_after_event w x.0 x.1) xs h.1 in
    record {
      accepted = subst (λ (p : Result Answer Refusal × World). All IsOk (p.0 ∷ (moves p.1 xs).0)) (sym m) (All-cons IsOk _ _ (search rules) r.accepted);
      world = ap (λ (p : Result Answer Refusal × World). (moves p.1 xs).1) m ∙ r.world;
    }

pub returns : goal.returns
unfolding replay
returns c k h = let r = moves-accepted k.boot (events_of_history k.history) h in record { accepted = r.accepted; world = r.world }
