-- A kernel's history, run again.
use Rattle.std.proofs.Common.{◌≡◌, ◌<◌, ℕ, suc, List, [], ◌∷◌, replicate, All, sym, subst, arith}
use Rattle.std.proofs.lemmas.List.Elements.{All-nil, All-cons, All-append, All-replicate}
use Rattle.mx_machine.specs.declared.events.Event.{Event}
use Rattle.mx_machine.specs.declared.events.Event.TheVariants.{Step, Take, Back, Line, Tick, Kill, Respawn}
use Rattle.mx_machine.specs.declared.history.Record.{Record}
use Rattle.mx_machine.specs.declared.history.Recorded.{Recorded}
use Rattle.mx_machine.specs.declared.history.Recorded.TheVariants as recorded
use Rattle.mx_machine.specs.History.{BootAndHistory, IsWritable, events_of, events_of_history, replay}
use Rattle.mx_machine.specs.World.{World, actors}
use Rattle.mx_machine.specs.Laws.{Replays, RunsAgain}
use Rattle.mx_machine.specs.Machine.{IsActor}
use Rattle.mx_machine.proofs.ActorLemmas.{actors_after_events}

-- ---- events by actors

actors-replay : (k : BootAndHistory) → actors (replay k) ≡ actors k.boot
unfolding replay
actors-replay k = actors_after_events k.boot (events_of_history k.history)

abbrev ByActor : World → ℕ × Event → Type 0
ByActor w x = IsActor w x.0 x.1

one : (w : World) (a : ℕ) (x : Event) → a < actors w → All (ByActor w) ((a, x) ∷ [])
one w a x h = All-cons (ByActor w) (a, x) [] (λ i. h) (All-nil (ByActor w))

by-actor : (w : World) (a : ℕ) (x : Recorded) → a < actors w → All (ByActor w) (events_of a x)
by-actor w a recorded.Take h = one w a Take h
by-actor w a (recorded.Back n) h = All-append (ByActor w) (replicate n (a, Step)) ((a, Back) ∷ []) (All-replicate (ByActor w) n (a, Step) (λ i. h)) (one w a Back h)
by-actor w a (recorded.Line l) h = one w a (Line l) h
by-actor w a recorded.Tick h = one w a Tick h
by-actor w a (recorded.Kill e) h = one w a (Kill e) h
by-actor w a (recorded.Respawn s) h = one w a (Respawn s) h

by-actors : (w : World) (xs : List Record) → All (IsWritable (actors w)) xs → All (ByActor w) (events_of_history xs)
by-actors w [] h = All-nil (ByActor w)
by-actors w (x ∷ xs) h =
    let first : IsWritable (actors w) x = h 0 x (omega arith) in
    All-append (ByActor w) (events_of x.actor x.event) (events_of_history xs) (by-actor w x.actor x.event first.actor) (by-actors w xs (λ i d b. h (suc i) d (omega (arith, b))))

-- ---- the run

pub runs-again : (w : World) (k : BootAndHistory) → w ≡ k.boot → All (IsWritable (actors (replay k))) k.history → Replays k → RunsAgain w k
runs-again w k e written r = subst (λ (v : World). RunsAgain v k) (sym e) (record {
  may = by-actors k.boot k.history (subst (λ n. All (IsWritable n) k.history) (actors-replay k) written);
  accepted = r.accepted;
  world = r.world;
})
