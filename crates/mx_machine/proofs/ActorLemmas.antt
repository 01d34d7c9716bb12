-- Events leave how many actors there are.
use Rattle.std.proofs.Common.{◌≡◌, ◌∙◌, ℕ, ◌+◌, List, [], ◌∷◌, Option, Some, None, slice_get, refl, ap}
use Rattle.std.proofs.lemmas.List.{length-set}
use Rattle.mx_kcall.specs.Proc.Queues.{first_ready}
use Rattle.mx_kcall.specs.Service.{Service}
use Rattle.mx_kcall.specs.Refusals.{owner_of}
use Rattle.mx_machine.specs.declared.events.Event.{Event}
use Rattle.mx_machine.specs.declared.events.Event.TheVariants.{Step, Take, Back, Line, Tick, Kill, Respawn}
use Rattle.mx_machine.specs.declared.events.Refusal.{Refusal}
use Rattle.mx_machine.specs.History.{world_after_events}
use Rattle.mx_machine.specs.Move.{world_after_back, world_after_event, world_after_line, world_after_respawn, world_after_step, world_after_take, event_refusal, held_at_take, move, move_by, world_with_record, table_after_sending_out, with_held}
use Rattle.mx_machine.specs.World.{World, HeldProcess, actors, held_by}

held : (w : World) (a : ℕ) (x : Option HeldProcess) → actors (with_held w a x) ≡ actors w
held w a x = ap (λ n. n + w.others) (length-set w.cpus a x)

by_step : (w : World) (a : ℕ) (x : Option HeldProcess) → actors (world_after_step w a x) ≡ actors w
by_step w a None = refl
by_step w a (Some l) = held w a _

by_take : (w : World) (a : ℕ) (s : Option ℕ) → actors (world_after_take w a s) ≡ actors w
by_take w a None = refl
by_take w a (Some s) = held (world_with_record w (table_after_sending_out w.table s)) a (Some (held_at_take w.table s))

by_back : (w : World) (a : ℕ) (x : Option HeldProcess) → actors (world_after_back w a x) ≡ actors w
by_back w a None = refl
by_back w a (Some l) = held w a None

by_line : (w : World) (l : ℕ) (owner : Option ℕ) → actors (world_after_line w l owner) ≡ actors w
by_line w l None = refl
by_line w l (Some s) = refl

by_respawn : (w : World) (s : ℕ) (v : Option Service) → actors (world_after_respawn w s v) ≡ actors w
by_respawn w s None = refl
by_respawn w s (Some v) = refl

by_event : (w : World) (a : ℕ) (x : Event) → actors (world_after_event w a x) ≡ actors w
unfolding world_after_event
by_event w a Step = by_step w a (held_by w a)
by_event w a Take = by_take w a (first_ready w.table.ready)
by_event w a Back = by_back w a (held_by w a)
by_event w a (Line l) = by_line w l (owner_of w.table l)
by_event w a Tick = refl
by_event w a (Kill e) = refl
by_event w a (Respawn s) = by_respawn w s (slice_get w.services s)

-- events in a row
pub actors_after_events : (w : World) (xs : List (ℕ × Event)) → actors (world_after_events w xs) ≡ actors w
actors_after_events w [] = refl
actors_after_events w (x ∷ xs) = actors_after_events (world_after_event w x.0 x.1) xs ∙ by_event w x.0 x.1

by_answer : (w : World) (a : ℕ) (x : Event) (r : Option Refusal) → actors (move_by w a x r).1 ≡ actors w
by_answer w a x (Some r) = refl
by_answer w a x None = by_event w a x

-- an event that may be refused
pub actors_after_move : (w : World) (a : ℕ) (x : Event) → actors (move w a x).1 ≡ actors w
unfolding move
actors_after_move w a x = by_answer w a x (event_refusal w a x)
