-- One session of the same lines; and what is shown of the record before.
use Rattle.std.proofs.Common.{◌≡◌, ◌∙◌, ℕ, zero, suc, List, [], ◌∷◌, take, Some, slice_get, refl, ap, sym}
use Rattle.std.proofs.lemmas.List.{append-nil}
use Rattle.mx_machine.specs.declared.events.Event.{Event}
use Rattle.mx_machine.specs.declared.history.Record.{Record}
use Rattle.mx_machine.specs.declared.history.Recorded.{Recorded}
use Rattle.mx_machine.specs.declared.history.Recorded.TheVariants as recorded
use Rattle.mx_machine.specs.History.{events_of, events_of_history, world_after_events}
use Rattle.mx_machine.specs.World.{World}
use Rattle.mx_app_step.specs.Traces.{steps_before}
use Rattle.mx_walk.specs.declared.positions.Position.{Position}
use Rattle.mx_walk.specs.Positions.{steps_in, steps_of}
use Rattle.mx_walk.specs.Walks.{Walk}
use Rattle.mx_walk.proofs.Made.{after_both}

-- a walk, but for its checkpoints
abbrev pub unmarked : Walk → Walk
unmarked k = record k { checkpoints = [] }

abbrev made_of : World → List Record → Position → Position → Walk
made_of boot records here last = record { boot = boot; records = records; here = here; last = last; checkpoints = [] }

pub same_walk : (j k : Walk) → j.boot ≡ k.boot → j.records ≡ k.records → j.here ≡ k.here → j.last ≡ k.last → unmarked j ≡ unmarked k
same_walk j k boot records here last =
    ap (λ (w : World). made_of w j.records j.here j.last) boot ∙ ap (λ (rs : List Record). made_of k.boot rs j.here j.last) records
    ∙ ap (λ (p : Position). made_of k.boot k.records p j.last) here ∙ ap (λ (p : Position). made_of k.boot k.records k.here p) last

-- the steps that a record has
pub steps_are : (a : ℕ) (x : Recorded) → steps_of a (steps_in x) ≡ steps_before a x
steps_are a recorded.Take = refl
steps_are a (recorded.Back n) = refl
steps_are a (recorded.Line l) = refl
steps_are a recorded.Tick = refl
steps_are a (recorded.Kill e) = refl
steps_are a (recorded.Respawn s) = refl

-- one record more is made
pub one_record_more : (w : World) (records : List Record) (n : ℕ) (x : Record) → slice_get records n ≡ Some x
    → world_after_events w (events_of_history (take (suc n) records)) ≡ world_after_events (world_after_events w (events_of_history (take n records))) (events_of x.actor x.event)
one_record_more w [] n x e = absurd cc
one_record_more w (y ∷ ys) zero x e =
    let same : y ≡ x = cc in
    ap (λ (es : List (ℕ × Event)). world_after_events w es) (append-nil (events_of y.actor y.event))
    ∙ ap (λ (z : Record). world_after_events w (events_of z.actor z.event)) same
one_record_more w (y ∷ ys) (suc n) x e =
    let first = events_of y.actor y.event in
    after_both w first (events_of_history (take (suc n) ys))
    ∙ one_record_more (world_after_events w first) ys n x e
    ∙ ap (λ (u : World). world_after_events u (events_of x.actor x.event)) (sym (after_both w first (events_of_history (take n ys))))
