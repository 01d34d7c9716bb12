use Rattle.std.proofs.Common.{◌≡◌, ◌∙◌, ◌+◌, ◌^◌, ◌%◌, ℕ, suc, List, take, ap, arith}
use Rattle.mx_app_step.specs.Traces.{steps_before}
use Rattle.mx_look.specs.Glances.{glance_of}
use Rattle.mx_look.specs.declared.transition.Transition.{Transition as Seen}
use Rattle.mx_machine.specs.declared.events.Event.{Event}
use Rattle.mx_machine.specs.History.{events_of_history, world_after_events}
use Rattle.mx_machine.specs.World.{World}
use Rattle.mx_walk.specs.Positions.{steps_in, world_at}
use Rattle.mx_app_look.proofs.Traced.{one_record_more, steps_are}
use Rattle.mx_app_look.proofs.session_laws.why_is_traced.Goals as goal

pub returns : goal.returns
returns c boot records n x small there =
    let w = world_after_events boot (events_of_history (take n records)) in
    let number : (n + 1) % 2 ^ 32 ≡ n + 1 = omega (arith, small) in
    let before = c.positions_replay.ensures.within boot records (record { records = n; steps = steps_in x.event }) x there
    ∙ ap (λ (es : List (ℕ × Event)). world_after_events w es) (steps_are x.actor x.event) in
    let more : n + 1 ≡ suc n = omega arith in
    let after = c.positions_replay.ensures.between boot records (n + 1)
    ∙ ap (λ k. world_after_events boot (events_of_history (take k records))) more ∙ one_record_more boot records n x there in
    ap (λ k. let s : Seen = record { number = k; before = glance_of (world_at boot records (record { records = n; steps = steps_in x.event })); actor = x.actor; event = x.event; after = glance_of (world_at boot records (record { records = n + 1; steps = 0 })) } in s) number
    ∙ ap (λ (u : World). let s : Seen = record { number = n + 1; before = glance_of u; actor = x.actor; event = x.event; after = glance_of (world_at boot records (record { records = n + 1; steps = 0 })) } in s) before
    ∙ ap (λ (u : World). let s : Seen = record { number = n + 1; before = glance_of (world_after_events w (steps_before x.actor x.event)); actor = x.actor; event = x.event; after = glance_of u } in s) after
