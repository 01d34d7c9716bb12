use Rattle.std.proofs.Common.{◌≡◌, ◌∙◌, List, Option, Some, slice_get, ap, sym}
use Rattle.std.specs.Prelude.{option_map}
use Rattle.mx_machine.specs.World.{HeldProcess, World, held_by}
use Rattle.mx_machine.specs.declared.history.Record.{Record}
use Rattle.mx_walk.specs.declared.positions.Position.{Position}
use Rattle.mx_walk.specs.Walks.{world_here}
use Rattle.mx_app_look.specs.Slots.{slot_next}
use Rattle.mx_app_look.proofs.Moving.{read_is}
use Rattle.mx_app_look.proofs.asked_slot.slot_next.Goals as goal

pub returns-in-Some : goal.returns-in-Some
returns-in-Some c =
    let k = c.args.walker.now in
    let records = c.records.result.now in
    let x = c.in-Some.entry.now in
    let p = c.here-here.result in
    let read : slice_get records p.records ≡ Some x = read_is records p.records x c.in-Some.ensures.lookup.3.0 ∙ ap (λ (y : Record). Some y) (sym c.in-Some.ensures.lookup.1) in
    let there : slice_get k.records k.here.records ≡ Some x =
    ap (λ (q : Position). slice_get k.records q.records) (sym c.here-here.ensures.here) ∙ ap (λ (ys : List Record). slice_get ys p.records) (sym c.records.ensures) ∙ read in
    c.slot_on.ensures ∙ ap (λ (w : World). option_map (λ (l : HeldProcess). l.slot) (held_by w x.actor)) c.machine.ensures.world
    ∙ sym (ap (λ (o : Option Record). slot_next (world_here k) o) there)
