use Rattle.std.proofs.Common.{◌≡◌, ◌∙◌, ◌≤◌, List, length, vec_capacity, ap, sym, subst, arith}
use Rattle.mx_machine.specs.declared.history.Record.{Record}
use Rattle.mx_machine.specs.Agrees.{IsAtReplay}
use Rattle.mx_machine.specs.Boot.{world_at_boot_with}
use Rattle.mx_machine.specs.History.{BootAndHistory}
use Rattle.mx_machine.specs.KernelState.{KernelState}
use Rattle.mx_machine.proofs.StoredLemmas.{with_room}
use Rattle.mx_machine.proofs.stored.StoredKernel.restore.Goals as goal

pub with_room-requires : goal.with_room-requires
with_room-requires c = omega (arith, c.capacity.ensures.room, c.self.invariant.records, ap length (c.requires.records ∙ sym (ap (λ (x : BootAndHistory). x.history) c.self.view_is)))

pub invariant_of-result : goal.invariant_of-result
invariant_of-result c =
    let k = c.self.inside in
    let records = c.in_ok-records.records in
    let same : records.items ≡ k.records.value.items = c.in_ok-records.ensures.items ∙ c.requires.records ∙ sym (ap (λ (x : BootAndHistory). x.history) c.self.view_is) in
    let room : k.present.capacity ≤ vec_capacity records = omega (arith, c.in_ok-records.ensures.room, c.capacity.ensures.value) in
    subst (λ (d : KernelState). IsAtReplay d (vec_capacity records) (record { boot = world_at_boot_with k.rules d.services k.processors d.others d.capacity; history = records.items })) (sym c.in_ok-present.ensures)
    (subst (λ (xs : List Record). IsAtReplay k.present (vec_capacity records) (record { boot = world_at_boot_with k.rules k.present.services k.processors k.present.others k.present.capacity; history = xs })) (sym same)
    (with_room k.present k.present.capacity (vec_capacity records) _ c.self.invariant room))
