use Rattle.std.proofs.Common.{◌≡◌, List, sym, subst, arith}
use Rattle.mx_machine.specs.declared.history.Record.{Record}
use Rattle.mx_machine.specs.Agrees.{IsAtReplay}
use Rattle.mx_machine.specs.Boot.{world_at_boot_with}
use Rattle.mx_machine.specs.KernelState.{KernelState}
use Rattle.mx_machine.proofs.StoredLemmas.{with_room}
use Rattle.mx_machine.proofs.kernel.Kernel.to_stored.Goals as goal

pub invariant_of-result : goal.invariant_of-result
invariant_of-result c =
    let k = c.self.inside in
    let records = c.of.result.value in
    let same : records.items ≡ k.records.items = cc in
    subst (λ (d : KernelState). IsAtReplay d d.capacity (record { boot = world_at_boot_with k.rules d.services k.processors d.others d.capacity; history = records.items })) (sym c.in_ok-to_stored.ensures)
    (subst (λ (xs : List Record). IsAtReplay k.present k.present.capacity (record { boot = world_at_boot_with k.rules k.present.services k.processors k.present.others k.present.capacity; history = xs })) (sym same)
    (with_room k.present _ k.present.capacity _ c.self.invariant (omega arith)))
