use Rattle.std.proofs.Common.{◌≤◌, replicate, None, vec_capacity, refl, sym, subst, arith}
use Rattle.mx_machine.specs.Boot.{world_at_boot_with}
use Rattle.mx_machine.specs.Agrees.{IsAtReplay}
use Rattle.mx_machine.specs.KernelState.{KernelState}
use Rattle.mx_machine.proofs.BootLemmas.{boot_agrees}
use Rattle.mx_machine.proofs.kernel.Kernel.new.Goals as goal

pub invariant_of-result : goal.invariant_of-result
invariant_of-result c =
    let ss = c.args.services.now.items in
    let config = c.args.config.now in
    let records = c.in_ok-records.records in
    let room : config.log ≤ vec_capacity records = omega (arith, c.in_ok-records.ensures.capacity) in
    subst (λ (d : KernelState). IsAtReplay d (vec_capacity records) (record { boot = world_at_boot_with config.rules d.services config.cpus d.others d.capacity; history = records.items })) (sym c.in_ok-present.ensures.booted)
    (boot_agrees config.rules ss config.cpus config.others config.log (vec_capacity records) (replicate config.cpus None) records.items config.cpus_fit refl c.in_ok-records.ensures.items room)
