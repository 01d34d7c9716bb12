use Rattle.std.proofs.Common.{ap, arith}
use Rattle.mx_machine.specs.KernelState.{KernelState}
use Rattle.mx_machine.proofs.HoldsLemmas.{out_count-most}
use Rattle.mx_machine.proofs.current.CurrentState.surely_free.Goals as goal

pub returns : goal.returns
returns c =
    let most = out_count-most c.args.self.now.leases in
    let capacity = ap (λ (d : KernelState). d.capacity) c.self.view_is in
    let records = ap (λ (d : KernelState). d.records) c.self.view_is in
    omega (arith, most, capacity, records, c.processors-held.ensures)
