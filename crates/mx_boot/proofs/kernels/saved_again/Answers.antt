use Rattle.std.proofs.Common.{◌≤◌, ◌+◌, ℕ, arith, sym, subst}
use Rattle.std.specs.Prelude.{All}
use Rattle.mx_machine.specs.History.{IsWritable}
use Rattle.mx_boot.proofs.kernels.saved_again.Goals as goal

pub returns : goal.returns
returns c =
    let config = c.args.config.now in
    let cpus = config.cpus_fit in
    let others = config.others_fit in
    let actors : ℕ = config.cpus + config.others in
    let few : actors ≤ 256 = omega (arith, cpus, others) in
    c.history_again.ensures actors c.args.kernel.now.boot.table.rules c.args.kernel.now.history few
    (subst (λ (n : ℕ). All (IsWritable n) c.args.kernel.now.history) (sym c.requires) c.facts.ensures.written)
