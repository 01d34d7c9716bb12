use Rattle.std.proofs.Common.{◌+◌, ◌≤◌, arith, List, ℕ, sym, subst}
use Rattle.mx_boot.specs.Log.{IsHistory}
use Rattle.mx_boot.proofs.OneHistory.{answered}
use Rattle.mx_boot.proofs.logs.log.Goals as goal

pub returns-clause-saved : goal.returns-clause-saved
returns-clause-saved c = λ rules records writable same.
    let config = c.args.config.now in
    let actors : ℕ = config.cpus + config.others in
    let cpus = config.cpus_fit in
    let others = config.others_fit in
    let few : actors ≤ 256 = omega (arith, cpus, others) in
    answered (λ p. p.0) (λ p. p.1.items) actors c.args.text.now rules records c.read_log.result c.read_log.ensures.history c.read_log.ensures.fault
    (subst (λ (t : List ℕ). IsHistory actors t rules records) (sym same) (c.history_again.ensures actors rules records few writable))
