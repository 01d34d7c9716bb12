use Rattle.std.proofs.Common.{◌≡◌, ◌∙◌, List, replicate, None, Option, sym, ap, subst}
use Rattle.mx_ipc.specs.Proc.TableState.{TableState}
use Rattle.mx_machine.specs.Service.{Service}
use Rattle.mx_machine.specs.declared.holding.Lease.{Lease}
use Rattle.mx_machine.specs.Boot.{first_table}
use Rattle.mx_machine.specs.Sound.{IsConsistent}
use Rattle.mx_machine.specs.KernelState.{KernelState}
use Rattle.mx_machine.proofs.BootLemmas.{boot_holds}
use Rattle.mx_machine.proofs.booting.first_present.Goals as goal

pub new-present-requires : goal.new-present-requires
new-present-requires c =
    let ss = c.args.services.now.items in
    let config = c.args.config.now in
    let table : c.in_ok-table.table ≡ first_table config.rules ss = c.in_ok-table.ensures ∙ ap (first_table config.rules) c.as_slice.ensures.value in
    let entered : c.replace-entered.result.items ≡ ss = ap (λ v. v.items) c.replace-entered.ensures.value in
    let leases : c.in_ok-leases.leases.items ≡ replicate config.cpus None = c.in_ok-leases.ensures in
    subst (λ (w : TableState). IsConsistent w c.in_ok-leases.leases.items c.replace-entered.result.items 0 config.log) (sym table)
    (subst (λ (l : List (Option Lease)). IsConsistent (first_table config.rules ss) l c.replace-entered.result.items 0 config.log) (sym leases)
    (subst (λ (x : List Service). IsConsistent (first_table config.rules ss) (replicate config.cpus None) x 0 config.log) (sym entered)
    (boot_holds config.rules ss config.cpus config.log config.log_fits)))

pub returns-clause-booted : goal.returns-clause-booted
returns-clause-booted c =
    let ss = c.args.services.now.items in
    let config = c.args.config.now in
    let table : c.in_ok-table.table ≡ first_table config.rules ss = c.in_ok-table.ensures ∙ ap (first_table config.rules) c.as_slice.ensures.value in
    let entered : c.replace-entered.result.items ≡ ss = ap (λ v. v.items) c.replace-entered.ensures.value in
    c.new-present.ensures
    ∙ ap (λ (w : TableState). let d : KernelState = record { table = w; leases = c.in_ok-leases.leases.items; others = config.others; services = c.replace-entered.result.items; records = 0; capacity = config.log } in d) table
    ∙ ap (λ (x : List Service). let d : KernelState = record { table = first_table config.rules ss; leases = c.in_ok-leases.leases.items; others = config.others; services = x; records = 0; capacity = config.log } in d) entered
    ∙ ap (λ (l : List (Option Lease)). let d : KernelState = record { table = first_table config.rules ss; leases = l; others = config.others; services = ss; records = 0; capacity = config.log } in d) c.in_ok-leases.ensures
