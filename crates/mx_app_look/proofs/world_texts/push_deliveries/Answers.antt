use Rattle.std.proofs.Common.{◌≡◌, ◌++◌, OnOk, rules, subst}
use Rattle.mx_machine.specs.History.{replay}
use Rattle.mx_machine.specs.Proc.TableState.{TableState}
use Rattle.mx_print_answers.specs.Messages.{delivery_lines}
use Rattle.mx_walk.specs.Walks.{world_here}
use Rattle.mx_app_look.proofs.Kernels.{same_table}
use Rattle.mx_app_look.proofs.world_texts.push_deliveries.Goals as goal

pub returns : goal.returns
returns c =
    let same = same_table c.kernel.result.now c.machine.result.now (world_here c.args.walker.now) c.kernel.ensures c.machine.ensures.world in
    let appended : OnOk c.extend_from_slice.result (c.extend_from_slice.new.self.items ≡ c.args.out.now.items ++ delivery_lines (replay c.kernel.result.now).table.deliveries) = search rules in
    subst (λ (t : TableState). OnOk c.extend_from_slice.result (c.extend_from_slice.new.self.items ≡ c.args.out.now.items ++ delivery_lines t.deliveries)) same appended
