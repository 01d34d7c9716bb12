use Rattle.std.proofs.Common.{◌∙◌, List, slice_get, ap}
use Rattle.mx_app_step.specs.Service.{Service}
use Rattle.mx_walk.specs.Walks.{world_here}
use Rattle.mx_print_answers.specs.Slots.{symbols_by}
use Rattle.mx_app_look.proofs.Kernels.{same_services}
use Rattle.mx_app_look.proofs.showing.symbols_in.Goals as goal

pub returns : goal.returns
returns c =
    let services = same_services c.kernel.result.now c.machine.result.now (world_here c.args.walker.now) c.kernel.ensures c.machine.ensures.world in
    c.symbols_of.ensures ∙ ap (λ (vs : List Service). symbols_by (slice_get vs c.args.slot)) services
