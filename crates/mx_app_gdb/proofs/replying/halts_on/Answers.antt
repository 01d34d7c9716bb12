use Rattle.std.proofs.lemmas.Result.{IfOk-weaker}
use Rattle.std.proofs.Common.{◌≡◌, map}
use Rattle.mx_walk.specs.Walks.{world_here}
use Rattle.mx_app_look.specs.Changes.{as_seen, seen_in}
use Rattle.mx_app_gdb.specs.declared.halts.Halts.{Halts}
use Rattle.mx_app_gdb.specs.Halts.{IsUnchanged}
use Rattle.mx_app_gdb.proofs.Unchanged.{seen_here}
use Rattle.mx_app_gdb.proofs.replying.halts_on.Goals as goal

pub returns-clause-unchanged : goal.returns-clause-unchanged
returns-clause-unchanged c =
    let k = c.args.stub.now.sight.walker in
    IfOk-weaker c.new.result (λ (h : Halts). map as_seen h.seen.items ≡ map (seen_in (world_here k)) h.points.watches) (λ (h : Halts). IsUnchanged k h)
    (λ (h : Halts) seen. seen_here k h seen) c.new.ensures.seen
