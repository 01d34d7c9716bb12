use Rattle.std.proofs.Common.{◌≡◌, ◌∙◌, ◌<◌, length, map, None, arith, subst}
use Rattle.std.proofs.Math.ListN.{length-set}
use Rattle.std.specs.List.{range_with_len}
use Rattle.std.proofs.lemmas.List.FromFn.{fill_by_all}
use Rattle.mx_look.specs.Kept.{latest, latest_deliveries}
use Rattle.mx_look.proofs.Filled.{filled_more}
use Rattle.mx_look.proofs.kept.look_at_deliveries.Goals as goal

pub loop-back-preserved : goal.loop-back-preserved
loop-back-preserved c =
    let inv = c.loop-back.invariant in
    let within : c.loop-back.back < length c.loop-back.deliveries = omega (arith, inv.long) in
    record {
      long = length-set c.loop-back.deliveries c.loop-back.back c.latest.result ∙ inv.long;
      filled = filled_more (latest c.args.table.now.deliveries c.kept_count-count.result c.args.most) c.loop-back.deliveries c.loop-back.back c.latest.result None within c.latest.ensures inv.filled;
    }

pub returns : goal.returns
unfolding latest_deliveries
returns c =
    let inv = c.loop-back.invariant in
    let all : c.loop-back.back ≡ 32 = omega arith in
    subst (λ n. c.loop-back.deliveries ≡ map (latest c.args.table.now.deliveries n c.args.most) (range_with_len 0 32)) c.kept_count-count.ensures.count
    (fill_by_all (latest c.args.table.now.deliveries c.kept_count-count.result c.args.most) c.loop-back.deliveries 32 None inv.long (λ k b. inv.filled k (omega arith)))
