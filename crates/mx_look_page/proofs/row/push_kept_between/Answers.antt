use Rattle.std.proofs.Common.{◌≡◌, refl, arith}
use Rattle.mx_look_page.specs.Rows.{kept_item, kept_between}
use Rattle.mx_look.proofs.TraceRows.{next_row, all_rows}
use Rattle.mx_look_page.proofs.row.push_kept_between.Goals as goal

pub loop-place-preserved : goal.loop-place-preserved
loop-place-preserved c =
    next_row (kept_item c.args.slot c.args.before.now c.args.after.now) c.loop-place.place c.args.out.now.items c.loop-place.out.items c.push_kept.new.out.items _ c.loop-place.invariant c.in_ok-push_kept.ensures refl

pub returns : goal.returns
unfolding kept_between
returns c =
    let all : c.loop-place.place ≡ 34 = omega arith in
    all_rows (kept_item c.args.slot c.args.before.now c.args.after.now) c.loop-place.place 34 c.args.out.now.items c.loop-place.out.items all c.loop-place.invariant
