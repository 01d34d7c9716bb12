use Rattle.std.proofs.Common.{◌≡◌, refl, arith}
use Rattle.mx_why.specs.Checking.{bare_service_at, bare_services}
use Rattle.mx_why.proofs.Rows.{next_row, all_rows}
use Rattle.mx_why.proofs.checking.push_bare_services.Goals as goal

pub loop-slot-preserved : goal.loop-slot-preserved
loop-slot-preserved c =
    next_row (bare_service_at c.args.services.now) c.loop-slot.slot c.args.found.now.items c.loop-slot.found.items c.push_bare_service.new.found.items _ c.loop-slot.invariant c.in_ok-push_bare_service.ensures refl

pub returns : goal.returns
unfolding bare_services
returns c =
    let all : c.loop-slot.slot ≡ 32 = omega arith in
    all_rows (bare_service_at c.args.services.now) c.loop-slot.slot 32 c.args.found.now.items c.loop-slot.found.items all c.loop-slot.invariant
