use Rattle.mx_app_explore.proofs.Pieces.{one_line}
use Rattle.mx_app_explore.proofs.found_text.push_departures.Goals as goal

pub loop-departure-preserved : goal.loop-departure-preserved
loop-departure-preserved c =
    one_line c.args.services.now c.args.met.now c.args.departures.now c.loop-departure.departure-index _ c.get.result c.loop-departure.text.items _ _ c.loop-departure-test.true c.get.ensures.lookup c.in_ok-push_departure.ensures
    c.loop-departure.invariant
