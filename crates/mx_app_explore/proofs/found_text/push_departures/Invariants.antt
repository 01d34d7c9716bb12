use Rattle.std.proofs.Common.{◌≡◌, ◌++◌, drop}
use Rattle.mx_app_explore.specs.FoundText.{departure_lines}
use Rattle.mx_app_explore.proofs.found_text.push_departures.Given as goal

-- the lines so far, and those that are left
abbrev pub invariant-loop-departure : goal.invariant-loop-departure
invariant-loop-departure l = l.text.items ++ departure_lines l.services l.met (drop l.departure-index l.departures) ≡ l.fn.text.items ++ departure_lines l.services l.met l.departures
