use Rattle.std.proofs.Common.{◌≡◌, ◌≤◌, ◌-◌, drop, take}
use Rattle.mx_app_look.proofs.range_change.is_same.Given as goal

-- the bytes so far are the same
abbrev pub invariant-loop-done : goal.invariant-loop-done
invariant-loop-done l = record {
  same : take l.done l.other ≡ take l.done (drop l.at l.memory);
  few : l.done ≤ l.count;
}

abbrev pub invariant-loop-done-2 : goal.invariant-loop-done-2
invariant-loop-done-2 l = record {
  same : take l.done l.other ≡ take l.done (drop l.at l.memory);
  few : l.done ≤ l.count;
}

abbrev pub decreases-loop-done : goal.decreases-loop-done
decreases-loop-done l = l.count - l.done

abbrev pub decreases-loop-done-2 : goal.decreases-loop-done-2
decreases-loop-done-2 l = l.count - l.done
