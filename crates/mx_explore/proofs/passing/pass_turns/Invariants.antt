use Rattle.std.proofs.Common.{◌≡◌, ◌≤◌, ◌-◌, drop, false}
use Rattle.mx_turns.specs.Made.{outside_events}
use Rattle.mx_explore.specs.Passages.{HasRoom, passage, standing}
use Rattle.mx_explore.specs.Passing.{passed_turns}
use Rattle.mx_explore.proofs.passing.pass_turns.Given as goal

-- the turns that are left lead to where all of them lead
abbrev pub invariant-loop : goal.invariant-loop
invariant-loop l = record {
  room : HasRoom l.machine;
  few : l.place ≤ l.counter;
  left : passed_turns l.bound (passage l.initial.machine (outside_events l.outside) (standing l.initial.schedule) false) ≡ passed_turns (l.bound - l.counter) (passage l.machine (drop l.place (outside_events l.outside)) (standing l.schedule) false);
}
