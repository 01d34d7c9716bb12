use Rattle.std.proofs.Common.{◌≡◌, ◌≤◌, ◌*◌, take}
use Rattle.std.specs.List.{sum_by}
use Rattle.mx_machine.specs.declared.history.Record.{Record}
use Rattle.mx_why.specs.AfterRun.{steps_of}
use Rattle.mx_why.proofs.after_run.steps_in.Given as goal

-- the steps so far
abbrev pub invariant-loop-record : goal.invariant-loop-record
invariant-loop-record l = record {
  made : l.steps ≡ sum_by (λ (x : Record). steps_of x.event) (take l.record-index l.records);
  few : l.steps ≤ 4294967295 * l.record-index;
}
