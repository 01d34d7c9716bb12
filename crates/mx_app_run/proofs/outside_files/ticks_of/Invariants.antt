use Rattle.std.proofs.Common.{◌≡◌, ◌≤◌, take}
use Rattle.mx_app_run.specs.Calls.{ticks_of}
use Rattle.mx_app_run.proofs.outside_files.ticks_of.Given as goal

-- the ticks of the calls so far
abbrev pub invariant-loop-call : goal.invariant-loop-call
invariant-loop-call l = record {
  made : l.ticks ≡ ticks_of (take l.call-index l.calls);
  few : l.ticks ≤ l.call-index;
}
