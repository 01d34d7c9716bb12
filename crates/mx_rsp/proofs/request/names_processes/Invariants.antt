use Rattle.std.proofs.Common.{◌≡◌, ◌≤◌, codes, drop}
use Rattle.std.specs.Prelude.{slice_range}
use Rattle.mx_rsp.specs.Requests.{has_feature, names_processes}
use Rattle.mx_rsp.proofs.request.names_processes.Given as goal

-- the feature so far, and what is left
abbrev pub invariant-loop-at : goal.invariant-loop-at
invariant-loop-at l = record {
  has : has_feature (codes "multiprocess+") (slice_range l.text l.begin l.at) (drop l.at l.text) ≡ names_processes l.text;
  begun : l.begin ≤ l.at;
}
