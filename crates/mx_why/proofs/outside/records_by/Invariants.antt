use Rattle.std.proofs.Common.{◌≡◌, ◌++◌, drop, filter}
use Rattle.mx_why.specs.Outside.{is_of_file}
use Rattle.mx_why.proofs.outside.records_by.Given as goal

-- the records so far
abbrev pub invariant-loop-entry : goal.invariant-loop-entry
invariant-loop-entry l = l.made.items ++ filter (is_of_file l.cpus l.called) (drop l.entry-index l.records) ≡ filter (is_of_file l.cpus l.called) l.records
