use Rattle.std.proofs.Common.{◌≡◌, ◌++◌, drop}
use Rattle.std.specs.List.{filter_map}
use Rattle.mx_app_turns.proofs.commented.all_said.Given as goal

abbrev pub invariant-loop-note : goal.invariant-loop-note
invariant-loop-note g l = l.found.items ++ filter_map (λ note. note) (drop l.note-index l.notes) ≡ filter_map (λ note. note) l.notes
