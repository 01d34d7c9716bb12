use Rattle.std.proofs.Common.{◌≡◌, ◌++◌, drop}
use Rattle.std.specs.List.{flat_map}
use Rattle.mx_app_look.specs.Verbs.{help_line}
use Rattle.mx_app_look.proofs.verb.push_meanings.Given as goal

-- what is left to append makes the whole
abbrev pub invariant-loop-verb : goal.invariant-loop-verb
invariant-loop-verb l = l.out.items ++ flat_map help_line (drop l.verb-index l.verbs) ≡ l.initial.out.items ++ flat_map help_line l.verbs
