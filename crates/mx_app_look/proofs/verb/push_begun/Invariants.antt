use Rattle.std.proofs.Common.{◌≡◌, ◌++◌, codes, drop, filter}
use Rattle.mx_app_look.specs.Verbs.{begins_verb, names_after}
use Rattle.mx_app_look.proofs.verb.push_begun.Given as goal

-- what is left to append makes the whole
abbrev pub invariant-loop-verb : goal.invariant-loop-verb
invariant-loop-verb l =
    l.out.items ++ names_after l.between (filter (begins_verb l.front) (drop l.verb-index l.verbs))
    ≡ l.initial.out.items ++ names_after (codes ": ") (filter (begins_verb l.front) l.verbs)
