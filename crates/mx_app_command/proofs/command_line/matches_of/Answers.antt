use Rattle.std.proofs.Common.{◌≡◌, ap, map, subst, true, List}
use Rattle.std.specs.Prelude.{IfErr}
use Rattle.clap.specs.Words.{App, FailsBy, Text, fault_of, is_simple_and_free, kind_of, takes}
use Rattle.clap.specs.declared.error.kind.ErrorKind.TheVariants.{OutOfMemory}
use Rattle.mx_app_command.proofs.command_line.matches_of.Goals as goal

pub returns-clause-passes : goal.returns-clause-passes
returns-clause-passes c =
    let words : List Text = map (λ s. s.now) c.args.words.now in
    subst (λ (a : App). IfErr c.try_get_matches_from.result (λ e. takes a words ≡ true → kind_of e ≡ OutOfMemory)) c.in_ok-grammar.ensures.app c.try_get_matches_from.ensures.passes

pub returns-clause-kinds : goal.returns-clause-kinds
returns-clause-kinds c =
    let words : List Text = map (λ s. s.now) c.args.words.now in
    let app_is = c.in_ok-grammar.ensures.app in
    subst (λ (a : App). FailsBy (fault_of a words) c.try_get_matches_from.result) app_is (c.try_get_matches_from.ensures.kinds (ap is_simple_and_free app_is))
