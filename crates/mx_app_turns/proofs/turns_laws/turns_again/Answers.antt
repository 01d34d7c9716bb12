use Rattle.std.proofs.Common.{◌≡◌, ◌∙◌, ◌+◌, List, ℕ, All, ap, arith, refl, subst, sym}
use Rattle.std.specs.Io.KnownBytes.{Appends}
use Rattle.mx_machine.specs.declared.config.Config.{Config}
use Rattle.mx_machine.specs.Boot.{world_at_boot}
use Rattle.mx_machine.specs.History.{IsWritable}
use Rattle.mx_machine.specs.Rules.{Rules}
use Rattle.mx_app_step.specs.Course.{IsSaved}
use Rattle.mx_app_step.specs.Records.{IsReplayPrinted}
use Rattle.mx_app_step.specs.Text.{saved_text}
use Rattle.mx_app_turns.proofs.TurnedLemmas.{actors_turned, printed_whole}
use Rattle.mx_app_turns.proofs.turns_laws.turns_again.Goals as goal

pub returns : goal.returns
returns c = λ a d vs bound xs k ending records how before after made saved printed.
    let own : IsSaved (saved_text a.rules k.history) a a k.history = (
      a.rules,
      c.history_again.ensures (a.cpus + a.others) a.rules k.history (omega (arith, a.cpus_fit, a.others_fit))
          (subst (λ n. All (IsWritable n) k.history) (actors_turned a vs k made.boot) made.written),
      refl,
    ) in
    let same = c.one_history.ensures.one (a.cpus + a.others) (saved_text a.rules k.history) saved.0 own.0 records k.history saved.1 own.1 in
    let by : Rules → Config = λ x. record a { rules = x } in
    let config : d ≡ a = saved.2 ∙ ap by same.0 ∙ sym own.2 in
    printed_whole a vs k records how before after made.boot made.accepted same.1
    (subst (λ (x : Config). IsReplayPrinted (world_at_boot x vs) records how (λ (text : List ℕ). Appends before after text)) config printed)
