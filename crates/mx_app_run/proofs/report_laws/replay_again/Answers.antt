use Rattle.std.proofs.Common.{◌≡◌, ◌∙◌, ◌+◌, All, List, ℕ, ap, arith, refl, subst, sym}
use Rattle.std.specs.Io.KnownBytes.{Appends}
use Rattle.mx_boot.specs.Text.{saved_text}
use Rattle.mx_machine.specs.declared.config.Config.{Config}
use Rattle.mx_machine.specs.Boot.{world_at_boot}
use Rattle.mx_machine.specs.History.{IsWritable}
use Rattle.mx_machine.specs.Rules.{Rules}
use Rattle.mx_app_step.specs.Records.{IsReplayPrinted}
use Rattle.mx_app_run.proofs.RunLemmas.{actors_of_run, printed_whole}
use Rattle.mx_app_run.proofs.report_laws.replay_again.Goals as goal

pub returns-clause-history : goal.returns-clause-history
returns-clause-history c = λ a vs k r. (
  a.rules,
  c.history_again.ensures (a.cpus + a.others) a.rules k.history (omega (arith, a.cpus_fit, a.others_fit))
      (subst (λ n. All (IsWritable n) k.history) (actors_of_run a vs k r) r.written),
  refl,
)

pub returns-clause-report : goal.returns-clause-report
returns-clause-report c = λ a d vs k records how before after r saved printed.
    let own = returns-clause-history c a vs k r in
    let same = c.one_history.ensures.one (a.cpus + a.others) (saved_text a.rules k.history) saved.0 own.0 records k.history saved.1 own.1 in
    let by : Rules → Config = λ x. record a { rules = x } in
    let config : d ≡ a = saved.2 ∙ ap by same.0 ∙ sym own.2 in
    printed_whole a vs k records how before after r same.1
    (subst (λ (x : Config). IsReplayPrinted (world_at_boot x vs) records how (λ (text : List ℕ). Appends before after text)) config printed)
