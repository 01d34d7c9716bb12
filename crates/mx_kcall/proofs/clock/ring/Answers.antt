use Rattle.std.proofs.Common.{◌∙◌, ap, get_or-set_other}
use Rattle.mx_respawn.specs.Proc.declared.process.Process.{Process}
use Rattle.mx_respawn.specs.Proc.declared.process.Source.TheVariants.{Clock}
use Rattle.mx_respawn.specs.Proc.TableState.{TableState, process_at, nobody}
use Rattle.mx_kcall.proofs.AlarmLemmas.{told-alarm}
use Rattle.mx_kcall.proofs.clock.ring.Goals as goal

pub returns-then-is_due-clause-others : goal.returns-then-is_due-clause-others
returns-then-is_due-clause-others c s n =
    ap (λ (w : TableState). (process_at w s).alarm) c.notify.ensures.value ∙ told-alarm c.set_alarm.new.self Clock _ s
    ∙ ap (λ (w : TableState). (process_at w s).alarm) c.set_alarm.ensures.value ∙ ap (λ (p : Process). p.alarm) (get_or-set_other c.args.table.now.slots c.args.slot s _ nobody n)
