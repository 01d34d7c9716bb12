use Rattle.std.proofs.Common.{◌≢◌, ◌∙◌, ap, length, refl, subst, sym}
use Rattle.mx_respawn.specs.Proc.Sound.{HasBuffer}
use Rattle.mx_respawn.specs.Proc.TableState.{TableState, process_at}
use Rattle.mx_respawn.specs.Proc.declared.process.State.TheVariants.{Home}
use Rattle.mx_kcall.proofs.FrameLemmas.{kept_frame}
use Rattle.mx_kcall.proofs.serving.change.Goals as goal

pub returns-in-Exit-clause-frame : goal.returns-in-Exit-clause-frame
returns-in-Exit-clause-frame c = kept_frame c.args.table.now c.args.table.now refl

pub returns-in-Exit-clause-used : goal.returns-in-Exit-clause-used
returns-in-Exit-clause-used c = refl

pub returns-in-Exit-clause-home : goal.returns-in-Exit-clause-home
returns-in-Exit-clause-home c = c.requires.home

pub returns-in-Exit-clause-inside : goal.returns-in-Exit-clause-inside
returns-in-Exit-clause-inside c = c.requires.inside

pub returns-in-Exit-clause-settled : goal.returns-in-Exit-clause-settled
returns-in-Exit-clause-settled c = λ s away. away

pub returns-in-SetAlarm-clause-frame : goal.returns-in-SetAlarm-clause-frame
returns-in-SetAlarm-clause-frame c = kept_frame _ _ c.set_alarm.ensures.frame

pub returns-in-Devio-clause-frame : goal.returns-in-Devio-clause-frame
returns-in-Devio-clause-frame c = c.use_device.ensures.frame

pub returns-in-Devio-clause-used : goal.returns-in-Devio-clause-used
returns-in-Devio-clause-used c = ap (λ (t : TableState). length t.slots) c.use_device.ensures.devices

pub returns-in-Devio-clause-home : goal.returns-in-Devio-clause-home
returns-in-Devio-clause-home c = ap (λ (t : TableState). (process_at t c.args.slot).state) c.use_device.ensures.devices ∙ c.requires.home

pub returns-in-Devio-clause-inside : goal.returns-in-Devio-clause-inside
returns-in-Devio-clause-inside c = subst (λ (t : TableState). HasBuffer (process_at t c.args.slot)) (sym c.use_device.ensures.devices) c.requires.inside

pub returns-in-Devio-clause-settled : goal.returns-in-Devio-clause-settled
returns-in-Devio-clause-settled c = λ s away. subst (λ (t : TableState). (process_at t s).state ≢ Home) (sym c.use_device.ensures.devices) away
