use Rattle.std.proofs.Common.{◌<◌, length, sym, subst}
use Rattle.mx_machine.specs.Proc.TableState.{TableState}
use Rattle.mx_machine.specs.History.{replay}
use Rattle.mx_machine.proofs.DoneLemmas.{slot-used}
use Rattle.mx_machine.proofs.machine.endpoint_on.Goals as goal

pub endpoint-requires : goal.endpoint-requires
endpoint-requires c = subst (λ (t : TableState). c.in-Some.slot < length t.slots) (sym c.table.ensures) (slot-used (replay c.args.kernel.now) c.args.cpu c.in-Some.slot c.facts.ensures.sound (sym c.in-Some.ensures))
