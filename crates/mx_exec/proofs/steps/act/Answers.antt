use Rattle.mx_exec.proofs.Lasting.{performed_keeps}
use Rattle.mx_exec.proofs.steps.act.Goals as goal

pub returns-in-Ok-perform-clause-lasting : goal.returns-in-Ok-perform-clause-lasting
returns-in-Ok-perform-clause-lasting c = performed_keeps c.args.insn.now c.dword_sum-next.result c.args.image.now c.perform.new.image c.in-Ok-perform.ensures
