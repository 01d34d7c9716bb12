use Rattle.std.proofs.Common.{◌∙◌, sym}
use Rattle.mx_app_step.specs.Machine.{world_of}
use Rattle.mx_turns.proofs.RunLemmas.{fault_none, fault_some, kept_none, kept_some, now_cpus}
use Rattle.mx_turns.proofs.faults.perform_fault_line.Goals as goal

pub returns-in-Some-clause-made : goal.returns-in-Some-clause-made
returns-in-Some-clause-made c =
    fault_some (world_of c.args.machine.now) c.args.other c.args.line c.in-Some.line (sym c.line_now.ensures ∙ c.in-Some.is) ∙ c.perform_line.ensures.made

pub returns-in-Some-clause-kept : goal.returns-in-Some-clause-kept
returns-in-Some-clause-kept c =
    c.perform_line.ensures.kept ∙ sym (kept_some c.args.machine.now.kernel (world_of c.args.machine.now) c.args.other c.args.line c.in-Some.line (sym c.line_now.ensures ∙ c.in-Some.is))

pub returns-in-Some-clause-cpus : goal.returns-in-Some-clause-cpus
returns-in-Some-clause-cpus c = now_cpus (world_of c.args.machine.now) (world_of c.perform_line.new.machine) c.args.other c.in-Some.line c.perform_line.result c.perform_line.ensures.made

pub returns-in-None-clause-made : goal.returns-in-None-clause-made
returns-in-None-clause-made c = fault_none (world_of c.args.machine.now) c.args.other c.args.line (sym c.line_now.ensures ∙ c.in-None.is)

pub returns-in-None-clause-kept : goal.returns-in-None-clause-kept
returns-in-None-clause-kept c = sym (kept_none c.args.machine.now.kernel (world_of c.args.machine.now) c.args.other c.args.line (sym c.line_now.ensures ∙ c.in-None.is))
