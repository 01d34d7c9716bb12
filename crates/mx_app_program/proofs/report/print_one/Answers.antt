use Rattle.mx_aout.specs.File.{refusal_of}
use Rattle.mx_app_program.proofs.Telling.{printed_on, tells_printed, tells_refusal}
use Rattle.mx_app_program.proofs.report.print_one.Goals as goal

pub returns-clause-tells : goal.returns-clause-tells
returns-clause-tells g c = tells_printed (refusal_of c.args.bytes.now) c.args.bytes.now c.args.steps _ c.print_steps.result c.in-Ok.ensures c.print_steps.ensures.err

pub returns-clause-shown : goal.returns-clause-shown
returns-clause-shown g c =
    printed_on (refusal_of c.args.bytes.now) c.args.bytes.now c.args.steps c.in-Ok.made _ _ c.print_steps.result c.in-Ok.ensures c.print_steps.ensures.bytes

pub returns-in-Err-clause-tells : goal.returns-in-Err-clause-tells
returns-in-Err-clause-tells g c =
    rw (c.refused.ensures) (tells_refusal (refusal_of c.args.bytes.now) c.args.bytes.now c.args.steps c.in-Err.error c.in-Err.ensures)
