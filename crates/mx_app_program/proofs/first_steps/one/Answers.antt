use Rattle.std.proofs.Common.{ap, sym, ◌∙◌}
use Rattle.std.proofs.lemmas.Result.{err_from_is_err_and}
use Rattle.mx_image.specs.Run.{run_of}
use Rattle.mx_aout.specs.File.{refusal_of}
use Rattle.mx_app_program.proofs.Answering.{answers_error, answers_no_memory, answers_run}
use Rattle.mx_app_program.proofs.first_steps.one.Goals as goal

pub returns-in_err-program : goal.returns-in_err-program
returns-in_err-program c =
    let p = err_from_is_err_and c.from_residual.result c.from_residual.ensures.1 in
    rw (p.1, p.2) (answers_error (refusal_of c.args.bytes.now) c.args.bytes.now c.args.steps c.in_err-program.field-0.0 c.in_err-program.ensures)

pub returns-in_err-image : goal.returns-in_err-image
returns-in_err-image c =
    let p = err_from_is_err_and c.from_residual-in_err-image.result c.from_residual-in_err-image.ensures.1 in
    rw (p.1, p.2) (answers_no_memory (refusal_of c.args.bytes.now) c.args.bytes.now c.args.steps c.in_ok-program.program c.in_ok-program.ensures)

pub returns-in_err-made : goal.returns-in_err-made
returns-in_err-made c =
    let p = err_from_is_err_and c.from_residual-in_err-made.result c.from_residual-in_err-made.ensures.1 in
    rw (p.1, p.2) (answers_no_memory (refusal_of c.args.bytes.now) c.args.bytes.now c.args.steps c.in_ok-program.program c.in_ok-program.ensures)

pub returns : goal.returns
returns c = answers_run (refusal_of c.args.bytes.now) c.args.bytes.now c.args.steps c.in_ok-program.program _ _ _ c.in_ok-program.ensures (ap (run_of c.args.steps) (sym c.in_ok-image.ensures.image) ∙ c.in_ok-made.ensures)
