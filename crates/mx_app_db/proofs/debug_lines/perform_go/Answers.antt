use Rattle.std.proofs.Common.{◌≡◌, ◌++◌, ℕ, List, subst, OnOk}
use Rattle.std.specs.Prelude.{string_bytes}
use Rattle.mx_app_step.specs.Machine.{world_of}
use Rattle.mx_app_db.proofs.AnswerTexts.{run_answer}
use Rattle.mx_app_db.proofs.debug_lines.perform_go.Goals as goal

pub returns-clause-text : goal.returns-clause-text
returns-clause-text c =
    let answer = run_answer (world_of c.args.machine.now) (world_of c.go-run.new.machine) c.args.debugger.now c.args.cpu c.args.steps c.go-run.result c.eip_on-eip.result c.go-run.ensures.gone c.go-run.ensures.stuck c.eip_on-eip.ensures in
    subst (λ (t : List ℕ). OnOk c.push_run.result (string_bytes c.push_run.new.text ≡ string_bytes c.args.text.now ++ t)) answer c.push_run.ensures
