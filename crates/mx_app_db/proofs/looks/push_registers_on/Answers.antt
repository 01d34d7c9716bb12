use Rattle.std.proofs.Common.{◌≡◌, ◌++◌, Option, subst, OnOk}
use Rattle.std.specs.Prelude.{string_bytes}
use Rattle.mx_exec.specs.declared.image.Image.{Image}
use Rattle.mx_app_step.specs.Machine.{world_of}
use Rattle.mx_machine.specs.World.{held_by}
use Rattle.mx_print_answers.specs.Processes.{registers_text}
use Rattle.mx_app_db.proofs.AnswerTexts.{image_answer}
use Rattle.mx_app_db.proofs.looks.push_registers_on.Goals as goal

pub returns : goal.returns
returns c =
    subst (λ (x : Option Image). OnOk c.push_process.result (string_bytes c.push_process.new.out ≡ string_bytes c.args.text.now ++ registers_text x))
    (image_answer c.image.result (held_by (world_of c.args.machine.now) c.args.cpu) c.image.ensures) c.push_process.ensures
