use Rattle.std.proofs.Common.{◌∙◌, Bor, Option, sym, ap, arith}
use Rattle.std.specs.Prelude.{option_map}
use Rattle.mx_exec.specs.declared.image.Image.{Image}
use Rattle.mx_machine.specs.Machine.{world_of}
use Rattle.mx_print_answers.proofs.Images.{at_home, none_yet, on_processor}
use Rattle.mx_print_answers.proofs.slot_process.image_in.Goals as goal

pub returns-in-Some : goal.returns-in-Some
returns-in-Some c = on_processor (world_of c.args.machine.now) c.args.slot c.loop-cpu.cpu c.in-Some.image.now c.loop-cpu-test.true c.loop-cpu.invariant (sym c.image_held.ensures ∙ ap (λ (o : Option (Bor Image)). option_map (λ (m : Bor Image). m.now) o) c.in-Some.is)

pub loop-cpu-preserved : goal.loop-cpu-preserved
loop-cpu-preserved c = none_yet (world_of c.args.machine.now) c.args.slot c.loop-cpu.cpu c.loop-cpu.invariant (sym c.image_held.ensures ∙ ap (λ (o : Option (Bor Image)). option_map (λ (m : Bor Image). m.now) o) c.in-None.is)

pub returns : goal.returns
returns c = at_home (world_of c.args.machine.now) c.args.slot c.loop-cpu.cpu _ (omega (arith, c.loop-cpu-test.false, c.loop-cpu.auto.cpu-end)) c.loop-cpu.invariant c.image_at_home.ensures
