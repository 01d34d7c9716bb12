use Rattle.std.proofs.Common.{◌∙◌, Option, ap, map, sym}
use Rattle.mx_machine.specs.Machine.{world_of}
use Rattle.mx_machine.specs.World.{HeldProcess, held_by}
use Rattle.mx_walk.specs.Stopping.{stands_at_any}
use Rattle.mx_walk.proofs.Apart.{none_held_by}
use Rattle.mx_app_look.specs.Marks.{code_place}
use Rattle.mx_app_gdb.proofs.Stepped.{none_stands}
use Rattle.mx_app_gdb.proofs.going_back.stands_at_break.Goals as goal

pub returns-in_default-2 : goal.returns-in_default-2
returns-in_default-2 c =
    let bs = c.args.halts.now.points.breakpoints in
    let none = none_held_by c.slot_on.result (held_by (world_of c.args.machine.now) c.args.cpu) c.in_default.is-0 c.slot_on.ensures in
    sym (ap (λ (o : Option HeldProcess). stands_at_any o (map code_place bs)) none ∙ none_stands bs)
