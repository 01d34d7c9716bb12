use Rattle.std.proofs.Common.{◌≡◌, subst}
use Rattle.mx_machine.specs.Machine.{world_of}
use Rattle.mx_machine.specs.World.{HeldProcess, held_by}
use Rattle.mx_walk.specs.Running.{HasRun, steps_to_mark}
use Rattle.mx_walk.proofs.Apart.{few_processors, is_alone, marked_then, none_held_by, none_marked, slot_is}
use Rattle.mx_walk.proofs.Stepping.{none_held, stop_refused}
use Rattle.mx_walk.proofs.marked_steps.make_steps_to_mark.Goals as goal

pub returns-in-None-clause-halted : goal.returns-in-None-clause-halted
returns-in-None-clause-halted g c = λ _ _.
    let w = world_of c.args.machine.now in
    none_held w c.args.cpu (none_held_by c.slot_on.result (held_by w c.args.cpu) c.in-None.is c.slot_on.ensures)

pub returns-in-Ok-clause-halted : goal.returns-in-Ok-clause-halted
returns-in-Ok-clause-halted g c = λ no fewer.
    let w = world_of c.args.machine.now in
    let o = c.in-Ok.ensures.ok in
    let f = g.M.Mark.marks_step c.args.mark.now in
    stop_refused w (world_of c.work.new.self) c.args.cpu (steps_to_mark f c.args.steps (record { slot = c.in-Some.slot; out = o.0.out })) o.0 o.1 (o.2.3.halted no fewer)

pub returns-in-Ok-clause-passed : goal.returns-in-Ok-clause-passed
returns-in-Ok-clause-passed g c = λ no.
    let w = world_of c.args.machine.now in
    let o = c.in-Ok.ensures.ok in
    let l : HeldProcess = o.0 in
    let f = g.M.Mark.marks_step c.args.mark.now in
    let searched = c.work.new.tool.searched in
    let slot : c.in-Some.slot ≡ l.slot = slot_is c.slot_on.result (held_by w c.args.cpu) c.in-Some.slot l c.in-Some.is c.slot_on.ensures o.1.held in
    let run : HasRun f c.args.steps l searched.made searched.is_met = subst (λ s. HasRun f c.args.steps (record { slot = s; out = l.out }) searched.made searched.is_met) slot o.2.3 in
    none_marked (g.M.Mark.marks c.args.mark.now) f (c.steps_are_marked.ensures c.args.mark.now) searched.made w c.args.cpu l
    (is_alone w c.args.cpu l c.sound.ensures (few_processors c.args.machine.now c.facts.ensures) o.1.held) (run.passed no)

pub returns-in-Ok-clause-found : goal.returns-in-Ok-clause-found
returns-in-Ok-clause-found g c = λ yes.
    let w = world_of c.args.machine.now in
    let o = c.in-Ok.ensures.ok in
    let l : HeldProcess = o.0 in
    let f = g.M.Mark.marks_step c.args.mark.now in
    let h = g.M.Mark.marks c.args.mark.now in
    let law = c.steps_are_marked.ensures c.args.mark.now in
    let searched = c.work.new.tool.searched in
    let slot : c.in-Some.slot ≡ l.slot = slot_is c.slot_on.result (held_by w c.args.cpu) c.in-Some.slot l c.in-Some.is c.slot_on.ensures o.1.held in
    let run : HasRun f c.args.steps l searched.made searched.is_met = subst (λ s. HasRun f c.args.steps (record { slot = s; out = l.out }) searched.made searched.is_met) slot o.2.3 in
    let alone = is_alone w c.args.cpu l c.sound.ensures (few_processors c.args.machine.now c.facts.ensures) o.1.held in
    let n = run.found yes in
    (n.0, n.1, none_marked h f law n.0 w c.args.cpu l alone n.2, marked_then h f law n.0 w c.args.cpu l alone n.3)
