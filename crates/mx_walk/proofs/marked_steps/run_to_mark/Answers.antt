use Rattle.mx_machine.specs.World.{HeldProcess}
use Rattle.mx_walk.proofs.Ran.{unwatched_left, unwatched_run}
use Rattle.mx_walk.proofs.marked_steps.run_to_mark.Goals as goal

pub returns-clause-ran : goal.returns-clause-ran
returns-clause-ran g c =
    let run = c.run-made in
    let l : HeldProcess = record { slot = c.args.slot; out = c.args.out.now } in
    unwatched_left (g.M.Mark.marks_step c.args.mark.now) c.args.steps l (λ m o e. c.watches.ensures c.if-watches.false m o e) run.result.0 run.result.1 run.new.self run.ensures.ran

pub returns-clause-searched : goal.returns-clause-searched
returns-clause-searched g c =
    let run = c.run-made in
    let l : HeldProcess = record { slot = c.args.slot; out = c.args.out.now } in
    unwatched_run (g.M.Mark.marks_step c.args.mark.now) c.args.steps l (λ m o e. c.watches.ensures c.if-watches.false m o e) run.result.0 run.result.1 run.new.self run.ensures.ran
