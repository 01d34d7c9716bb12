use Rattle.std.proofs.Common.{◌∙◌, ◌&&◌, ap, not, sym}
use Rattle.mx_machine.specs.Move.{at_stop}
use Rattle.mx_machine.specs.World.{HeldProcess}
use Rattle.mx_app_gdb.proofs.Stepped.{at_any}
use Rattle.mx_app_gdb.proofs.going_back.is_at_break.Goals as goal

pub returns-then-has_breakpoint : goal.returns-then-has_breakpoint
returns-then-has_breakpoint c =
    let l : HeldProcess = record { slot = c.args.slot; out = c.args.out.now } in
    ap not c.at_stop.ensures.value
    ∙ sym (at_any l c.args.halts.now.points.breakpoints ∙ ap (λ b. b && not (at_stop l.out)) (sym c.has_breakpoint.ensures ∙ c.if-has_breakpoint.true))

pub returns-else-has_breakpoint : goal.returns-else-has_breakpoint
returns-else-has_breakpoint c =
    let l : HeldProcess = record { slot = c.args.slot; out = c.args.out.now } in
    c.if-has_breakpoint.false
    ∙ sym (at_any l c.args.halts.now.points.breakpoints ∙ ap (λ b. b && not (at_stop l.out)) (sym c.has_breakpoint.ensures ∙ c.if-has_breakpoint.false))
