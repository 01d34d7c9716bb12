use Rattle.std.proofs.Common.{ℕ, List}
use Rattle.std.proofs.lemmas.Result.{IfOk-weaker}
use Rattle.mx_app_gdb.specs.declared.replying.Reply.{Reply}
use Rattle.mx_app_gdb.specs.declared.stub.Stub.{Stub}
use Rattle.mx_app_gdb.specs.Replied.{IsMovedBy, IsReversed, SaysMoved, text_of}
use Rattle.mx_app_gdb.proofs.Moved.{back_by_step, back_to_halt, says_by}
use Rattle.mx_app_gdb.proofs.replying.reverse.Goals.{then-is_step, else-is_step}
use Rattle.mx_app_gdb.proofs.replying.reverse.Goals as goal

pub returns-clause-replied : goal.returns-clause-replied
returns-clause-replied g c =
    let s = c.args.stub in
    let h = c.in_ok-halts.halts in
    let slot = c.goer-slot.result in
    let way = c.if-is_step.way' in
    let turned : (u : Stub) (text : List ℕ) → IsMovedBy way h s u text → IsReversed c.args.is_step s u text = elim c.if-is_step.branch [
      | then-is_step w ↦ back_by_step c.args.is_step s slot h way w.if-is_step.true c.goer-slot.ensures c.in_ok-halts.ensures.halts w.way'-is
      | else-is_step w ↦ back_to_halt c.args.is_step s slot h way w.if-is_step.false c.goer-slot.ensures c.in_ok-halts.ensures.halts w.way'-is
    ] in
    IfOk-weaker c.move_along.result
    (λ (r : Stub × Reply). SaysMoved (IsMovedBy way h s) r.0 (text_of r.1) r.1.after)
    (λ (r : Stub × Reply). SaysMoved (IsReversed c.args.is_step s) r.0 (text_of r.1) r.1.after)
    (λ (r : Stub × Reply) said. says_by (IsMovedBy way h s) (IsReversed c.args.is_step s) turned r.0 (text_of r.1) r.1.after said) c.move_along.ensures.replied
