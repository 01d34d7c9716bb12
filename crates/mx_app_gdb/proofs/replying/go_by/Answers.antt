use Rattle.std.proofs.Common.{◌∙◌, ℕ, List, sym}
use Rattle.std.proofs.lemmas.Result.{IfOk-weaker}
use Rattle.mx_app_gdb.specs.declared.replying.Reply.{Reply}
use Rattle.mx_app_gdb.specs.declared.replying.Way.TheVariants.{On, Step}
use Rattle.mx_app_gdb.specs.declared.stub.Stub.{Stub}
use Rattle.mx_app_gdb.specs.Replied.{IsMovedBy, IsResumed, SaysMoved, text_of}
use Rattle.mx_app_gdb.specs.Threads.{read_by}
use Rattle.mx_app_gdb.proofs.Moved.{resumed_by_step, resumed_on, says_by}
use Rattle.mx_app_gdb.proofs.replying.go_by.Goals as goal

pub returns-then-continues-clause-replied : goal.returns-then-continues-clause-replied
returns-then-continues-clause-replied g c =
    let s = c.args.stub in
    let h = c.in_ok-halts.halts in
    let r = c.args.resumed in
    let o = read_by s.threads r.first.who in
    let turned : (u : Stub) (text : List ℕ) → IsMovedBy On h s u text → IsResumed s r o u text =
    resumed_on r s o c.in-Some.slot h (sym c.read_by.ensures ∙ c.in-Some.is) (sym c.continues.ensures ∙ c.if-continues.true) c.in_ok-halts.ensures.halts in
    IfOk-weaker c.move_along.result
    (λ (x : Stub × Reply). SaysMoved (IsMovedBy On h s) x.0 (text_of x.1) x.1.after)
    (λ (x : Stub × Reply). SaysMoved (IsResumed s r o) x.0 (text_of x.1) x.1.after)
    (λ (x : Stub × Reply) said. says_by (IsMovedBy On h s) (IsResumed s r o) turned x.0 (text_of x.1) x.1.after said) c.move_along.ensures.replied

pub returns-clause-replied : goal.returns-clause-replied
returns-clause-replied g c =
    let s = c.args.stub in
    let h = c.in_ok-halts-2.halts in
    let r = c.args.resumed in
    let o = read_by s.threads r.first.who in
    let way = Step c.in-Some.slot c.range_of.result in
    let turned : (u : Stub) (text : List ℕ) → IsMovedBy way h s u text → IsResumed s r o u text =
    resumed_by_step r s o c.in-Some.slot h (sym c.read_by.ensures ∙ c.in-Some.is) c.range_of.result (sym c.continues.ensures ∙ c.if-continues.false)
    c.in_ok-halts-2.ensures.halts c.range_of.ensures in
    IfOk-weaker c.move_along-2.result
    (λ (x : Stub × Reply). SaysMoved (IsMovedBy way h s) x.0 (text_of x.1) x.1.after)
    (λ (x : Stub × Reply). SaysMoved (IsResumed s r o) x.0 (text_of x.1) x.1.after)
    (λ (x : Stub × Reply) said. says_by (IsMovedBy way h s) (IsResumed s r o) turned x.0 (text_of x.1) x.1.after said) c.move_along-2.ensures.replied
