use Rattle.std.proofs.Common.{rules, ◌∙◌, ◌++◌, IfErr, List, Some, ℕ, [], ◌∷◌, ap, inl, inr, sym, arith}
use Rattle.std.proofs.lemmas.Result.{IfErr-weaker, IfOk-weaker}
use Rattle.mx_app_step.specs.Failure.{IsUntyped, IsWanting}
use Rattle.mx_app_look.proofs.SoFar.{broken_off, ended, given_more, none_case, one_more, over, shown_more, some_case}
use Rattle.mx_app_look.proofs.session.converse.Goals as goal

pub returns-in_err-next_line-clause-err : goal.returns-in_err-next_line-clause-err
returns-in_err-next_line-clause-err g c =
    let inv = c.loop.invariant in
    let same = c.in_err-next_line.ensures.failed in
    let untyped : IfErr c.from_residual.result IsUntyped = search rules in
    IfErr-weaker c.from_residual.result IsUntyped _ (λ f h. (inl h, (inv.typed, same ∙ inv.lines), (inv.parts, inv.walked))) untyped

pub returns-in_err-next-clause-err : goal.returns-in_err-next-clause-err
returns-in_err-next-clause-err g c =
    let more = c.in_ok-next_line.ensures.more c.if-not-branch.false in
    let wanting : IfErr c.from_residual-in_err-next.result IsWanting = search rules in
    let given = given_more c.args.session.asks c.args.session.sight c.loop.sight c.loop.counter (g.L.LineReader.given c.args.lines.now) (g.L.LineReader.given c.loop.lines) (g.L.LineReader.given c.next_line.new.lines)
    (g.P.Progress.shown c.args.progress.now) (g.P.Progress.shown c.loop.progress) (g.W.Write.contents c.args.out.now) (g.W.Write.contents c.loop.out) (Some c.next_line.new.line.items) c.loop.invariant more in
    let shown = shown_more c.args.session.asks c.args.session.sight c.loop.sight c.loop.counter (g.L.LineReader.given c.args.lines.now) (g.L.LineReader.given c.loop.lines)
    (g.P.Progress.shown c.args.progress.now) (g.P.Progress.shown c.loop.progress) (g.P.Progress.shown c.reply.new.progress) (g.W.Write.contents c.args.out.now) (g.W.Write.contents c.loop.out) c.loop.invariant c.in_err-next.ensures.grown in
    IfErr-weaker c.from_residual-in_err-next.result IsWanting _ (λ f h. (inr h, given, shown)) wanting

pub returns-in-None-clause-printed : goal.returns-in-None-clause-printed
returns-in-None-clause-printed g c =
    let more = c.in_ok-next_line.ensures.more c.if-not-branch.false ∙ ap (λ (l : List ℕ). g.L.LineReader.given c.loop.lines ++ Some l ∷ []) (sym c.as_slice.ensures.value) in
    let h = none_case c.in_ok-next.field-0 _ _ c.in-None.is c.in_ok-next.ensures.answered in
    ended c.args.session.asks c.args.session.sight c.loop.sight c.loop.counter (g.L.LineReader.given c.args.lines.now) (g.L.LineReader.given c.loop.lines) (g.L.LineReader.given c.next_line.new.lines)
    (g.P.Progress.shown c.args.progress.now) (g.P.Progress.shown c.loop.progress) (g.P.Progress.shown c.reply.new.progress) (g.W.Write.contents c.args.out.now) (g.W.Write.contents c.loop.out) (g.W.Write.contents c.reply.new.out) c.as_slice.result.now c.loop.invariant more h.0 h.1 h.2

pub loop-preserved : goal.loop-preserved
loop-preserved g c =
    let more = c.in_ok-next_line.ensures.more c.if-not-branch.false ∙ ap (λ (l : List ℕ). g.L.LineReader.given c.loop.lines ++ Some l ∷ []) (sym c.as_slice.ensures.value) in
    let h = some_case c.in_ok-next.field-0 c.in-Some.next _ _ c.in-Some.is c.in_ok-next.ensures.answered in
    one_more c.args.session.asks c.args.session.sight c.loop.sight c.in-Some.next c.loop.counter (g.L.LineReader.given c.args.lines.now) (g.L.LineReader.given c.loop.lines) (g.L.LineReader.given c.next_line.new.lines)
    (g.P.Progress.shown c.args.progress.now) (g.P.Progress.shown c.loop.progress) (g.P.Progress.shown c.reply.new.progress) (g.W.Write.contents c.args.out.now) (g.W.Write.contents c.loop.out) (g.W.Write.contents c.reply.new.out) c.as_slice.result.now c.loop.invariant more h.0 h.1

pub returns-then-not-branch-clause-err : goal.returns-then-not-branch-clause-err
returns-then-not-branch-clause-err g c =
    let inv = c.loop.invariant in
    let more = c.in_ok-next_line.ensures.end c.if-not-branch.true in
    let given = given_more c.args.session.asks c.args.session.sight c.loop.sight c.loop.counter (g.L.LineReader.given c.args.lines.now) (g.L.LineReader.given c.loop.lines) (g.L.LineReader.given c.next_line.new.lines)
    (g.P.Progress.shown c.args.progress.now) (g.P.Progress.shown c.loop.progress) (g.W.Write.contents c.args.out.now) (g.W.Write.contents c.loop.out) _ inv more in
    IfErr-weaker c.print_end.result IsWanting _ (λ f h. (inr h, given, (inv.parts, inv.walked))) c.print_end.ensures.err

pub returns-then-not-branch-clause-printed : goal.returns-then-not-branch-clause-printed
returns-then-not-branch-clause-printed g c =
    let more = c.in_ok-next_line.ensures.end c.if-not-branch.true in
    IfOk-weaker c.print_end.result _ _
    (λ r b. over c.args.session.asks c.args.session.sight c.loop.sight c.loop.counter (g.L.LineReader.given c.args.lines.now) (g.L.LineReader.given c.loop.lines) (g.L.LineReader.given c.next_line.new.lines)
    (g.P.Progress.shown c.args.progress.now) (g.P.Progress.shown c.loop.progress) (g.W.Write.contents c.args.out.now) (g.W.Write.contents c.loop.out) (g.W.Write.contents c.print_end.new.out) c.loop.invariant more b) c.print_end.ensures.printed

pub returns-clause-printed : goal.returns-clause-printed
returns-clause-printed g c =
    broken_off c.args.session.asks c.args.session.sight c.loop.sight c.loop.counter (g.L.LineReader.given c.args.lines.now) (g.L.LineReader.given c.loop.lines)
    (g.P.Progress.shown c.args.progress.now) (g.P.Progress.shown c.loop.progress) (g.W.Write.contents c.args.out.now) (g.W.Write.contents c.loop.out) c.loop.invariant (omega (arith, c.loop-test.false, c.loop.auto.counter-end))
