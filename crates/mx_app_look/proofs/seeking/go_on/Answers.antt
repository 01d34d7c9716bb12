use Rattle.std.proofs.Common.{◌∙◌, string_bytes, sym}
use Rattle.mx_app_look.specs.Searches.{IsNextHalt}
use Rattle.mx_app_look.specs.Seeking.{IsGoneOn}
use Rattle.mx_app_look.specs.Shows.{IsNextShown}
use Rattle.mx_app_look.proofs.Halted.{gone_if, halted_by, ungone}
use Rattle.mx_app_look.proofs.ShownMore.{err_always, grown_by, grown_none, ok_always, shown_if, unshown_if}
use Rattle.mx_app_look.proofs.seeking.go_on.Goals as goal

pub returns-then-not-has_points-clause-halted : goal.returns-then-not-has_points-clause-halted
returns-then-not-has_points-clause-halted g c = ungone IsGoneOn c.args.sight c.say.result (sym c.has_points.ensures ∙ c.if-not-has_points.true) c.say.ensures.same c.say.ensures.text

pub returns-then-not-has_points-clause-shown : goal.returns-then-not-has_points-clause-shown
returns-then-not-has_points-clause-shown g c =
    let s = c.args.sight in
    unshown_if c.say.result _ (IsNextShown s.walker s.points) (g.P.Progress.shown c.args.progress.now) (sym c.has_points.ensures ∙ c.if-not-has_points.true)

pub returns-then-not-has_points-clause-grown : goal.returns-then-not-has_points-clause-grown
returns-then-not-has_points-clause-grown g c = err_always c.say.result _ (grown_none _)

pub returns-clause-halted : goal.returns-clause-halted
returns-clause-halted g c =
    let s = c.args.sight in
    gone_if IsGoneOn s c.show_halt.result (sym c.has_points.ensures ∙ c.if-not-has_points.false)
    (halted_by s c.in_ok-walker.walker (string_bytes c.in_ok-walker.found) (IsNextHalt s.walker s.points) c.show_halt.result c.in_ok-walker.ensures.walker c.in_ok-walker.ensures.halt c.show_halt.ensures.same c.show_halt.ensures.text)

pub returns-clause-shown : goal.returns-clause-shown
returns-clause-shown g c =
    let s = c.args.sight in
    shown_if c.show_halt.result _ (IsNextShown s.walker s.points) _ _ (sym c.has_points.ensures ∙ c.if-not-has_points.false) (ok_always c.show_halt.result _ c.in_ok-walker.ensures.shown)

pub returns-in_err-walker-clause-grown : goal.returns-in_err-walker-clause-grown
returns-in_err-walker-clause-grown g c = err_always c.from_residual.result _ c.in_err-walker.ensures.grown

pub returns-clause-grown : goal.returns-clause-grown
returns-clause-grown g c = let shown = c.in_ok-walker.ensures.shown in err_always c.show_halt.result _ (grown_by _ _ _ shown.1)
