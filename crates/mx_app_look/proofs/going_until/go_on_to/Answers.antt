use Rattle.std.proofs.Common.{◌∙◌, ◌++◌, cond, ap, sym}
use Rattle.mx_walk.specs.Walks.{shown_to}
use Rattle.mx_app_look.specs.Until.{until_halt}
use Rattle.mx_app_look.proofs.ShownMore.{err_always, grown_by, grown_none}
use Rattle.mx_app_look.proofs.going_until.go_on_to.Goals as goal

pub returns-clause-shown : goal.returns-clause-shown
returns-clause-shown g c =
    let k = c.args.sight.walker in
    c.in_ok-walker.ensures.shown ∙ ap (λ b. g.P.Progress.shown c.args.progress.now ++ shown_to k (cond b (until_halt k c.args.happening).0 k.here)) (sym c.requires)

pub returns-in_err-push_type_note-clause-grown : goal.returns-in_err-push_type_note-clause-grown
returns-in_err-push_type_note-clause-grown g c = err_always c.from_residual.result _ (grown_none _)

pub returns-in_err-walker-clause-grown : goal.returns-in_err-walker-clause-grown
returns-in_err-walker-clause-grown g c = err_always c.from_residual-in_err-walker.result _ c.in_err-walker.ensures.grown

pub returns-in_err-push_place-clause-grown : goal.returns-in_err-push_place-clause-grown
returns-in_err-push_place-clause-grown g c = err_always c.from_residual-in_err-push_place.result _ (grown_by _ _ _ c.in_ok-walker.ensures.shown)
