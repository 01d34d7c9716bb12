use Rattle.std.proofs.Common.{◌∙◌, ◌++◌, cond, ap, sym}
use Rattle.mx_walk.specs.Walks.{shown_to}
use Rattle.mx_walk.specs.Moves.{can_go, position_asked}
use Rattle.mx_walk.proofs.Staying.{stays_shown}
use Rattle.mx_walk.proofs.destinations.go_to_asked.Goals as goal

pub returns-clause-shown : goal.returns-clause-shown
returns-clause-shown g c =
    let k = c.args.walker in
    let before = g.P.Progress.shown c.args.progress.now in
    stays_shown k before
    ∙ ap (λ b. before ++ shown_to k (cond b (position_asked k c.args.asked) k.here)) (sym (ap (λ p. can_go k p) (sym c.position_asked-to.ensures) ∙ sym c.can_go.ensures.value ∙ c.if-can_go.false))
