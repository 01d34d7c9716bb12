use Rattle.std.proofs.Common.{subst}
use Rattle.std.proofs.lemmas.Result.{IfOk-weaker}
use Rattle.mx_walk.specs.Seeking.{IsLastMarked, IsPassed}
use Rattle.mx_walk.specs.Positions.{first}
use Rattle.mx_app_look.specs.declared.happening.Happening.{Happening}
use Rattle.mx_app_look.specs.Happenings.{is_happening}
use Rattle.mx_app_look.proofs.ShownMore.{err_weaker, grown_either}
use Rattle.mx_app_look.proofs.going_until.seek_back.Goals as goal

pub returns-clause-found : goal.returns-clause-found
returns-clause-found g c =
    let k = c.args.walker in
    IfOk-weaker c.seek_back.result _ _ (λ back found is. subst (λ (h : Happening). IsLastMarked (is_happening h) k.boot k.records back.0.here k.here) c.new-mark.ensures (found is)) c.seek_back.ensures.found

pub returns-clause-nowhere : goal.returns-clause-nowhere
returns-clause-nowhere g c =
    let k = c.args.walker in
    IfOk-weaker c.seek_back.result _ _ (λ back nowhere isnt. let n = nowhere isnt in (n.0, subst (λ (h : Happening). IsPassed (is_happening h) k.boot k.records first k.here) c.new-mark.ensures n.1)) c.seek_back.ensures.nowhere

pub returns-clause-grown : goal.returns-clause-grown
returns-clause-grown g c = err_weaker c.seek_back.result _ _ (λ e. grown_either _ _ _ e) c.seek_back.ensures.unshown
