use Rattle.std.proofs.Common.{ℕ, IfOk, Vec, Global, ap, refl, subst, sym}
use Rattle.mx_app_look.specs.declared.request.Request.{Request}
use Rattle.mx_app_look.specs.declared.request.Request.TheVariants.{Back, Continue, Forward, GoTo, Reverse, Step, StepBack, Until, UntilBack}
use Rattle.mx_app_look.specs.declared.sight.Sight.{Sight}
use Rattle.mx_walk.specs.declared.positions.Position.{Position}
use Rattle.mx_walk.specs.Walks.{shown_to}
use Rattle.mx_app_look.specs.Answers.{IsMade, after, request_text, to_of}
use Rattle.mx_app_look.proofs.Making.{made_as, made_there}
use Rattle.mx_app_look.proofs.ShownMore.{asked_shown, moved_shown}
use Rattle.mx_app_look.proofs.answering.perform.Goals as goal

pub returns-in-Forward-clause-shown : goal.returns-in-Forward-clause-shown
returns-in-Forward-clause-shown g c =
    let s = c.args.sight in
    moved_shown c.go_to.result s c.args.request.now (Forward c.in-Forward.count) c.forward_from-to.result (g.P.Progress.shown c.args.progress.now) (g.P.Progress.shown c.go_to.new.progress) c.in-Forward.is (ap (λ (p : Position). shown_to s.walker p) c.forward_from-to.ensures.value) c.go_to.ensures.shown

pub returns-in-Back-clause-shown : goal.returns-in-Back-clause-shown
returns-in-Back-clause-shown g c =
    let s = c.args.sight in
    moved_shown c.go_to-in-Back.result s c.args.request.now (Back c.in-Back.count) c.back_from-to.result (g.P.Progress.shown c.args.progress.now) (g.P.Progress.shown c.go_to-in-Back.new.progress) c.in-Back.is (ap (λ (p : Position). shown_to s.walker p) c.back_from-to.ensures.value) c.go_to-in-Back.ensures.shown

pub returns-in-Step-clause-shown : goal.returns-in-Step-clause-shown
returns-in-Step-clause-shown g c =
    let s = c.args.sight in
    moved_shown c.go_to-in-Step.result s c.args.request.now (Step c.in-Step.count) c.steps_on-to.result (g.P.Progress.shown c.args.progress.now) (g.P.Progress.shown c.go_to-in-Step.new.progress) c.in-Step.is (ap (λ (p : Position). shown_to s.walker p) c.steps_on-to.ensures.value) c.go_to-in-Step.ensures.shown

pub returns-in-StepBack-clause-shown : goal.returns-in-StepBack-clause-shown
returns-in-StepBack-clause-shown g c =
    let s = c.args.sight in
    moved_shown c.go_to-in-StepBack.result s c.args.request.now (StepBack c.in-StepBack.count) c.steps_back-to.result (g.P.Progress.shown c.args.progress.now) (g.P.Progress.shown c.go_to-in-StepBack.new.progress) c.in-StepBack.is (ap (λ (p : Position). shown_to s.walker p) c.steps_back-to.ensures.value) c.go_to-in-StepBack.ensures.shown

pub returns-in-GoTo-clause-shown : goal.returns-in-GoTo-clause-shown
returns-in-GoTo-clause-shown g c =
    let s = c.args.sight in
    let q : Request = GoTo c.in-GoTo.asked in
    moved_shown c.go_to_asked.result s c.args.request.now q (to_of s.walker q) (g.P.Progress.shown c.args.progress.now) (g.P.Progress.shown c.go_to_asked.new.progress) c.in-GoTo.is refl c.go_to_asked.ensures.shown

pub returns-in-Until-clause-shown : goal.returns-in-Until-clause-shown
returns-in-Until-clause-shown g c =
    let s = c.args.sight in
    let q : Request = Until c.in-Until.happening in
    moved_shown c.go_until.result s c.args.request.now q (to_of s.walker q) (g.P.Progress.shown c.args.progress.now) (g.P.Progress.shown c.go_until.new.progress) c.in-Until.is refl c.go_until.ensures.shown

pub returns-in-Continue-clause-shown : goal.returns-in-Continue-clause-shown
returns-in-Continue-clause-shown g c = asked_shown c.go_on.result c.args.sight c.args.request.now Continue (g.P.Progress.shown c.args.progress.now) (g.P.Progress.shown c.go_on.new.progress) c.in-Continue.is c.go_on.ensures.shown

pub returns-in-Reverse-clause-shown : goal.returns-in-Reverse-clause-shown
returns-in-Reverse-clause-shown g c = asked_shown c.go_back.result c.args.sight c.args.request.now Reverse (g.P.Progress.shown c.args.progress.now) (g.P.Progress.shown c.go_back.new.progress) c.in-Reverse.is c.go_back.ensures.shown

pub returns-in-UntilBack-clause-shown : goal.returns-in-UntilBack-clause-shown
returns-in-UntilBack-clause-shown g c = asked_shown c.go_until_back.result c.args.sight c.args.request.now (UntilBack c.in-UntilBack.happening) (g.P.Progress.shown c.args.progress.now) (g.P.Progress.shown c.go_until_back.new.progress) c.in-UntilBack.is c.go_until_back.ensures.shown

pub returns-in-Forward-clause-made : goal.returns-in-Forward-clause-made
returns-in-Forward-clause-made g c =
    let s = c.args.sight in
    let p : Request = Forward c.in-Forward.count in
    made_there c.go_to.result s c.args.request.now p c.forward_from-to.result (to_of s.walker p) c.in-Forward.is c.forward_from-to.ensures.value (λ v t e h. (e, h)) c.go_to.ensures.sight c.go_to.ensures.text

pub returns-in-Back-clause-made : goal.returns-in-Back-clause-made
returns-in-Back-clause-made g c =
    let s = c.args.sight in
    let p : Request = Back c.in-Back.count in
    made_there c.go_to-in-Back.result s c.args.request.now p c.back_from-to.result (to_of s.walker p) c.in-Back.is c.back_from-to.ensures.value (λ v t e h. (e, h)) c.go_to-in-Back.ensures.sight c.go_to-in-Back.ensures.text

pub returns-in-Step-clause-made : goal.returns-in-Step-clause-made
returns-in-Step-clause-made g c =
    let s = c.args.sight in
    let p : Request = Step c.in-Step.count in
    made_there c.go_to-in-Step.result s c.args.request.now p c.steps_on-to.result (to_of s.walker p) c.in-Step.is c.steps_on-to.ensures.value (λ v t e h. (e, h)) c.go_to-in-Step.ensures.sight c.go_to-in-Step.ensures.text

pub returns-in-StepBack-clause-made : goal.returns-in-StepBack-clause-made
returns-in-StepBack-clause-made g c =
    let s = c.args.sight in
    let p : Request = StepBack c.in-StepBack.count in
    made_there c.go_to-in-StepBack.result s c.args.request.now p c.steps_back-to.result (to_of s.walker p) c.in-StepBack.is c.steps_back-to.ensures.value (λ v t e h. (e, h)) c.go_to-in-StepBack.ensures.sight c.go_to-in-StepBack.ensures.text

pub returns-in-GoTo-clause-made : goal.returns-in-GoTo-clause-made
returns-in-GoTo-clause-made g c =
    let s = c.args.sight in
    let p : Request = GoTo c.in-GoTo.asked in
    made_as c.go_to_asked.result s c.args.request.now p (record s { walker = after s.walker p }) (request_text s.walker p) c.in-GoTo.is (λ v t e h. (e, h)) c.go_to_asked.ensures.sight c.go_to_asked.ensures.text

pub returns-in-Until-clause-made : goal.returns-in-Until-clause-made
returns-in-Until-clause-made g c =
    let s = c.args.sight in
    let p : Request = Until c.in-Until.happening in
    made_as c.go_until.result s c.args.request.now p (record s { walker = after s.walker p }) (request_text s.walker p) c.in-Until.is (λ v t e h. (e, h)) c.go_until.ensures.sight c.go_until.ensures.text

pub returns-in-Continue-clause-made : goal.returns-in-Continue-clause-made
returns-in-Continue-clause-made g c =
    let s = c.args.sight in
    subst (λ (q : Request). IfOk c.go_on.result (λ (r : Sight × Vec ℕ Global). IsMade s q r.0 r.1.items)) (sym c.in-Continue.is) c.go_on.ensures.halted

pub returns-in-Reverse-clause-made : goal.returns-in-Reverse-clause-made
returns-in-Reverse-clause-made g c =
    let s = c.args.sight in
    subst (λ (q : Request). IfOk c.go_back.result (λ (r : Sight × Vec ℕ Global). IsMade s q r.0 r.1.items)) (sym c.in-Reverse.is) c.go_back.ensures.halted

pub returns-in-UntilBack-clause-made : goal.returns-in-UntilBack-clause-made
returns-in-UntilBack-clause-made g c =
    let s = c.args.sight in
    subst (λ (q : Request). IfOk c.go_until_back.result (λ (r : Sight × Vec ℕ Global). IsMade s q r.0 r.1.items)) (sym c.in-UntilBack.is) c.go_until_back.ensures.gone
