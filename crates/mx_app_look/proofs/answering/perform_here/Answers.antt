use Rattle.std.proofs.Common.{refl}
use Rattle.mx_app_look.specs.declared.request.Request.TheVariants.{Help, Messages, Point, Processes, Show, Where, Why}
use Rattle.mx_print_answers.specs.Messages.{delivery_lines}
use Rattle.mx_walk.specs.Walks.{world_here}
use Rattle.mx_app_look.specs.Before.{why_text}
use Rattle.mx_app_look.specs.Answers.{processes_text}
use Rattle.mx_app_look.specs.Verbs.{help_text}
use Rattle.mx_app_look.specs.Places.{place_text}
use Rattle.mx_app_look.specs.Seeking.{point_answer, point_made}
use Rattle.mx_app_look.specs.Showing.{query_text}
use Rattle.mx_app_look.proofs.Making.{made_as}
use Rattle.mx_app_look.proofs.ShownMore.{err_always, grown_none, nothing_shown, stayed_shown, why_asked}
use Rattle.mx_app_look.proofs.answering.perform_here.Goals as goal

pub returns-in-Why-clause-shown : goal.returns-in-Why-clause-shown
returns-in-Why-clause-shown g c = why_asked c.show_why.result c.args.sight c.args.request.now (g.P.Progress.shown c.args.progress.now) (g.P.Progress.shown c.show_why.new.progress) c.in-Why.is c.show_why.ensures.shown

pub returns-in-Point-clause-shown : goal.returns-in-Point-clause-shown
returns-in-Point-clause-shown g c = stayed_shown c.perform_point.result c.args.sight c.args.request.now (Point c.in-Point.request) (g.P.Progress.shown c.args.progress.now) c.in-Point.is refl

pub returns-in-Point-clause-grown : goal.returns-in-Point-clause-grown
returns-in-Point-clause-grown g c = err_always c.perform_point.result _ (grown_none _)

pub returns-in-Where-clause-shown : goal.returns-in-Where-clause-shown
returns-in-Where-clause-shown g c = stayed_shown c.show_place.result c.args.sight c.args.request.now (Where) (g.P.Progress.shown c.args.progress.now) c.in-Where.is refl

pub returns-in-Where-clause-grown : goal.returns-in-Where-clause-grown
returns-in-Where-clause-grown g c = err_always c.show_place.result _ (grown_none _)

pub returns-in-Processes-clause-shown : goal.returns-in-Processes-clause-shown
returns-in-Processes-clause-shown g c = stayed_shown c.show_processes.result c.args.sight c.args.request.now (Processes) (g.P.Progress.shown c.args.progress.now) c.in-Processes.is refl

pub returns-in-Processes-clause-grown : goal.returns-in-Processes-clause-grown
returns-in-Processes-clause-grown g c = err_always c.show_processes.result _ (grown_none _)

pub returns-in-Messages-clause-shown : goal.returns-in-Messages-clause-shown
returns-in-Messages-clause-shown g c = stayed_shown c.show_deliveries.result c.args.sight c.args.request.now (Messages) (g.P.Progress.shown c.args.progress.now) c.in-Messages.is refl

pub returns-in-Messages-clause-grown : goal.returns-in-Messages-clause-grown
returns-in-Messages-clause-grown g c = err_always c.show_deliveries.result _ (grown_none _)

pub returns-in-Show-clause-shown : goal.returns-in-Show-clause-shown
returns-in-Show-clause-shown g c = stayed_shown c.show.result c.args.sight c.args.request.now (Show c.in-Show.query) (g.P.Progress.shown c.args.progress.now) c.in-Show.is refl

pub returns-in-Show-clause-grown : goal.returns-in-Show-clause-grown
returns-in-Show-clause-grown g c = err_always c.show.result _ (grown_none _)

pub returns-in-Help-clause-shown : goal.returns-in-Help-clause-shown
returns-in-Help-clause-shown g c = stayed_shown c.show_help.result c.args.sight c.args.request.now (Help) (g.P.Progress.shown c.args.progress.now) c.in-Help.is refl

pub returns-in-Help-clause-grown : goal.returns-in-Help-clause-grown
returns-in-Help-clause-grown g c = err_always c.show_help.result _ (grown_none _)

pub returns-in-Nothing-clause-shown : goal.returns-in-Nothing-clause-shown
returns-in-Nothing-clause-shown g c = nothing_shown c.say.result c.args.sight c.args.request.now (g.P.Progress.shown c.args.progress.now) c.in-Nothing.is

pub returns-in-Where-clause-made : goal.returns-in-Where-clause-made
returns-in-Where-clause-made g c =
    let s = c.args.sight in
    made_as c.show_place.result s c.args.request.now Where s (place_text s.walker) c.in-Where.is (λ v t e h. (e, h)) c.show_place.ensures.same c.show_place.ensures.text

pub returns-in-Why-clause-made : goal.returns-in-Why-clause-made
returns-in-Why-clause-made g c =
    let s = c.args.sight in
    made_as c.show_why.result s c.args.request.now Why s (why_text s.walker) c.in-Why.is (λ v t e h. (e, h)) c.show_why.ensures.same c.show_why.ensures.text

pub returns-in-Processes-clause-made : goal.returns-in-Processes-clause-made
returns-in-Processes-clause-made g c =
    let s = c.args.sight in
    made_as c.show_processes.result s c.args.request.now Processes s (processes_text (world_here s.walker)) c.in-Processes.is (λ v t e h. (e, h)) c.show_processes.ensures.same c.show_processes.ensures.text

pub returns-in-Messages-clause-made : goal.returns-in-Messages-clause-made
returns-in-Messages-clause-made g c =
    let s = c.args.sight in
    made_as c.show_deliveries.result s c.args.request.now Messages s (delivery_lines (world_here s.walker).table.deliveries) c.in-Messages.is (λ v t e h. (e, h)) c.show_deliveries.ensures.same c.show_deliveries.ensures.text

pub returns-in-Show-clause-made : goal.returns-in-Show-clause-made
returns-in-Show-clause-made g c =
    let s = c.args.sight in
    let p = c.in-Show.query in
    made_as c.show.result s c.args.request.now (Show p) s (query_text s.walker p) c.in-Show.is (λ v t e h. (e, h)) c.show.ensures.same c.show.ensures.text

pub returns-in-Point-clause-made : goal.returns-in-Point-clause-made
returns-in-Point-clause-made g c =
    let s = c.args.sight in
    let p = c.in-Point.request in
    made_as c.perform_point.result s c.args.request.now (Point p) (record s { points = (point_made s p).1 }) (point_answer s p) c.in-Point.is (λ v t e h. (e, h)) c.perform_point.ensures.sight c.perform_point.ensures.text

pub returns-in-Help-clause-made : goal.returns-in-Help-clause-made
returns-in-Help-clause-made g c =
    let s = c.args.sight in
    made_as c.show_help.result s c.args.request.now Help s help_text c.in-Help.is (λ v t e h. (e, h)) c.show_help.ensures.same c.show_help.ensures.text
