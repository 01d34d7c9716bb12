use Rattle.std.proofs.Common.{◌≡◌, ◌∙◌, ◌⊎◌, List, ap, sym, subst}
use Rattle.std.specs.Option.{unwrap_or}
use Rattle.mx_machine.specs.declared.history.Record.{Record}
use Rattle.mx_walk.specs.declared.positions.Position.{Position}
use Rattle.mx_walk.specs.Positions.{IsBefore, IsPosition, IsUpTo, first}
use Rattle.mx_walk.specs.Seeking.{IsLastMarked}
use Rattle.mx_walk.specs.Walks.{Walk}
use Rattle.mx_walk.proofs.Along.{up_trans}
use Rattle.mx_walk.proofs.Backward.{leads_back, then_back}
use Rattle.mx_walk.proofs.walker.Walker.seek_back.Goals as goal

pub go_to-requires-clause-position : goal.go_to-requires-clause-position
go_to-requires-clause-position g c =
    let k = c.args.self in
    let w = c.in_ok-walker.walker in
    let e = c.in_ok-walker.ensures in
    let to : Position = unwrap_or c.in_ok-walker.found first in
    let b = leads_back (g.M.Mark.marks c.args.mark.now) k.boot k.records k.here w.here c.in_ok-walker.found e.marked in
    let records : w.records ≡ k.records = ap (λ (v : Walk). v.records) e.same in
    let position : IsPosition w.records to = subst (λ (rs : List Record). IsPosition rs to) (sym records) b.position in
    subst (λ (p : Position). IsPosition w.records p) (sym c.unwrap_or.ensures) position

pub go_to-requires-clause-early : goal.go_to-requires-clause-early
go_to-requires-clause-early g c =
    let k = c.args.self in
    let w = c.in_ok-walker.walker in
    let e = c.in_ok-walker.ensures in
    let to : Position = unwrap_or c.in_ok-walker.found first in
    let b = leads_back (g.M.Mark.marks c.args.mark.now) k.boot k.records k.here w.here c.in_ok-walker.found e.marked in
    let last : w.last ≡ k.last = ap (λ (v : Walk). v.last) e.same in
    let early : IsUpTo to w.last = subst (λ (q : Position). IsUpTo to q) (sym last) (up_trans to w.here k.last b.early e.early.1) in
    subst (λ (p : Position). IsUpTo p w.last) (sym c.unwrap_or.ensures) early

pub returns-clause-found : goal.returns-clause-found
returns-clause-found g c =
    let k = c.args.self in
    let w = c.in_ok-walker.walker in
    let f = g.M.Mark.marks c.args.mark.now in
    let to : Position = unwrap_or c.in_ok-walker.found first in
    let b = leads_back f k.boot k.records k.here w.here c.in_ok-walker.found c.in_ok-walker.ensures.marked in
    let at : c.in_ok-walker-2.walker.here ≡ to = ap (λ (v : Walk). v.here) c.in_ok-walker-2.ensures.gone ∙ c.unwrap_or.ensures in
    λ met. subst (λ (p : Position). IsLastMarked f k.boot k.records p k.here) (sym at) (b.found (sym c.is_some.ensures ∙ met))

pub returns-clause-nowhere : goal.returns-clause-nowhere
returns-clause-nowhere g c =
    let k = c.args.self in
    let b = leads_back (g.M.Mark.marks c.args.mark.now) k.boot k.records k.here c.in_ok-walker.walker.here c.in_ok-walker.found c.in_ok-walker.ensures.marked in
    λ met.
    let n = b.nowhere (sym c.is_some.ensures ∙ met) in
    (ap (λ (w : Walk). w.here) c.in_ok-walker-2.ensures.gone ∙ c.unwrap_or.ensures ∙ n.0, n.1)

pub returns-clause-shown : goal.returns-clause-shown
returns-clause-shown g c =
    let k = c.args.self in
    let w = c.in_ok-walker.walker in
    let e = c.in_ok-walker.ensures in
    let b = leads_back (g.M.Mark.marks c.args.mark.now) k.boot k.records k.here w.here c.in_ok-walker.found e.marked in
    let back = subst (λ (p : Position). (p ≡ first) ⊎ IsBefore p w.here) (sym c.unwrap_or.ensures) b.back in
    then_back k w c.in_ok-walker-2.walker c.unwrap_or.result (g.P.Progress.shown c.args.progress.now) (g.P.Progress.shown c.look_back.new.progress) (g.P.Progress.shown c.go_to.new.progress)
    e.same c.in_ok-walker-2.ensures.gone e.early.0 back c.look_back.ensures.shown c.in_ok-walker-2.ensures.shown
