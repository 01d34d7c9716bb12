use Rattle.std.proofs.Common.{◌≡◌, ◌∙◌, ◌++◌, List, ap, cond, subst, sym}
use Rattle.mx_machine.specs.declared.history.Record.{Record}
use Rattle.mx_walk.specs.declared.checkpoints.Stored.{Stored}
use Rattle.mx_walk.specs.declared.positions.Position.{Position}
use Rattle.mx_walk.specs.Checkpoints.{positions_of}
use Rattle.mx_walk.specs.Walks.{IsWalk, Walk, checkpoint_before, shown_to, start_to}
use Rattle.mx_walk.specs.Positions.{IsAt, IsUpTo, is_up_to}
use Rattle.mx_walk.proofs.Walking.{shown_on, stock_by, walk, walked}
use Rattle.mx_walk.proofs.walker.Walker.go_back.Goals as goal

pub invariant_of-result : goal.invariant_of-result
invariant_of-result g c =
    let i = c.self.inside in
    let again = c.in_ok-machine.ensures in
    let there = subst (λ (rs : List Record). IsAt i.machine.kernel.boot rs c.in_ok-machine.from c.in_ok-machine.machine) c.as_slice-passed.ensures.value again.there in
    let e = c.go_on_near-stock.ensures in
    let n = c.go_on_near-stock.new.machine in (
      subst (λ (cs : List Stored). IsWalk n i.config (walk n.kernel.boot i.records.items c.args.to i.last (positions_of cs))) (sym e.along)
          (walked i.config i.machine c.in_ok-machine.machine n i.records.items c.as_slice-passed.result.now i.here i.last c.args.to c.go_on_near-stock.result.0 c.in_ok-machine.from (positions_of i.stock.along.items)
          c.self.invariant.0 c.as_slice-passed.ensures.value there again.actors (subst (λ (k : Walk). IsUpTo c.args.to k.last) (sym c.self.view_is) c.requires.early) e.there e.halted e.actors),
      stock_by c.in_ok-machine.machine.kernel.boot _ _ _ c.go_on_near-stock.result.1 e.there.booted (sym c.as_slice-passed.ensures.value) e.stock,
    )

pub returns-clause-shown : goal.returns-clause-shown
returns-clause-shown g c =
    let i = c.self.inside in
    let to = c.args.to in
    let again = c.in_ok-machine.ensures in
    let before = g.P.Progress.shown c.args.progress.now in
    let now = g.P.Progress.shown c.show_parts.new.progress in
    let after = g.P.Progress.shown c.go_on_near-stock.new.progress in
    let checkpoints = positions_of i.stock.along.items in
    let there = subst (λ (rs : List Record). IsAt i.machine.kernel.boot rs c.in_ok-machine.from c.in_ok-machine.machine) c.as_slice-passed.ensures.value again.there in
    let start = c.checkpoint_before-start.result in
    let later : IsUpTo start c.in_ok-machine.from = subst (λ (p : Position). IsUpTo p c.in_ok-machine.from) (sym c.checkpoint_before-start.ensures) again.later in
    let starts : start ≡ start_to (walk i.machine.kernel.boot i.records.items i.here i.last checkpoints) to =
    c.checkpoint_before-start.ensures ∙ sym (ap (λ b. cond b i.here (checkpoint_before checkpoints to)) (ap (λ (k : Walk). is_up_to k.here to) c.self.view_is ∙ c.requires.back)) in
    let e = c.go_on_near-stock.ensures in
    subst (λ (k : Walk). after ≡ before ++ shown_to k to) c.self.view_is
    (shown_on i.config i.machine c.in_ok-machine.machine c.go_on_near-stock.new.machine i.records.items c.as_slice-passed.result.now i.here i.last to c.go_on_near-stock.result.0 start c.in_ok-machine.from checkpoints before now after
    c.self.invariant.0 c.as_slice-passed.ensures.value there (subst (λ (k : Walk). IsUpTo to k.last) (sym c.self.view_is) c.requires.early) later again.early e.there e.halted starts c.show_parts.ensures e.shown)
