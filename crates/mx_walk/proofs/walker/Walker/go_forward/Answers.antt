use Rattle.std.proofs.Common.{◌≡◌, ◌∙◌, ◌++◌, List, refl, ap, cond, subst, sym}
use Rattle.mx_machine.specs.declared.history.Record.{Record}
use Rattle.mx_walk.specs.Checkpoints.{positions_of}
use Rattle.mx_walk.specs.Walks.{Walk, checkpoint_before, shown_to, start_to}
use Rattle.mx_walk.specs.Positions.{IsAt, IsUpTo, is_up_to}
use Rattle.mx_walk.proofs.Walking.{shown_on, stock_by, walk, walked}
use Rattle.mx_walk.proofs.walker.Walker.go_forward.Goals as goal

pub invariant_of-result : goal.invariant_of-result
invariant_of-result g c =
    let i = c.self.inside in
    let further = c.in_ok-machine.ensures in
    let there = subst (λ (rs : List Record). IsAt i.machine.kernel.boot rs c.in_ok-machine.from c.in_ok-machine.machine) c.as_slice-passed.ensures.value further.there in
    let e = c.go_on.ensures in (
      walked i.config i.machine c.in_ok-machine.machine c.go_on.new.machine i.records.items c.as_slice-passed.result.now i.here i.last c.args.to c.go_on.result c.in_ok-machine.from (positions_of i.stock.along.items)
          c.self.invariant.0 c.as_slice-passed.ensures.value there further.actors (subst (λ (k : Walk). IsUpTo c.args.to k.last) (sym c.self.view_is) c.requires.early) e.there e.halted e.actors,
      stock_by i.machine.kernel.boot _ _ _ i.stock (e.there.booted ∙ further.there.booted) refl c.self.invariant.1,
    )

pub returns-clause-shown : goal.returns-clause-shown
returns-clause-shown g c =
    let i = c.self.inside in
    let to = c.args.to in
    let further = c.in_ok-machine.ensures in
    let before = g.P.Progress.shown c.args.progress.now in
    let now = g.P.Progress.shown c.show_parts.new.progress in
    let after = g.P.Progress.shown c.go_on.new.progress in
    let checkpoints = positions_of i.stock.along.items in
    let there = subst (λ (rs : List Record). IsAt i.machine.kernel.boot rs c.in_ok-machine.from c.in_ok-machine.machine) c.as_slice-passed.ensures.value further.there in
    let starts : i.here ≡ start_to (walk i.machine.kernel.boot i.records.items i.here i.last checkpoints) to =
    sym (ap (λ b. cond b i.here (checkpoint_before checkpoints to)) (ap (λ (k : Walk). is_up_to k.here to) c.self.view_is ∙ c.requires.later)) in
    let e = c.go_on.ensures in
    subst (λ (k : Walk). after ≡ before ++ shown_to k to) c.self.view_is
    (shown_on i.config i.machine c.in_ok-machine.machine c.go_on.new.machine i.records.items c.as_slice-passed.result.now i.here i.last to c.go_on.result i.here c.in_ok-machine.from checkpoints before now after
    c.self.invariant.0 c.as_slice-passed.ensures.value there (subst (λ (k : Walk). IsUpTo to k.last) (sym c.self.view_is) c.requires.early) further.later further.early e.there e.halted starts c.show_parts.ensures e.shown)
