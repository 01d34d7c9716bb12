use Rattle.std.proofs.Common.{◌∙◌, ◌<◌, All, ap, length, subst, sym}
use Rattle.std.specs.Prelude.{IfSome}
use Rattle.mx_machine.specs.declared.history.Record.{Record}
use Rattle.mx_machine.specs.World.{World, actors}
use Rattle.mx_walk.specs.Checkpoints.{IsStored}
use Rattle.mx_walk.specs.Positions.{HasHalted, IsAt}
use Rattle.mx_walk.proofs.Along.{up_trans}
use Rattle.mx_walk.proofs.Arriving.{halted_up}
use Rattle.mx_walk.proofs.PartsShown.{then_between}
use Rattle.mx_walk.proofs.Shown.{records_up}
use Rattle.mx_walk.proofs.resuming.go_on_by.Goals as goal

pub store-stored-requires-clause-there : goal.store-stored-requires-clause-there
store-stored-requires-clause-there g c =
    let e = c.go_on-there.ensures.there in
    subst (λ (w : World). IsAt w c.args.records.now c.go_on-there.result c.go_on-there.new.machine) (sym e.booted) e

pub store-stored-requires-clause-actors : goal.store-stored-requires-clause-actors
store-stored-requires-clause-actors g c =
    c.go_on-there.ensures.actors ∙ c.requires.many ∙ ap (λ (w : World). actors w) (sym c.go_on-there.ensures.there.booted)

pub go_on-at-requires-clause-actors : goal.go_on-at-requires-clause-actors
go_on-at-requires-clause-actors g c = subst (λ n. All (λ (x : Record). x.actor < n) c.args.records.now) (sym c.go_on-there.ensures.actors) c.requires.actors

pub go_on-at-requires-clause-there : goal.go_on-at-requires-clause-there
go_on-at-requires-clause-there g c =
    let e = c.go_on-there.ensures.there in
    subst (λ (w : World). IsAt w c.args.records.now c.go_on-there.result c.go_on-there.new.machine) (sym e.booted) e

pub go_on-at-requires-clause-later : goal.go_on-at-requires-clause-later
go_on-at-requires-clause-later g c =
    up_trans c.go_on-there.result c.args.by c.args.way.to (halted_up c.args.machine.now.kernel.boot c.args.records.now c.args.by c.go_on-there.result c.go_on-there.ensures.halted) c.requires.early

pub returns-clause-there : goal.returns-clause-there
returns-clause-there g c =
    subst (λ (w : World). IsAt w c.args.records.now c.go_on-at.result c.go_on-at.new.machine) c.go_on-there.ensures.there.booted c.go_on-at.ensures.there

pub returns-clause-halted : goal.returns-clause-halted
returns-clause-halted g c =
    subst (λ (w : World). HasHalted w c.args.records.now c.args.way.to c.go_on-at.result) c.go_on-there.ensures.there.booted c.go_on-at.ensures.halted

pub returns-clause-stored : goal.returns-clause-stored
returns-clause-stored g c =
    subst (λ (w : World). IfSome c.store-stored.result (IsStored w c.args.records.now)) c.go_on-there.ensures.there.booted c.store-stored.ensures

pub returns-clause-shown : goal.returns-clause-shown
returns-clause-shown g c =
    then_between (length c.args.records.now) c.args.way.from.records c.go_on-there.result.records c.go_on-at.result.records _ _ _
    (records_up c.args.way.from c.go_on-there.result c.go_on-there.ensures.later) (records_up c.go_on-there.result c.go_on-at.result c.go_on-at.ensures.later) c.go_on-there.ensures.shown c.go_on-at.ensures.shown
