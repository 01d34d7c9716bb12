use Rattle.std.proofs.Common.{◌≡◌, ◌∙◌, take, subst, sym, ap}
use Rattle.mx_walk.proofs.SameRecords.{equal_records}
use Rattle.mx_machine.specs.History.{BootAndHistory}
use Rattle.mx_machine.specs.Machine.{MachineState, world_of}
use Rattle.mx_machine.specs.World.{actors}
use Rattle.mx_walk.specs.Positions.{IsAt}
use Rattle.mx_walk.proofs.checkpoints.store.Goals as goal

pub returns-in-Ok : goal.returns-in-Ok
returns-in-Ok c =
    let m = c.args.machine.now in
    let boot = m.kernel.boot in
    let rs = c.args.records.now in
    let at = c.args.at in
    let is = sym c.in-Ok.ensures in
    let equal = equal_records c.history.result.now (take at.records rs) c.if-ne.ensures in
    let same : m.kernel.history ≡ take at.records rs = ap (λ (k : BootAndHistory). k.history) (sym c.kernel.ensures) ∙ sym c.history.ensures ∙ equal in
    record {
      there = subst (λ (n : MachineState). IsAt boot rs at n) is c.requires.there;
      as_many = subst (λ (n : MachineState). actors (world_of n) ≡ actors boot) is c.requires.actors;
      history = subst (λ (n : MachineState). n.kernel.history ≡ take at.records rs) is same;
    }
