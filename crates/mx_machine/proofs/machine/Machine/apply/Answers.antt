use Rattle.std.proofs.Common.{rules, ◌≡◌, ◌∙◌, ap, sym}
use Rattle.mx_machine.specs.declared.events.Event.TheVariants.{Step, Take, Back}
use Rattle.mx_machine.specs.Machine.{world_of}
use Rattle.mx_machine.specs.World.{actors}
use Rattle.mx_machine.proofs.ActorLemmas.{actors_after_move}
use Rattle.mx_machine.proofs.machine.Machine.apply.Goals as goal

-- src/machine.rt:213:5
pub returns-in-Step-clause-actors : goal.returns-in-Step-clause-actors
returns-in-Step-clause-actors c =
    ap (λ r. actors r.1) (sym c.step.ensures.moved) ∙ actors_after_move (world_of c.args.self.now) c.args.actor Step

-- src/machine.rt:213:5
pub returns-in-Take-clause-actors : goal.returns-in-Take-clause-actors
returns-in-Take-clause-actors c =
    ap (λ r. actors r.1) (sym c.take.ensures.moved) ∙ actors_after_move (world_of c.args.self.now) c.args.actor Take

-- src/machine.rt:213:5
pub returns-in-Back-clause-actors : goal.returns-in-Back-clause-actors
returns-in-Back-clause-actors c =
    ap (λ r. actors r.1) (sym c.back.ensures.moved) ∙ actors_after_move (world_of c.args.self.now) c.args.actor Back

-- src/machine.rt:213:5
pub returns-in_default : goal.returns-in_default
returns-in_default c = record {
  moved = c.rule.ensures.moved;
  recorded = c.rule.ensures.recorded;
  actors =
      ap (λ r. actors r.1) (sym c.rule.ensures.moved)
      ∙ actors_after_move (world_of c.args.self.now) c.args.actor c.args.event;
}
