use Rattle.std.proofs.Common.{◌∙◌, ◌+◌, arith}
use Rattle.std.proofs.lemmas.List.{take_more, length-drop}
use Rattle.mx_machine.specs.Machine.{world_of}
use Rattle.mx_machine.proofs.RunningLemmas.{next-answers, next-kept, next-sound, next-world}
use Rattle.mx_machine.proofs.machine.Machine.run.Goals as goal

pub loop-pair-preserved : goal.loop-pair-preserved
loop-pair-preserved c =
    let inv = c.loop-pair.invariant in
    let more = take_more c.args.events.now c.loop-pair.pair-index _ c.loop-pair-test.true in
    record {
      answers = next-answers (world_of c.args.self.now) (world_of c.loop-pair.self) (world_of c.apply-answer.new.self) _ _ _ c.apply-answer.result c.loop-pair.answers.items c.reserve.new.self.items c.add.new.answers.items more inv.world c.apply-answer.ensures.moved inv.answers c.add.ensures.items;
      world = next-world (world_of c.args.self.now) (world_of c.loop-pair.self) (world_of c.apply-answer.new.self) _ _ _ c.apply-answer.result more inv.world c.apply-answer.ensures.moved;
      room = omega (arith, inv.room, c.add.ensures.len, c.add.ensures.room, c.loop-pair-test.true, length-drop c.loop-pair.pair-index c.args.events.now, length-drop (c.loop-pair.pair-index + 1) c.args.events.now);
      kept = next-kept (world_of c.args.self.now) (world_of c.loop-pair.self) (world_of c.apply-answer.new.self) c.args.self.now.kernel c.loop-pair.self.kernel c.apply-answer.new.self.kernel _ _ _ c.apply-answer.result more inv.world c.apply-answer.ensures.moved inv.kept c.apply-answer.ensures.recorded;
      sound = next-sound (world_of c.args.self.now) (world_of c.loop-pair.self) _ _ _ more inv.world inv.sound c.sound.ensures;
      as_many = c.apply-answer.ensures.actors ∙ inv.as_many;
    }
