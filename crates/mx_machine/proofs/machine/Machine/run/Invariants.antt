use Rattle.std.proofs.Common.{◌≡◌, ◌+◌, ◌≤◌, ◌++◌, length, take, drop}
use Rattle.std.specs.Vec.{vec_len, vec_capacity}
use Rattle.mx_machine.specs.Move.{moves}
use Rattle.mx_machine.specs.World.{actors}
use Rattle.mx_machine.specs.Machine.{AreSound, kept_along, world_of}
use Rattle.mx_machine.proofs.machine.Machine.run.Given as goal

-- the events so far are answered, and there is room for the answers of the others
abbrev pub invariant-loop-pair : goal.invariant-loop-pair
invariant-loop-pair l = record {
  answers : l.answers.items ≡ l.initial.answers.items ++ (moves (world_of l.initial.self) (take l.pair-index l.events)).0;
  world : world_of l.self ≡ (moves (world_of l.initial.self) (take l.pair-index l.events)).1;
  room : vec_len l.answers + length (drop l.pair-index l.events) ≤ vec_capacity l.answers;
  kept : l.self.kernel ≡ kept_along l.initial.self.kernel (take l.pair-index l.events) (moves (world_of l.initial.self) (take l.pair-index l.events)).0;
  sound : AreSound (world_of l.initial.self) (take l.pair-index l.events);
  as_many : actors (world_of l.self) ≡ actors (world_of l.initial.self);
}
