-- A machine's world has its kernel's table and services.
use Rattle.std.proofs.Common.{◌≡◌, ◌∙◌, ap}
use Rattle.mx_machine.specs.Machine.{MachineState, world_of}
use Rattle.mx_machine.specs.History.{BootAndHistory, replay}
use Rattle.mx_machine.specs.World.{World}

pub same_table : (k : BootAndHistory) (m : MachineState) (w : World) → k ≡ m.kernel → world_of m ≡ w → (replay k).table ≡ w.table
unfolding world_of
same_table k m w e h = ap (λ (x : BootAndHistory). (replay x).table) e ∙ ap (λ (v : World). v.table) h

pub same_services : (k : BootAndHistory) (m : MachineState) (w : World) → k ≡ m.kernel → world_of m ≡ w → (replay k).services ≡ w.services
unfolding world_of
same_services k m w e h = ap (λ (x : BootAndHistory). (replay x).services) e ∙ ap (λ (v : World). v.services) h
