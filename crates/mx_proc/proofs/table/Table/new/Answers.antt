use Rattle.mx_proc.proofs.SoundLemmas.{founded}
use Rattle.mx_proc.proofs.table.Table.new.Goals as goal

pub invariant_of-result : goal.invariant_of-result
invariant_of-result c = founded _ c.in_ok-slots.ensures.items c.new-3.ensures c.new-4.ensures c.in_ok-devices.ensures
