use Rattle.mx_proc.proofs.CallerLemmas.{none_calls}
use Rattle.mx_proc.proofs.waits.Waits.new.Goals as goal

pub invariant_of-result : goal.invariant_of-result
invariant_of-result c = none_calls _ _ c.new.ensures c.new-2.ensures
