use Rattle.mx_decode.specs.Reading.{reading}
use Rattle.mx_decode.proofs.single.read_any.Goals as goal

pub returns : goal.returns
unfolding reading
returns c = rw c.in_ok-head.ensures c.read_after.ensures
