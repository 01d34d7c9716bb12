use Rattle.std.proofs.Common.{◌+◌, ◌/◌, refl}
use Rattle.mx_mem.proofs.Paged.{made}
use Rattle.mx_mem.proofs.segment.Segment.new.Goals as goal

pub invariant_of-result : goal.invariant_of-result
invariant_of-result c = rw c.new.ensures (made c.args.limit ((c.args.limit + 4095) / 4096) c.in_ok-pages.pages.items c.in_ok-pages.ensures refl).1

pub returns : goal.returns
returns c = rw c.new.ensures (made c.args.limit ((c.args.limit + 4095) / 4096) c.in_ok-pages.pages.items c.in_ok-pages.ensures refl).0
