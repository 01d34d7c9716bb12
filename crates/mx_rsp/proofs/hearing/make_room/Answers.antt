use Rattle.std.proofs.Common.{◌∙◌, sym, arith}
use Rattle.std.specs.Prelude.{nat_le, length}
use Rattle.std.specs.List.{remove}
use Rattle.mx_rsp.proofs.PacketLemmas.{passed}
use Rattle.std.proofs.lemmas.Bool.{lt-leb}
use Rattle.mx_rsp.proofs.hearing.make_room.Goals as goal

pub returns : goal.returns
returns c =
    let front = c.args.front.now.items in
    c.remove.ensures.items ∙ sym (passed (nat_le (length front) 16388) front (remove front 16385) (lt-leb (length front) 16388 (omega (arith, c.if-len.false, c.len.ensures))))
