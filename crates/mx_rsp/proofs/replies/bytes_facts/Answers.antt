use Rattle.std.proofs.Common.{arith}
use Rattle.hex.proofs.HexLemmas.{decode_of-encode_lower}
use Rattle.mx_rsp.proofs.replies.bytes_facts.Goals as goal

pub returns : goal.returns
returns c = decode_of-encode_lower c.args.bytes.now (λ i. omega (arith, c.type_inv.bytes i))
