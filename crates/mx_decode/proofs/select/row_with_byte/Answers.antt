use Rattle.std.proofs.Common.{sym, arith}
use Rattle.mx_decode.specs.Given.{head_seen}
use Rattle.mx_decode.proofs.Map.{followed_none, followed_is}
use Rattle.mx_decode.proofs.select.row_with_byte.Goals as goal

pub returns-in-None : goal.returns-in-None
returns-in-None c rest = followed_none (head_seen c.args.head) c.args.modrm rest (sym c.in-None.ensures)

pub returns-in-Some : goal.returns-in-Some
returns-in-Some c rest = followed_is (head_seen c.args.head) c.args.modrm rest c.in-Some.row.now (omega arith) (sym c.in-Some.ensures)
