use Rattle.std.proofs.Common.{sym}
use Rattle.mx_decode.specs.Given.{head_seen}
use Rattle.mx_decode.proofs.Map.{bare_none, bare_is, bare_short}
use Rattle.mx_decode.proofs.select.bare.Goals as goal

pub returns-in-None : goal.returns-in-None
returns-in-None c = bare_none (head_seen c.args.head) (sym c.in-None.ensures)

pub returns-then-is_absent : goal.returns-then-is_absent
returns-then-is_absent c = bare_is (head_seen c.args.head) c.in-Some.row.now (sym c.in-Some.ensures) (sym c.if-is_absent.ensures)

pub returns-else-is_absent : goal.returns-else-is_absent
returns-else-is_absent c = bare_short (head_seen c.args.head) c.in-Some.row.now (sym c.in-Some.ensures) (sym c.if-is_absent.ensures)
