use Rattle.mx_decode.specs.Given.{head_seen}
use Rattle.mx_decode.proofs.Agrees.{row_fits, operands_same}
use Rattle.mx_decode.proofs.single.read_after.Goals as goal

pub operands-requires-clause-first : goal.operands-requires-clause-first
operands-requires-clause-first c = (row_fits (head_seen c.args.head) c.args.bytes.now c.in_ok-row.row.now c.in_ok-row.ensures).first

pub operands-requires-clause-step : goal.operands-requires-clause-step
operands-requires-clause-step c = (row_fits (head_seen c.args.head) c.args.bytes.now c.in_ok-row.row.now c.in_ok-row.ensures).step

pub operands-requires-clause-number : goal.operands-requires-clause-number
operands-requires-clause-number c = (row_fits (head_seen c.args.head) c.args.bytes.now c.in_ok-row.row.now c.in_ok-row.ensures).number

pub operands-requires-clause-narrow : goal.operands-requires-clause-narrow
operands-requires-clause-narrow c = (row_fits (head_seen c.args.head) c.args.bytes.now c.in_ok-row.row.now c.in_ok-row.ensures).narrow

pub returns : goal.returns
returns c = rw (c.in_ok-row.ensures, ← operands_same (head_seen c.args.head) c.in_ok-row.row.now c.args.bytes.now) c.operands.ensures
