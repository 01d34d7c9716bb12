use Rattle.std.proofs.Common.{◌≡◌, arith, subst, length}
use Rattle.mx_text.specs.Lines.{lines}
use Rattle.mx_boot.specs.Reading.{TellsUnread}
use Rattle.mx_boot.specs.Log.{record_line}
use Rattle.mx_boot.proofs.Faults.{unread_few}
use Rattle.mx_boot.proofs.logs.read_records.Goals as goal

pub overflow_add-result : goal.overflow_add-result
overflow_add-result c =
    let unread = subst (TellsUnread (record_line c.args.actors) (lines c.split_rules-rules.result.1.now)) c.in-Err-BadRecord.field-0-is c.in-Err-BadRecord.ensures.unread in
    let few = unread_few (record_line c.args.actors) c.split_rules-rules.result.1.now c.in-Err-BadRecord.number unread in
    omega (arith, few, c.lines_above.ensures.few, c.split_rules-rules.ensures.fewer, c.as_bytes.ensures.len)
