use Rattle.std.proofs.Common.{sym, ap, ◌∙◌}
use Rattle.mx_boot.specs.Log.{is_ended}
use Rattle.mx_boot.proofs.Unended.{read_ended, told_ended}
use Rattle.mx_boot.proofs.logs.read_log.Goals as goal

pub returns-then-is_ended-clause-history : goal.returns-then-is_ended-clause-history
returns-then-is_ended-clause-history c =
    read_ended (λ p. p.0) (λ p. p.1.items) c.args.actors c.args.text.now c.read_records-read.result
    c.read_records-read.ensures.rules c.read_records-read.ensures.read
    (ap is_ended (sym c.as_bytes-bytes.ensures.value) ∙ sym c.is_ended.ensures ∙ c.if-is_ended.true)

pub returns-then-is_ended-clause-fault : goal.returns-then-is_ended-clause-fault
returns-then-is_ended-clause-fault c =
    told_ended c.args.actors c.args.text.now c.read_records-read.result
    c.read_records-read.ensures.unread
    (ap is_ended (sym c.as_bytes-bytes.ensures.value) ∙ sym c.is_ended.ensures ∙ c.if-is_ended.true)
