use Rattle.std.proofs.Common.{refl, drop}
use Rattle.mx_dis.proofs.Partings.{none_first, cut_one, takes_bytes}
use Rattle.mx_dis.proofs.part.first_part.Goals as goal

pub returns-in-Ok-clause-parting : goal.returns-in-Ok-clause-parting
returns-in-Ok-clause-parting c rest more = ((c.in-Ok.ensures.ok c.in-Ok.insn c.in-Ok.size).0 refl, more)

pub returns-in-Ok-clause-least : goal.returns-in-Ok-clause-least
returns-in-Ok-clause-least c = takes_bytes c.args.bytes.now c.in-Ok.size c.in-Ok.insn ((c.in-Ok.ensures.ok c.in-Ok.insn c.in-Ok.size).0 refl)

pub returns-in-Ok-clause-within : goal.returns-in-Ok-clause-within
returns-in-Ok-clause-within c = ((c.in-Ok.ensures.ok c.in-Ok.insn c.in-Ok.size).0 refl).0

pub returns-in-Err-clause-parting : goal.returns-in-Err-clause-parting
returns-in-Err-clause-parting c rest more =
    (drop 1 c.args.bytes.now, cut_one c.args.bytes.now c.requires, none_first c.in-Err.field-0 c.in-Err.ensures.not_in_table c.in-Err.ensures.short, more)

pub returns-in-Ok-clause-part : goal.returns-in-Ok-clause-part
returns-in-Ok-clause-part c = (c.in-Ok.ensures.ok c.in-Ok.insn c.in-Ok.size).0 refl

pub returns-in-Err-clause-part : goal.returns-in-Err-clause-part
returns-in-Err-clause-part c =
    (drop 1 c.args.bytes.now, cut_one c.args.bytes.now c.requires, none_first c.in-Err.field-0 c.in-Err.ensures.not_in_table c.in-Err.ensures.short)
