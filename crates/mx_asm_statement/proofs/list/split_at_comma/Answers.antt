use Rattle.mx_asm_statement.proofs.Parting.{split_none, split_at_comma}
use Rattle.std.proofs.Common.{arith, sym, ◌∙◌}
use Rattle.mx_asm_statement.proofs.list.split_at_comma.Goals as goal

pub returns-then-is_comma-clause-parts : goal.returns-then-is_comma-clause-parts
returns-then-is_comma-clause-parts c = split_at_comma c.args.items.now c.loop-at.at _ (omega (arith, c.loop-at-test.true)) c.loop-at.invariant.none (sym c.is_comma.ensures ∙ c.if-is_comma.true)

pub returns-clause-parts : goal.returns-clause-parts
returns-clause-parts c = split_none c.args.items.now (λ k l. c.loop-at.invariant.none k (omega (arith, l, c.loop-at-test.false)))
