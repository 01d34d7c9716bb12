use Rattle.std.proofs.Common.{rules, inl, inr, refl}
use Rattle.mx_lex.specs.Tokens.{ends, plain, escape}
use Rattle.mx_lex.proofs.text.quote_at.Goals as goal

pub returns-then-byte-eq34-clause-quote : goal.returns-then-byte-eq34-clause-quote
returns-then-byte-eq34-clause-quote c = (search rules, c.loop-byte.invariant.body _ ends, c.if-byte-eq34.true)

pub loop-byte-preserved-then-byte-ne92 : goal.loop-byte-preserved-then-byte-ne92
loop-byte-preserved-then-byte-ne92 c = record { within = search rules; body = λ b more. c.loop-byte.invariant.body b (plain (search rules) c.if-byte-eq34.false c.if-byte-ne92.true more) }

pub returns-then-ends_at-clause-fault : goal.returns-then-ends_at-clause-fault
returns-then-ends_at-clause-fault c = (search rules, inr (c.loop-byte.at, c.loop-byte.invariant.body _ ends, c.if-byte-ne92.false, refl))

pub returns-then-not-is_escape-clause-fault : goal.returns-then-not-is_escape-clause-fault
returns-then-not-is_escape-clause-fault c = (c.loop-byte.invariant.body _ ends, c.if-byte-ne92.false, search rules, search rules)

pub loop-byte-preserved : goal.loop-byte-preserved
loop-byte-preserved c = record { within = search rules; body = λ b more. c.loop-byte.invariant.body b (escape c.if-byte-ne92.false (search rules) more) }

pub returns-clause-fault : goal.returns-clause-fault
returns-clause-fault c = (search rules, inl (c.loop-byte.invariant.body _ ends))
