use Rattle.std.proofs.Common.{arith}
use Rattle.mx_look_page.proofs.JsonLemmas.{read_again}
use Rattle.mx_look_page.proofs.PlainLemmas.{plain_text}
use Rattle.mx_look_page.proofs.json.text_facts.Goals as goal

pub returns-clause-read : goal.returns-clause-read
returns-clause-read c = read_again c.args.bytes.now (λ i. omega (arith, c.type_inv.bytes i))

pub returns-clause-plain : goal.returns-clause-plain
returns-clause-plain c = plain_text c.args.bytes.now (λ i. omega (arith, c.type_inv.bytes i))
