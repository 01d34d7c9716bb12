-- What `{:08x}` writes of a number of 32 bits.
use Rattle.mx_insn_words.proofs.Padding.{padded_to_eight}
use Rattle.mx_insn_words.proofs.number.push_eight_digits.Goals as goal

pub returns : goal.returns
returns c = rw (← padded_to_eight) (rw (c.laid_out.ensures, c.in_radix.ensures) at c.write.ensures.bytes)
