-- Two words as one signed number fit 64 bits.
use Rattle.std.proofs.Common.{◌≡◌, ℕ, ◌^◌, ◌<◌, ℤ, pos, ◌+ℤ◌, ◌*ℤ◌, FitsSigned, w64, arith}
use Rattle.std.proofs.lemmas.Int.{ints}
use Rattle.std.proofs.lemmas.Bool.Decides.{nat_tests}
use Rattle.mx_word.specs.Word.{width, signed}
use Rattle.mx_word.specs.declared.size.Size.{Size}
use Rattle.mx_word.specs.declared.size.Size.TheVariants.{Byte, Word, Dword}

pub raised_fits : (s : Size) (h : ℕ) → h < 2 ^ width s → FitsSigned w64 (signed (width s) h *ℤ pos (2 ^ width s))
raised_fits Byte h b = grind (arith, ints, nat_tests)
raised_fits Word h b = grind (arith, ints, nat_tests)
raised_fits Dword h b = grind (arith, ints, nat_tests)

pub joined_fits : (s : Size) (h l : ℕ) → h < 2 ^ width s → l < 2 ^ width s → FitsSigned w64 (signed (width s) h *ℤ pos (2 ^ width s) +ℤ pos l)
joined_fits Byte h l b d = grind (arith, ints, nat_tests)
joined_fits Word h l b d = grind (arith, ints, nat_tests)
joined_fits Dword h l b d = grind (arith, ints, nat_tests)
