-- Operand sizes and opcode maps, as truth values and again.
use Rattle.std.proofs.Common.{◌≡◌, Bool, true, false, refl}
use Rattle.mx_insn.specs.declared.insn.OperandSize.{OperandSize}
use Rattle.mx_insn.specs.declared.insn.OperandSize.TheVariants as operand_sizes
use Rattle.mx_insn.specs.Spelling.{operand_size, is_resized, is_escaped}
use Rattle.mx_encode.specs.Given.{opcode_map}

pub size_again : (s : OperandSize) → operand_size (is_resized s) ≡ s
size_again operand_sizes.Word = refl
size_again operand_sizes.Dword = refl

pub resized_again : (b : Bool) → is_resized (operand_size b) ≡ b
resized_again true = refl
resized_again false = refl

pub escaped_again : (b : Bool) → is_escaped (opcode_map b) ≡ b
escaped_again true = refl
escaped_again false = refl
