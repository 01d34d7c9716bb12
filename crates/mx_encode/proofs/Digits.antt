-- Numbers as bytes, and names as numbers: each gives back what it was made of.
use Rattle.std.proofs.Common.{◌≡◌, ℕ, zero, suc, ◌/◌, ◌%◌, ◌^◌, ◌<◌, true, [], ◌∷◌, length, refl, ap, ◌∙◌, arith, lit<}
use Rattle.std.proofs.lemmas.Bool.{eqb-true}
use Rattle.std.proofs.lemmas.List.Elements.{All-nil, All-cons}
use Rattle.mx_word.specs.Word.{value, bytes_of}
use Rattle.mx_word.specs.Names.{register_number, condition_code}
use Rattle.mx_word.specs.declared.names.Register.{Register}
use Rattle.mx_word.specs.declared.names.Register.TheVariants.{Eax, Ecx, Edx, Ebx, Esp, Ebp, Esi, Edi}
use Rattle.mx_word.specs.declared.names.Condition.{Condition}
use Rattle.mx_word.specs.declared.names.Condition.TheVariants.{Overflow, NotOverflow, Below, NotBelow, Zero, NotZero, BelowOrEqual, NotBelowOrEqual, Sign, NotSign, Parity, NotParity, Less, NotLess, LessOrEqual, NotLessOrEqual}
use Rattle.mx_word.specs.declared.names.Arithmetic.{Arithmetic}
use Rattle.mx_word.specs.declared.names.Arithmetic.TheVariants.{Add, Or, Adc, Sbb, And, Sub, Xor, Cmp}
use Rattle.mx_insn.specs.declared.insn.Scale.{Scale}
use Rattle.mx_insn.specs.declared.insn.Scale.TheVariants.{One, Two, Four, Eight}
use Rattle.mx_insn.specs.Spelling.{AreBytes, sign_extended, register, scale, arithmetic, condition}
use Rattle.mx_encode.specs.Numbers.{scale_number, arithmetic_number, is_short}

-- ---- bytes

pub no_bytes : AreBytes []
no_bytes = All-nil (λ b. b < 256)

pub is_one_byte : (n : ℕ) → n < 256 → AreBytes (n ∷ [])
is_one_byte n lt = All-cons (λ b. b < 256) n [] lt no_bytes

pub are_bytes_of : (k n : ℕ) → AreBytes (bytes_of k n)
are_bytes_of zero n = no_bytes
are_bytes_of (suc k) n = All-cons (λ b. b < 256) (n % 256) (bytes_of k (n / 256)) (omega arith) (are_bytes_of k (n / 256))

pub length-bytes_of : (k n : ℕ) → length (bytes_of k n) ≡ k
length-bytes_of zero n = refl
length-bytes_of (suc k) n = ap suc (length-bytes_of k (n / 256))

pub value_1 : (n : ℕ) → value (n ∷ []) ≡ n
value_1 n = omega arith

pub value_2 : (n : ℕ) → n < 2 ^ 16 → value (bytes_of 2 n) ≡ n
value_2 n lt = omega arith

pub value_4 : (n : ℕ) → n < 2 ^ 32 → value (bytes_of 4 n) ≡ n
value_4 n lt = omega arith

pub value_short : (w n : ℕ) → is_short w n ≡ true → sign_extended w (value ((n % 256) ∷ [])) ≡ n
value_short w n h = ap (sign_extended w) (value_1 (n % 256)) ∙ eqb-true (sign_extended w (n % 256)) n h

-- ---- names

pub register_below : (r : Register) → register_number r < 8
register_below Eax = lit< tt
register_below Ecx = lit< tt
register_below Edx = lit< tt
register_below Ebx = lit< tt
register_below Esp = lit< tt
register_below Ebp = lit< tt
register_below Esi = lit< tt
register_below Edi = lit< tt

pub register_again : (r : Register) → register (register_number r) ≡ r
register_again Eax = refl
register_again Ecx = refl
register_again Edx = refl
register_again Ebx = refl
register_again Esp = refl
register_again Ebp = refl
register_again Esi = refl
register_again Edi = refl

pub scale_below : (s : Scale) → scale_number s < 4
scale_below One = lit< tt
scale_below Two = lit< tt
scale_below Four = lit< tt
scale_below Eight = lit< tt

pub scale_again : (s : Scale) → scale (scale_number s) ≡ s
scale_again One = refl
scale_again Two = refl
scale_again Four = refl
scale_again Eight = refl

pub arithmetic_below : (o : Arithmetic) → arithmetic_number o < 8
arithmetic_below Add = lit< tt
arithmetic_below Or = lit< tt
arithmetic_below Adc = lit< tt
arithmetic_below Sbb = lit< tt
arithmetic_below And = lit< tt
arithmetic_below Sub = lit< tt
arithmetic_below Xor = lit< tt
arithmetic_below Cmp = lit< tt

pub arithmetic_again : (o : Arithmetic) → arithmetic (arithmetic_number o) ≡ o
arithmetic_again Add = refl
arithmetic_again Or = refl
arithmetic_again Adc = refl
arithmetic_again Sbb = refl
arithmetic_again And = refl
arithmetic_again Sub = refl
arithmetic_again Xor = refl
arithmetic_again Cmp = refl

pub condition_below : (c : Condition) → condition_code c < 16
condition_below Overflow = lit< tt
condition_below NotOverflow = lit< tt
condition_below Below = lit< tt
condition_below NotBelow = lit< tt
condition_below Zero = lit< tt
condition_below NotZero = lit< tt
condition_below BelowOrEqual = lit< tt
condition_below NotBelowOrEqual = lit< tt
condition_below Sign = lit< tt
condition_below NotSign = lit< tt
condition_below Parity = lit< tt
condition_below NotParity = lit< tt
condition_below Less = lit< tt
condition_below NotLess = lit< tt
condition_below LessOrEqual = lit< tt
condition_below NotLessOrEqual = lit< tt

pub condition_again : (c : Condition) → condition (condition_code c) ≡ c
condition_again Overflow = refl
condition_again NotOverflow = refl
condition_again Below = refl
condition_again NotBelow = refl
condition_again Zero = refl
condition_again NotZero = refl
condition_again BelowOrEqual = refl
condition_again NotBelowOrEqual = refl
condition_again Sign = refl
condition_again NotSign = refl
condition_again Parity = refl
condition_again NotParity = refl
condition_again Less = refl
condition_again NotLess = refl
condition_again LessOrEqual = refl
condition_again NotLessOrEqual = refl
