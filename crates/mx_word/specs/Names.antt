-- The numbers of registers and conditions (manual, 17.2.1 and appendix D).
use Rattle.std.specs.Prelude.{ℕ}
use Rattle.mx_word.specs.declared.names.Register.{Register}
use Rattle.mx_word.specs.declared.names.Register.TheVariants.{Eax, Ecx, Edx, Ebx, Esp, Ebp, Esi, Edi}
use Rattle.mx_word.specs.declared.names.Condition.{Condition}
use Rattle.mx_word.specs.declared.names.Condition.TheVariants.{Overflow, NotOverflow, Below, NotBelow, Zero, NotZero}
use Rattle.mx_word.specs.declared.names.Condition.TheVariants.{BelowOrEqual, NotBelowOrEqual, Sign, NotSign, Parity}
use Rattle.mx_word.specs.declared.names.Condition.TheVariants.{NotParity, Less, NotLess, LessOrEqual, NotLessOrEqual}

abbrev pub register_number : Register → ℕ
register_number Eax = 0
register_number Ecx = 1
register_number Edx = 2
register_number Ebx = 3
register_number Esp = 4
register_number Ebp = 5
register_number Esi = 6
register_number Edi = 7

abbrev pub condition_code : Condition → ℕ
condition_code Overflow = 0
condition_code NotOverflow = 1
condition_code Below = 2
condition_code NotBelow = 3
condition_code Zero = 4
condition_code NotZero = 5
condition_code BelowOrEqual = 6
condition_code NotBelowOrEqual = 7
condition_code Sign = 8
condition_code NotSign = 9
condition_code Parity = 10
condition_code NotParity = 11
condition_code Less = 12
condition_code NotLess = 13
condition_code LessOrEqual = 14
condition_code NotLessOrEqual = 15
