-- How registers and flags are printed (our own; the names are those of the 80386 Programmer's
-- Reference Manual, 2.3).
use Rattle.std.specs.Prelude.{ℕ, List, ◌++◌, codes}
use Rattle.std.specs.Fmt.{decimal}
use Rattle.std.specs.Int.{from_bool}
use Rattle.mx_word.specs.declared.names.Register.{Register}
use Rattle.mx_word.specs.declared.names.Register.TheVariants.{Eax, Ecx, Edx, Ebx, Esp, Ebp, Esi, Edi}
use Rattle.mx_flags.specs.declared.FlagValues.{FlagValues}
use Rattle.mx_regs.specs.Regs.{word_of_register}
use Rattle.mx_regs.specs.RegisterValues.{RegisterValues}
use Rattle.mx_image.specs.Image.{Image}
use Rattle.mx_insn_words.specs.Numbers.{eight_digits}

abbrev pub register_name : Register → List ℕ
register_name Eax = codes "EAX"
register_name Ecx = codes "ECX"
register_name Edx = codes "EDX"
register_name Ebx = codes "EBX"
register_name Esp = codes "ESP"
register_name Ebp = codes "EBP"
register_name Esi = codes "ESI"
register_name Edi = codes "EDI"

-- a register's name and its 32 bits
unfoldable pub register_field : RegisterValues → Register → List ℕ
register_field w r = register_name r ++ codes " " ++ eight_digits (word_of_register w r)

-- two registers next to each other
unfoldable pub two_registers : RegisterValues → Register → Register → List ℕ
two_registers w a b = register_field w a ++ codes " " ++ register_field w b

-- a line of four registers
unfoldable pub register_line : RegisterValues → Register → Register → Register → Register → List ℕ
register_line w a b c d = two_registers w a b ++ codes " " ++ two_registers w c d ++ codes "\n"

-- a flag's name and its value, after a space
abbrev pub flag_field : List ℕ → ℕ → List ℕ
flag_field name value = codes " " ++ name ++ codes " " ++ decimal value

unfoldable pub flag_fields : FlagValues → List ℕ
flag_fields f =
    flag_field (codes "CF") (from_bool f.carry) ++ flag_field (codes "PF") (from_bool f.parity)
    ++ flag_field (codes "AF") (from_bool f.auxiliary) ++ flag_field (codes "ZF") (from_bool f.zero)
    ++ flag_field (codes "SF") (from_bool f.sign) ++ flag_field (codes "DF") (from_bool f.direction)
    ++ flag_field (codes "OF") (from_bool f.overflow)

-- three lines: the registers, four a line, and EIP with the flags
abbrev pub register_lines : Image → List ℕ
register_lines m =
    register_line m.regs Eax Ecx Edx Ebx ++ register_line m.regs Esp Ebp Esi Edi
    ++ codes "EIP " ++ eight_digits m.eip ++ flag_fields m.flags ++ codes "\n"
