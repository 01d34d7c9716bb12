-- The list of a program's symbols (a.out.h, struct nlist; the letters are those of nm).
use Rattle.std.specs.Prelude.{ℕ, ◌%◌, ◌==◌, ◌&&◌, nat_le, if◌then◌else◌, List, [], ◌∷◌, ◌++◌, codes, map}
use Rattle.std.specs.List.{flat_map}
use Rattle.mx_aout.specs.declared.program.Symbol.{Symbol}
use Rattle.mx_insn_words.specs.Numbers.{eight_digits}

-- the letter of a class, by its low three bits: undefined, absolute, text, data or bss
abbrev pub letter_of : ℕ → List ℕ
letter_of class =
    let kind = class % 8 in
    if kind == 0 then codes "U" else (if kind == 1 then codes "A" else (if kind == 2 then codes "T"
    else (if kind == 3 then codes "D" else (if kind == 4 then codes "B" else codes "?"))))

-- a byte from 21 to 7E is a visible character; any other is printed as a dot (2E)
abbrev pub visible_byte : ℕ → ℕ
visible_byte b = if nat_le 0x21 b && nat_le b 0x7E then b else 0x2E

-- a name's bytes up to the first zero byte
abbrev pub before_zero : List ℕ → List ℕ
before_zero [] = []
before_zero (b ∷ bytes) = if b == 0 then [] else b ∷ before_zero bytes

abbrev pub name_text : List ℕ → List ℕ
name_text name = map visible_byte (before_zero name)

-- a symbol's line: its value, its letter, its name
abbrev pub name_line : Symbol → List ℕ
name_line s =
    eight_digits s.value ++ (codes " " ++ (letter_of s.class ++ (codes " " ++ (name_text s.name ++ codes "\n"))))

abbrev pub name_lines : List Symbol → List ℕ
name_lines symbols = flat_map name_line symbols
