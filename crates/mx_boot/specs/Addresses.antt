-- Addresses in the memory of a slot's process, as lines name them (our own).
use Rattle.std.specs.Prelude.{ℕ, ◌+◌, ◌==◌, Bool, List, [], ◌∷◌, length, take, drop, position, Option, Some, None, codes, if◌then◌else◌, nat_le}
use Rattle.std.specs.Str.{bytes_eq}
use Rattle.mx_text.specs.Bytes.{is_digit}
use Rattle.mx_text.specs.Fields.{◌>>=◌}
use Rattle.mx_text.specs.NumberFields.{number_up_to}
use Rattle.mx_boot.specs.Script.{count_field}
use Rattle.mx_boot.specs.declared.address_word.AddressWord.{AddressWord}
use Rattle.mx_boot.specs.declared.address_word.AddressWord.TheVariants.{Number, Symbol}

-- a number of 32 bits: decimal as any other, or hexadecimal after 0x
abbrev pub number_field : List ℕ → Option ℕ
number_field word =
    if bytes_eq (take 2 word) (codes "0x") then number_up_to 4294967295 16 (drop 2 word) else count_field word

-- a symbol's name has at most eight bytes (a.out.h)
abbrev pub symbol_name : List ℕ → Option (List ℕ)
symbol_name word = if nat_le (length word) 8 then Some word else None

abbrev pub is_plus : ℕ → Bool
is_plus b = b == 43

-- a symbol, or a symbol, a plus and how many bytes after it
abbrev pub symbol_by_plus : Option ℕ → List ℕ → Option AddressWord
symbol_by_plus None word = Some (Symbol (symbol_name word) 0)
symbol_by_plus (Some i) word = do
  n ← number_field (drop (i + 1) word)
  Some (Symbol (symbol_name (take i word)) n)

abbrev pub number_of_word : List ℕ → Option AddressWord
number_of_word word = do
  n ← number_field word
  Some (Number n)

-- THE ADDRESS that a word is: a number begins with a digit
abbrev pub address_of_word : List ℕ → Option AddressWord
address_of_word [] = None
address_of_word (b ∷ bs) =
    if is_digit b then number_of_word (b ∷ bs) else symbol_by_plus (position is_plus (b ∷ bs)) (b ∷ bs)
