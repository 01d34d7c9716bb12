-- Which items between brackets are a place in memory.
use Rattle.std.specs.Prelude.{ℕ, ◌==◌, if◌then◌else◌, List, [], ◌∷◌, Option, Some, None, false}
use Rattle.mx_word.specs.declared.size.Size.TheVariants.{Dword}
use Rattle.mx_word.specs.declared.names.Register.{Register}
use Rattle.mx_word.specs.declared.names.Register.TheVariants as registers
use Rattle.mx_insn.specs.declared.insn.Scale.{Scale}
use Rattle.mx_insn.specs.declared.insn.Scale.TheVariants as scales
use Rattle.mx_lex.specs.declared.kinds.Punctuation.TheVariants.{Plus, Minus, Star}
use Rattle.mx_asm_statement.specs.declared.item.Item.{Item}
use Rattle.mx_asm_statement.specs.declared.item.Item.TheVariants as items
use Rattle.mx_asm_statement.specs.declared.memory.Address.{Address}
use Rattle.mx_asm_statement.specs.declared.value.Value.{Value}
use Rattle.mx_asm_statement.specs.Items.{◌>>=◌}
use Rattle.mx_asm_statement.specs.ValueItems.{value_of_parts, value_in_items}

abbrev pub scale_of_number : ℕ → Option Scale
scale_of_number n =
    if n == 1 then Some scales.One
    else if n == 2 then Some scales.Two
    else if n == 4 then Some scales.Four
    else if n == 8 then Some scales.Eight
    else None

-- the value after a register: left out, after a plus and without a sign, or -n
abbrev pub displacement_after : List Item → Option Value
displacement_after [] = value_of_parts None false 0
displacement_after (items.Punctuation Plus ∷ items.Punctuation Minus ∷ ts) = None
displacement_after (items.Punctuation Plus ∷ ts) = value_in_items ts
displacement_after (items.Punctuation Minus ∷ ts) = value_in_items (items.Punctuation Minus ∷ ts)
displacement_after _ = None

-- with an index, which ESP is not
abbrev pub address_with_index : Option Register → Register → Option Scale → List Item → Option Address
address_with_index base registers.Esp scale ts = None
address_with_index base register scale ts = do
  s ← scale
  v ← displacement_after ts
  Some (record { base = base; index = Some (record { register = register; scale = s }); value = v })

-- without an index
abbrev pub address_with_base : Register → List Item → Option Address
address_with_base base ts = do
  v ← displacement_after ts
  Some (record { base = Some base; index = None; value = v })

-- index*scale, base+index*scale, base+index (of scale 1), base, of registers of 32 bits, each with or without
-- a value after it; or only a value
abbrev pub address_in_brackets : List Item → Option Address
address_in_brackets (items.Register Dword i ∷ items.Punctuation Star ∷ items.Number n ∷ ts) =
    address_with_index None i (scale_of_number n) ts
address_in_brackets
    (items.Register Dword b ∷ items.Punctuation Plus ∷ items.Register Dword i ∷ items.Punctuation Star
    ∷ items.Number n ∷ ts) =
    address_with_index (Some b) i (scale_of_number n) ts
address_in_brackets (items.Register Dword b ∷ items.Punctuation Plus ∷ items.Register Dword i ∷ ts) =
    address_with_index (Some b) i (Some scales.One) ts
address_in_brackets (items.Register Dword b ∷ ts) = address_with_base b ts
address_in_brackets ts = do
  v ← value_in_items ts
  Some (record { base = None; index = None; value = v })
