-- Which items are an argument.
use Rattle.std.specs.Prelude.{if◌then◌else◌, List, [], ◌∷◌, Option, Some, None, Bool, true, false}
use Rattle.mx_word.specs.declared.size.Size.{Size}
use Rattle.mx_lex.specs.declared.kinds.Punctuation.TheVariants as marks
use Rattle.mx_asm_statement.specs.declared.item.Item.{Item}
use Rattle.mx_asm_statement.specs.declared.item.Item.TheVariants as items
use Rattle.mx_asm_statement.specs.declared.argument.Argument.{Argument}
use Rattle.mx_asm_statement.specs.declared.argument.Argument.TheVariants as arguments
use Rattle.mx_asm_statement.specs.Items.{◌>>=◌}
use Rattle.mx_asm_statement.specs.ValueItems.{value_in_items}
use Rattle.mx_asm_statement.specs.Addresses.{address_in_brackets}

abbrev pub is_close : Item → Bool
is_close (items.Punctuation marks.Close) = true
is_close _ = false

-- what is before the closing bracket, if the last item is one
abbrev pub before_close : List Item → Option (List Item)
before_close [] = None
before_close (t ∷ []) = if is_close t then Some [] else None
before_close (t ∷ u ∷ ts) = do
  front ← before_close (u ∷ ts)
  Some (t ∷ front)

abbrev pub argument_in_brackets : Option Size → List Item → Option Argument
argument_in_brackets size ts = do
  inside ← before_close ts
  a ← address_in_brackets inside
  Some (arguments.Memory size a)

-- a register; a place in brackets, with a size word before it or without; a value
abbrev pub argument_of : List Item → Option Argument
argument_of (items.Register s r ∷ []) = Some (arguments.Register s r)
argument_of (items.Punctuation marks.Open ∷ ts) = argument_in_brackets None ts
argument_of (items.Size s ∷ items.Punctuation marks.Open ∷ ts) = argument_in_brackets (Some s) ts
argument_of ts = do
  v ← value_in_items ts
  Some (arguments.Value v)
