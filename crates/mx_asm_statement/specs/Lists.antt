-- Which items are arguments.
use Rattle.std.specs.Prelude.{List, [], ◌∷◌, Option, Some, Bool, true, false}
use Rattle.std.specs.List.{slice_split}
use Rattle.mx_lex.specs.declared.kinds.Punctuation.TheVariants as marks
use Rattle.mx_asm_statement.specs.declared.item.Item.{Item}
use Rattle.mx_asm_statement.specs.declared.item.Item.TheVariants as items
use Rattle.mx_asm_statement.specs.declared.argument.Argument.{Argument}
use Rattle.mx_asm_statement.specs.Items.{◌>>=◌}
use Rattle.mx_asm_statement.specs.Arguments.{argument_of}

abbrev pub is_comma : Item → Bool
is_comma (items.Punctuation marks.Comma) = true
is_comma _ = false

abbrev pub each_of : List (List Item) → Option (List Argument)
each_of [] = Some []
each_of (part ∷ parts) = do
  o ← argument_of part
  os ← each_of parts
  Some (o ∷ os)

-- none, or as many as commas part
abbrev pub arguments_of : List Item → Option (List Argument)
arguments_of [] = Some []
arguments_of (t ∷ ts) = each_of (slice_split is_comma (t ∷ ts))
