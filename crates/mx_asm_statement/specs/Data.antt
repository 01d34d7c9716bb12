-- Values of data.
use Rattle.std.specs.Prelude.{Option, Some, List, [], ◌∷◌}
use Rattle.std.specs.List.{slice_split}
use Rattle.mx_word.specs.declared.size.Size.{Size}
use Rattle.mx_asm_statement.specs.declared.item.Item.{Item}
use Rattle.mx_asm_statement.specs.Items.{◌>>=◌}
use Rattle.mx_asm_statement.specs.ValueItems.{value_in_items}
use Rattle.mx_asm_statement.specs.Lists.{is_comma}
use Rattle.mx_asm_statement.specs.declared.value.Value.{Value}
use Rattle.mx_asm_statement.specs.declared.statement.Statement.{Statement}
use Rattle.mx_asm_statement.specs.declared.statement.Statement.TheVariants as statements
use Rattle.mx_asm_statement.specs.Numbers.{number_in}

-- a value that fits
abbrev pub data_value_in : Size → List Item → Option Value
data_value_in s ts = do
  v ← value_in_items ts
  n ← number_in s v
  Some v

abbrev pub values_in : Size → List (List Item) → Option (List Value)
values_in s [] = Some []
values_in s (part ∷ parts) = do
  v ← data_value_in s part
  vs ← values_in s parts
  Some (v ∷ vs)

-- values with commas
abbrev pub data_of : Size → List Item → Option Statement
data_of s ts = do
  vs ← values_in s (slice_split is_comma ts)
  Some (statements.Data s vs)
