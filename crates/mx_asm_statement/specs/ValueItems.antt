-- Which items are a value.
use Rattle.std.specs.Prelude.{ℕ, Bool, true, false, List, [], ◌∷◌, Option, Some, None}
use Rattle.mx_text.specs.declared.names.Name.{Name}
use Rattle.mx_lex.specs.declared.kinds.Punctuation.TheVariants.{Plus, Minus}
use Rattle.mx_asm_statement.specs.declared.item.Item.{Item}
use Rattle.mx_asm_statement.specs.declared.item.Item.TheVariants as items
use Rattle.mx_asm_statement.specs.declared.value.Value.{Value}

abbrev pub value_of_parts : Option Name → Bool → ℕ → Option Value
value_of_parts name minus n = Some (record { name = name; minus = minus; number = n })

-- n, -n, name, name+n, name-n
abbrev pub value_in_items : List Item → Option Value
value_in_items (items.Number n ∷ []) = value_of_parts None false n
value_in_items (items.Punctuation Minus ∷ items.Number n ∷ []) = value_of_parts None true n
value_in_items (items.Name w ∷ []) = value_of_parts (Some w) false 0
value_in_items (items.Name w ∷ items.Punctuation Plus ∷ items.Number n ∷ []) = value_of_parts (Some w) false n
value_in_items (items.Name w ∷ items.Punctuation Minus ∷ items.Number n ∷ []) = value_of_parts (Some w) true n
value_in_items _ = None
