-- Items, and what follows from one of two possible values.
use Rattle.std.specs.Prelude.{Option, Some, None, Bool, true, false}
use Rattle.mx_asm_statement.specs.declared.item.Item.{Item}
use Rattle.mx_asm_statement.specs.declared.item.Item.TheVariants as items

-- for the value that there is, if there is one
infixl 10 ◌>>=◌
abbrev pub ◌>>=◌ : {A B : Type 0} → Option A → (A → Option B) → Option B
None >>= f = None
(Some x) >>= f = f x

abbrev pub is_long : Item → Bool
is_long items.Long = true
is_long _ = false
