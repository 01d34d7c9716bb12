-- What a token is as a part of an operand.
use Rattle.std.specs.Prelude.{◌≡◌, ◌≢◌, ℕ, List, [], ◌∷◌, slice_index, slice_range, Some, None}
use Rattle.mx_word.specs.declared.size.Size.{Size}
use Rattle.mx_word.specs.declared.names.Register.{Register}
use Rattle.mx_text.specs.Names.{name_of}
use Rattle.mx_lex.specs.declared.kinds.TokenKind.{TokenKind}
use Rattle.mx_lex.specs.declared.kinds.TokenKind.TheVariants as kinds
use Rattle.mx_lex.specs.declared.kinds.Token.{Token}
use Rattle.mx_insn_words.specs.Registers.{register_word, size_word}
use Rattle.mx_asm_statement.specs.declared.item.Item.{Item}
use Rattle.mx_asm_statement.specs.declared.item.Item.TheVariants as items

-- the bytes of a token
abbrev pub token_bytes : List ℕ → Token → List ℕ
token_bytes t k = slice_range t k.start k.end

-- ---- words

-- neither a register nor a size word
abbrev pub IsOrdinary : List ℕ → Type 0
IsOrdinary w = ((s : Size) (r : Register) → w ≢ register_word s r) × ((s : Size) → w ≢ size_word s)

-- a register, a size word, a name, or a word with a dot before it; a token that is a word without a dot is no
-- name only if it is too long
abbrev pub IsWordItem : List ℕ → Item → Type 0
IsWordItem w (items.Register s r) = w ≡ register_word s r
IsWordItem w (items.Size s) = w ≡ size_word s
IsWordItem w (items.Name n) = IsOrdinary w × (slice_index w 0 ≢ 46) × (name_of w ≡ Some n)
IsWordItem w items.Long = IsOrdinary w × (slice_index w 0 ≢ 46) × (name_of w ≡ None)
IsWordItem w items.Other = IsOrdinary w × (slice_index w 0 ≡ 46)
IsWordItem w _ = ⊥

-- ---- tokens

abbrev pub IsKindItem : List ℕ → TokenKind → Item → Type 0
IsKindItem w (kinds.Punctuation m) item = item ≡ items.Punctuation m
IsKindItem w (kinds.Number n) item = item ≡ items.Number n
IsKindItem w kinds.Word item = IsWordItem w item
IsKindItem w kinds.Text item = item ≡ items.Other
IsKindItem w kinds.LineFeed item = item ≡ items.Other

abbrev pub IsItem : List ℕ → Token → Item → Type 0
IsItem t k item = IsKindItem (token_bytes t k) k.kind item

-- each token's
abbrev pub AreItems : List ℕ → List Token → List Item → Type 0
AreItems t [] [] = Unit {0}
AreItems t (k ∷ ks) (x ∷ xs) = IsItem t k x × AreItems t ks xs
AreItems t _ _ = ⊥
