-- What a line opens with: its label, and what its statement begins with.
use Rattle.std.specs.Prelude.{◌≡◌, ℕ, ◌==◌, not, ◌&&◌, if◌then◌else◌, Bool, true, false, List, [], ◌∷◌, slice_index}
use Rattle.std.specs.Prelude.{Option, Some, None}
use Rattle.mx_lex.specs.declared.kinds.Punctuation.TheVariants.{Colon}
use Rattle.mx_lex.specs.declared.kinds.TokenKind.{TokenKind}
use Rattle.mx_lex.specs.declared.kinds.TokenKind.TheVariants as kinds
use Rattle.mx_lex.specs.declared.kinds.Token.{Token}
use Rattle.mx_insn_words.specs.Words.{word_of, start_word}
use Rattle.mx_insn_words.specs.declared.mnemonic.Mnemonic.{Mnemonic}
use Rattle.mx_insn_words.specs.declared.start.WordStart.{WordStart}
use Rattle.mx_asm_statement.specs.declared.item.Item.{Item}
use Rattle.mx_asm_statement.specs.Sorting.{token_bytes, IsItem}
use Rattle.mx_asm_statement.specs.declared.opening.LineStart.{LineStart}
use Rattle.mx_asm_statement.specs.declared.opening.LineStart.TheVariants as begun

-- ---- the label

-- not a number, punctuation, a text, nor a word with a dot
abbrev pub is_plain : List ℕ → TokenKind → Bool
is_plain w kinds.Word = not (slice_index w 0 == 46)
is_plain w _ = false

abbrev pub is_colon : TokenKind → Bool
is_colon (kinds.Punctuation Colon) = true
is_colon _ = false

-- a word without a dot, before a colon
abbrev pub is_label : List ℕ → Token → Token → Bool
is_label t k c = is_plain (token_bytes t k) k.kind && is_colon c.kind

abbrev pub label_of : List ℕ → List Token → Option Token
label_of t (k ∷ c ∷ ks) = if is_label t k c then Some k else None
label_of t _ = None

abbrev pub after_label : List ℕ → List Token → List Token
after_label t (k ∷ c ∷ ks) = if is_label t k c then ks else k ∷ c ∷ ks
after_label t ks = ks

abbrev pub IsLabelItem : List ℕ → Option Token → Option Item → Type 0
IsLabelItem t None None = Unit {0}
IsLabelItem t (Some k) (Some x) = IsItem t k x
IsLabelItem t _ _ = ⊥

-- ---- the statement

-- a token is this word
abbrev pub IsWord : List ℕ → Token → List ℕ → Type 0
IsWord t k w = (k.kind ≡ kinds.Word) × (token_bytes t k ≡ w)

-- what the statement's first token begins
abbrev pub Begins : List ℕ → List Token → LineStart → Type 0
Begins t [] b = b ≡ begun.Nothing
Begins t (k ∷ ks) begun.Nothing = ⊥
Begins t (k ∷ ks) begun.Unknown = (s : WordStart) → IsWord t k (start_word s) → ⊥
Begins t (k ∷ ks) (begun.Known s) = IsWord t k (start_word s)

abbrev pub after_first : List Token → List Token
after_first [] = []
after_first (k ∷ ks) = ks

-- the mnemonic that comes first after a prefix
abbrev pub NamesMnemonic : List ℕ → List Token → Option Mnemonic → Type 0
NamesMnemonic t [] m = m ≡ None
NamesMnemonic t (k ∷ ks) None = (m : Mnemonic) → IsWord t k (word_of m) → ⊥
NamesMnemonic t (k ∷ ks) (Some m) = IsWord t k (word_of m)
