-- Which statement comes of what follows its first word.
use Rattle.std.specs.Prelude.{ℕ, ◌&&◌, ◌-◌, ◌+◌, if◌then◌else◌, Bool, true, false, nat_eq, Option, Some, None, List, []}
use Rattle.std.specs.Prelude.{◌∷◌, slice_range}
use Rattle.std.specs.Cmp.Lexicographic.{pointwise}
use Rattle.mx_word.specs.declared.size.Size.TheVariants as sizes
use Rattle.mx_text.specs.Names.{padded_name}
use Rattle.mx_lex.specs.Bytes.{text_value}
use Rattle.mx_lex.specs.declared.kinds.TokenKind.{TokenKind}
use Rattle.mx_lex.specs.declared.kinds.TokenKind.TheVariants as kinds
use Rattle.mx_lex.specs.declared.kinds.Token.{Token}
use Rattle.mx_insn_words.specs.Words.{short_word}
use Rattle.mx_insn_words.specs.declared.mnemonic.Mnemonic.{Mnemonic}
use Rattle.mx_insn_words.specs.declared.mnemonic.Mnemonic.TheVariants as mnemonics
use Rattle.mx_insn_words.specs.declared.mnemonic.Single.TheVariants.{Jmp}
use Rattle.mx_insn_words.specs.declared.start.Prefix.{Prefix}
use Rattle.mx_insn_words.specs.declared.start.Directive.{Directive}
use Rattle.mx_insn_words.specs.declared.start.Directive.TheVariants as directives
use Rattle.mx_insn_words.specs.declared.start.WordStart.TheVariants as starts
use Rattle.mx_asm_statement.specs.declared.item.Item.{Item}
use Rattle.mx_asm_statement.specs.declared.item.Item.TheVariants as items
use Rattle.mx_asm_statement.specs.declared.branch.JumpLength.{JumpLength}
use Rattle.mx_asm_statement.specs.declared.branch.JumpLength.TheVariants.{Short, Long}
use Rattle.mx_asm_statement.specs.Items.{◌>>=◌}
use Rattle.mx_asm_statement.specs.Lists.{arguments_of}
use Rattle.mx_asm_statement.specs.declared.statement.Section.TheVariants as sections
use Rattle.mx_asm_statement.specs.declared.statement.Statement.{Statement}
use Rattle.mx_asm_statement.specs.declared.statement.Statement.TheVariants as statements
use Rattle.mx_asm_statement.specs.Data.{data_of}
use Rattle.mx_asm_statement.specs.Statements.{statement_for, statement_after_prefix}
use Rattle.mx_asm_statement.specs.declared.opening.LineStart.{LineStart}
use Rattle.mx_asm_statement.specs.declared.opening.LineStart.TheVariants as begun

-- ---- after a mnemonic

-- the word `short`
abbrev pub is_short_word : Item → Bool
is_short_word (items.Name w) = pointwise nat_eq w.bytes (padded_name short_word)
is_short_word _ = false

abbrev pub takes_short : Mnemonic → Bool
takes_short (mnemonics.Single Jmp) = true
takes_short (mnemonics.JumpIf c) = true
takes_short _ = false

abbrev pub statement_by : JumpLength → Mnemonic → List Item → Option Statement
statement_by length m ts = do
  xs ← arguments_of ts
  statement_for length m xs

-- right after JMP and Jcc `short` is always the mark, and elsewhere a name
abbrev pub is_marked : Mnemonic → List Item → Bool
is_marked m [] = false
is_marked m (t ∷ ts) = takes_short m && is_short_word t

abbrev pub jump_length_asked : Mnemonic → List Item → JumpLength
jump_length_asked m ts = if is_marked m ts then Short else Long

abbrev pub without_short_mark : Mnemonic → List Item → List Item
without_short_mark m [] = []
without_short_mark m (t ∷ ts) = if takes_short m && is_short_word t then ts else t ∷ ts

abbrev pub after_mnemonic : Mnemonic → List Item → Option Statement
after_mnemonic m ts = statement_by (jump_length_asked m ts) m (without_short_mark m ts)

-- a string instruction, with nothing else
abbrev pub after_prefix : Prefix → Option Mnemonic → List Item → Option Statement
after_prefix p (Some m) (t ∷ []) = statement_after_prefix p m
after_prefix p _ _ = None

-- ---- after a directive

abbrev pub standing_alone : Statement → List Item → Option Statement
standing_alone s [] = Some s
standing_alone s _ = None

abbrev pub text_given : Option (List ℕ) → Option Statement
text_given text = do
  bytes ← text
  Some (statements.Ascii bytes)

abbrev pub number_alone : List Item → Option ℕ
number_alone (items.Number n ∷ []) = Some n
number_alone _ = None

abbrev pub space_of : List Item → Option Statement
space_of ts = do
  n ← number_alone ts
  Some (statements.Space n)

abbrev pub stack_of : List Item → Option Statement
stack_of ts = do
  n ← number_alone ts
  Some (statements.Stack n)

abbrev pub entry_of : List Item → Option Statement
entry_of (items.Name w ∷ []) = Some (statements.Entry w)
entry_of _ = None

abbrev pub after_directive : Directive → Option (List ℕ) → List Item → Option Statement
after_directive directives.Text text ts = standing_alone (statements.Enter sections.Text) ts
after_directive directives.Data text ts = standing_alone (statements.Enter sections.Data) ts
after_directive directives.Bss text ts = standing_alone (statements.Enter sections.Bss) ts
after_directive directives.Data1 text ts = data_of sizes.Byte ts
after_directive directives.Data2 text ts = data_of sizes.Word ts
after_directive directives.Data4 text ts = data_of sizes.Dword ts
after_directive directives.Ascii text ts = text_given text
after_directive directives.Space text ts = space_of ts
after_directive directives.Sep text ts = standing_alone statements.Separate ts
after_directive directives.Entry text ts = entry_of ts
after_directive directives.Stack text ts = stack_of ts

-- the bytes of a text with nothing else, without its quotes
abbrev pub text_in : List ℕ → Token → TokenKind → Option (List ℕ)
text_in t k kinds.Text = Some (text_value (slice_range t (k.start + 1) (k.end - 1)))
text_in t k _ = None

abbrev pub text_alone : List ℕ → List Token → Option (List ℕ)
text_alone t (k ∷ []) = text_in t k k.kind
text_alone t _ = None

-- ---- the whole statement

-- the first word, the mnemonic after a prefix, the quoted text if there is nothing else, and what follows the
-- first word
abbrev pub statement_of : LineStart → Option Mnemonic → Option (List ℕ) → List Item → Option Statement
statement_of begun.Nothing second text ts = Some statements.Nothing
statement_of begun.Unknown second text ts = None
statement_of (begun.Known (starts.Mnemonic m)) second text ts = after_mnemonic m ts
statement_of (begun.Known (starts.Repeat p)) second text ts = after_prefix p second ts
statement_of (begun.Known (starts.Directive d)) second text ts = after_directive d text ts
