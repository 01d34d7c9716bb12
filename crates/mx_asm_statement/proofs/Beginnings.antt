-- A line begins with what its statement begins with.
use Rattle.std.proofs.Common.{◌≡◌, ℕ, Bool, List, [], ◌∷◌, Option, Some, None, refl, sym, ap, ◌∙◌, subst}
use Rattle.std.specs.List.{slice_split}
use Rattle.mx_word.specs.declared.size.Size.{Size}
use Rattle.mx_word.specs.declared.size.Size.TheVariants.{Byte, Word, Dword}
use Rattle.mx_insn_words.specs.declared.mnemonic.Mnemonic.{Mnemonic}
use Rattle.mx_insn_words.specs.declared.start.Prefix.{Prefix}
use Rattle.mx_insn_words.specs.declared.start.Directive.{Directive}
use Rattle.mx_insn_words.specs.declared.start.Directive.TheVariants as directives
use Rattle.mx_insn_words.specs.declared.start.WordStart.TheVariants as starts
use Rattle.mx_asm_statement.specs.declared.item.Item.{Item}
use Rattle.mx_asm_statement.specs.declared.item.Item.TheVariants as items
use Rattle.mx_asm_statement.specs.Items.{◌>>=◌}
use Rattle.mx_asm_statement.specs.Lists.{is_comma, arguments_of}
use Rattle.mx_asm_statement.specs.declared.line.StatementStart.{StatementStart}
use Rattle.mx_asm_statement.specs.declared.line.StatementStart.TheVariants as beginnings
use Rattle.mx_asm_statement.specs.declared.line.Line.{Line}
use Rattle.mx_asm_statement.specs.declared.statement.Statement.{Statement}
use Rattle.mx_asm_statement.specs.declared.statement.Statement.TheVariants as statements
use Rattle.mx_asm_statement.specs.Data.{values_in, data_of}
use Rattle.mx_asm_statement.specs.Statements.{IsCode}
use Rattle.mx_asm_statement.specs.declared.opening.LineStart.{LineStart}
use Rattle.mx_asm_statement.specs.declared.opening.LineStart.TheVariants as begun
use Rattle.mx_asm_statement.specs.Beginnings.{begins_with}
use Rattle.mx_asm_statement.specs.Opening.{after_label, after_first}
use Rattle.mx_asm_statement.specs.LineStatements.{jump_length_asked, without_short_mark, after_mnemonic, after_prefix, standing_alone, number_alone, entry_of, after_directive, text_alone, statement_of}
use Rattle.mx_asm_statement.specs.Lines.{beginning_of, beginning_after, where_named, IsLine}
use Rattle.mx_asm_statement.proofs.Widths.{code_is_stated, code_is_repeated}

-- if it is a statement, it begins so
abbrev Agrees : StatementStart → Option Statement → Type 0
Agrees b o = (s : Statement) → o ≡ Some s → b ≡ begins_with s

none_agrees : (b : StatementStart) → Agrees b None
none_agrees b s e = cc

some_agrees : (s : Statement) → Agrees (begins_with s) (Some s)
some_agrees s x e = ap begins_with (some_is s x e)
  where
    some_is : (x y : Statement) → Some x ≡ Some y → x ≡ y
    some_is x y e = cc

code_agrees : (s : Statement) → IsCode s → beginnings.Instruction ≡ begins_with s
code_agrees (statements.Instruction i) h = refl
code_agrees (statements.Branch k target) h = refl
code_agrees statements.Nothing h = absurd h
code_agrees (statements.Enter section) h = absurd h
code_agrees (statements.Data size values) h = absurd h
code_agrees (statements.Ascii bytes) h = absurd h
code_agrees (statements.Space n) h = absurd h
code_agrees statements.Separate h = absurd h
code_agrees (statements.Entry name) h = absurd h
code_agrees (statements.Stack n) h = absurd h

next : {A : Type 0} (b : StatementStart) (o : Option A) (f : A → Option Statement) → ((a : A) → Agrees b (f a)) → Agrees b (o >>= f)
next b None f k = none_agrees b
next b (Some a) f k = k a

-- ---- after a mnemonic

mnemonic_agrees : (m : Mnemonic) (ts : List Item) → Agrees beginnings.Instruction (after_mnemonic m ts)
mnemonic_agrees m ts =
    next beginnings.Instruction (arguments_of (without_short_mark m ts)) _ (λ xs s e. code_agrees s (code_is_stated (jump_length_asked m ts) m xs s e))

prefix_agrees : (p : Prefix) (m : Option Mnemonic) (ts : List Item) → Agrees beginnings.Instruction (after_prefix p m ts)
prefix_agrees p None ts = none_agrees beginnings.Instruction
prefix_agrees p (Some m) [] = none_agrees beginnings.Instruction
prefix_agrees p (Some m) (t ∷ []) = λ s e. code_agrees s (code_is_repeated p m s e)
prefix_agrees p (Some m) (t ∷ u ∷ ts) = none_agrees beginnings.Instruction

-- ---- after a directive

alone_agrees : (s : Statement) (ts : List Item) → Agrees (begins_with s) (standing_alone s ts)
alone_agrees s [] = some_agrees s
alone_agrees s (t ∷ ts) = none_agrees (begins_with s)

data_agrees : (z : Size) (ts : List Item) → Agrees beginnings.Data (data_of z ts)
data_agrees z ts = next beginnings.Data (values_in z (slice_split is_comma ts)) _ (λ vs. some_agrees (statements.Data z vs))

entry_agrees : (ts : List Item) → Agrees beginnings.Entry (entry_of ts)
entry_agrees [] = none_agrees beginnings.Entry
entry_agrees (items.Name w ∷ []) = some_agrees (statements.Entry w)
entry_agrees (items.Name w ∷ t ∷ ts) = none_agrees beginnings.Entry
entry_agrees (items.Register s r ∷ ts) = none_agrees beginnings.Entry
entry_agrees (items.Size s ∷ ts) = none_agrees beginnings.Entry
entry_agrees (items.Long ∷ ts) = none_agrees beginnings.Entry
entry_agrees (items.Other ∷ ts) = none_agrees beginnings.Entry
entry_agrees (items.Punctuation m ∷ ts) = none_agrees beginnings.Entry
entry_agrees (items.Number n ∷ ts) = none_agrees beginnings.Entry

directive_agrees : (d : Directive) (text : Option (List ℕ)) (ts : List Item) → Agrees (beginning_after d) (after_directive d text ts)
directive_agrees directives.Text text ts = alone_agrees _ ts
directive_agrees directives.Data text ts = alone_agrees _ ts
directive_agrees directives.Bss text ts = alone_agrees _ ts
directive_agrees directives.Data1 text ts = data_agrees Byte ts
directive_agrees directives.Data2 text ts = data_agrees Word ts
directive_agrees directives.Data4 text ts = data_agrees Dword ts
directive_agrees directives.Ascii text ts = next beginnings.Data text _ (λ bytes. some_agrees (statements.Ascii bytes))
directive_agrees directives.Space text ts = next beginnings.Anywhere (number_alone ts) _ (λ n. some_agrees (statements.Space n))
directive_agrees directives.Sep text ts = alone_agrees _ ts
directive_agrees directives.Entry text ts = entry_agrees ts
directive_agrees directives.Stack text ts = next beginnings.Stack (number_alone ts) _ (λ n. some_agrees (statements.Stack n))

-- ---- the line

statement_agrees : (b : LineStart) (second : Option Mnemonic) (text : Option (List ℕ)) (ts : List Item) → Agrees (beginning_of b) (statement_of b second text ts)
statement_agrees begun.Nothing second text ts = some_agrees statements.Nothing
statement_agrees begun.Unknown second text ts = none_agrees beginnings.Unknown
statement_agrees (begun.Known (starts.Mnemonic m)) second text ts = mnemonic_agrees m ts
statement_agrees (begun.Known (starts.Repeat p)) second text ts = prefix_agrees p second ts
statement_agrees (begun.Known (starts.Directive d)) second text ts = directive_agrees d text ts

named_agrees : (b : StatementStart) (label : Option Item) (o : Option Statement) → Agrees b o → Agrees b (where_named label o)
named_agrees b None o h = h
named_agrees b (Some (items.Name w)) o h = h
named_agrees b (Some (items.Register z r)) o h = none_agrees b
named_agrees b (Some (items.Size z)) o h = none_agrees b
named_agrees b (Some items.Long) o h = none_agrees b
named_agrees b (Some items.Other) o h = none_agrees b
named_agrees b (Some (items.Punctuation m)) o h = none_agrees b
named_agrees b (Some (items.Number n)) o h = none_agrees b

-- the beginning of a line is that of its statement
pub line_begins : (t : List ℕ) (l : Line) (s : Statement) → IsLine t l → l.statement ≡ Some s → l.beginning ≡ begins_with s
line_begins t l s (ks, reading, says) e =
    let text = text_alone t (after_first (after_label t ks)) in
    let said = statement_of says.start says.second text says.rest in
    ap (λ (z : Line). z.beginning) says.is_line
    ∙ named_agrees (beginning_of says.start) says.label_item said (statement_agrees says.start says.second text says.rest) s (sym (ap (λ (z : Line). z.statement) says.is_line) ∙ e)
