-- The numbers of a line's instruction are as wide as their types.
use Rattle.std.proofs.Common.{◌≡◌, ℕ, Bool, List, [], ◌∷◌, Option, Some, None, sym, ap, ◌∙◌, subst}
use Rattle.std.specs.List.{slice_split}
use Rattle.mx_word.specs.declared.size.Size.{Size}
use Rattle.mx_word.specs.declared.size.Size.TheVariants.{Byte, Word, Dword}
use Rattle.mx_encode.specs.Given.{Fits}
use Rattle.mx_insn_words.specs.declared.mnemonic.Mnemonic.{Mnemonic}
use Rattle.mx_insn_words.specs.declared.start.Prefix.{Prefix}
use Rattle.mx_insn_words.specs.declared.start.Directive.{Directive}
use Rattle.mx_insn_words.specs.declared.start.Directive.TheVariants as directives
use Rattle.mx_insn_words.specs.declared.start.WordStart.TheVariants as starts
use Rattle.mx_asm_statement.specs.declared.item.Item.{Item}
use Rattle.mx_asm_statement.specs.declared.item.Item.TheVariants as items
use Rattle.mx_asm_statement.specs.Items.{◌>>=◌}
use Rattle.mx_asm_statement.specs.Lists.{is_comma, arguments_of}
use Rattle.mx_asm_statement.specs.declared.line.Line.{Line}
use Rattle.mx_asm_statement.specs.declared.instruction.Instruction.{Instruction}
use Rattle.mx_asm_statement.specs.declared.statement.Statement.{Statement}
use Rattle.mx_asm_statement.specs.declared.statement.Statement.TheVariants as statements
use Rattle.mx_asm_statement.specs.Data.{values_in, data_of}
use Rattle.mx_asm_statement.specs.declared.opening.LineStart.{LineStart}
use Rattle.mx_asm_statement.specs.declared.opening.LineStart.TheVariants as begun
use Rattle.mx_asm_statement.specs.Opening.{after_label, after_first}
use Rattle.mx_asm_statement.specs.LineStatements.{jump_length_asked, without_short_mark, after_mnemonic, after_prefix, standing_alone, number_alone, entry_of, after_directive, text_alone, statement_of}
use Rattle.mx_asm_statement.specs.Lines.{where_named, IsLine}
use Rattle.mx_asm_statement.proofs.Widths.{numbers_fit, repeated_numbers_fit}

abbrev AllFit : Option Statement → Type 0
AllFit o = (i : Instruction) → o ≡ Some (statements.Instruction i) → Fits i.insn

-- a statement that is no instruction
abbrev pub IsOther : Statement → Type 0
IsOther (statements.Instruction i) = ⊥
IsOther _ = Unit {0}

other_fits : (s : Statement) → IsOther s → AllFit (Some s)
other_fits s other i e = absurd (subst IsOther (some_is s (statements.Instruction i) e) other)
  where
    some_is : (x y : Statement) → Some x ≡ Some y → x ≡ y
    some_is x y e = cc

none_fits : AllFit None
none_fits i e = cc

next : {A : Type 0} (o : Option A) (f : A → Option Statement) → ((a : A) → AllFit (f a)) → AllFit (o >>= f)
next None f k = none_fits
next (Some a) f k = k a

-- ---- after a mnemonic

mnemonic_fits : (m : Mnemonic) (ts : List Item) → AllFit (after_mnemonic m ts)
mnemonic_fits m ts = next (arguments_of (without_short_mark m ts)) _ (λ xs. numbers_fit (jump_length_asked m ts) m xs)

prefix_fits : (p : Prefix) (m : Option Mnemonic) (ts : List Item) → AllFit (after_prefix p m ts)
prefix_fits p None ts = none_fits
prefix_fits p (Some m) [] = none_fits
prefix_fits p (Some m) (t ∷ []) = repeated_numbers_fit p m
prefix_fits p (Some m) (t ∷ u ∷ ts) = none_fits

-- ---- after a directive

alone_fits : (s : Statement) (ts : List Item) → IsOther s → AllFit (standing_alone s ts)
alone_fits s [] other = other_fits s other
alone_fits s (t ∷ ts) other = none_fits

data_fits : (s : Size) (ts : List Item) → AllFit (data_of s ts)
data_fits s ts = next (values_in s (slice_split is_comma ts)) _ (λ vs. other_fits (statements.Data s vs) tt)

entry_fits : (ts : List Item) → AllFit (entry_of ts)
entry_fits [] = none_fits
entry_fits (items.Name w ∷ []) = other_fits (statements.Entry w) tt
entry_fits (items.Name w ∷ t ∷ ts) = none_fits
entry_fits (items.Register s r ∷ ts) = none_fits
entry_fits (items.Size s ∷ ts) = none_fits
entry_fits (items.Long ∷ ts) = none_fits
entry_fits (items.Other ∷ ts) = none_fits
entry_fits (items.Punctuation m ∷ ts) = none_fits
entry_fits (items.Number n ∷ ts) = none_fits

directive_fits : (d : Directive) (text : Option (List ℕ)) (ts : List Item) → AllFit (after_directive d text ts)
directive_fits directives.Text text ts = alone_fits _ ts tt
directive_fits directives.Data text ts = alone_fits _ ts tt
directive_fits directives.Bss text ts = alone_fits _ ts tt
directive_fits directives.Data1 text ts = data_fits Byte ts
directive_fits directives.Data2 text ts = data_fits Word ts
directive_fits directives.Data4 text ts = data_fits Dword ts
directive_fits directives.Ascii text ts = next text _ (λ bytes. other_fits (statements.Ascii bytes) tt)
directive_fits directives.Space text ts = next (number_alone ts) _ (λ n. other_fits (statements.Space n) tt)
directive_fits directives.Sep text ts = alone_fits _ ts tt
directive_fits directives.Entry text ts = entry_fits ts
directive_fits directives.Stack text ts = next (number_alone ts) _ (λ n. other_fits (statements.Stack n) tt)

-- ---- the line

statement_fits : (b : LineStart) (second : Option Mnemonic) (text : Option (List ℕ)) (ts : List Item) → AllFit (statement_of b second text ts)
statement_fits begun.Nothing second text ts = other_fits statements.Nothing tt
statement_fits begun.Unknown second text ts = none_fits
statement_fits (begun.Known (starts.Mnemonic m)) second text ts = mnemonic_fits m ts
statement_fits (begun.Known (starts.Repeat p)) second text ts = prefix_fits p second ts
statement_fits (begun.Known (starts.Directive d)) second text ts = directive_fits d text ts

named_fits : (label : Option Item) (s : Option Statement) → AllFit s → AllFit (where_named label s)
named_fits None s h = h
named_fits (Some (items.Name w)) s h = h
named_fits (Some (items.Register z r)) s h = none_fits
named_fits (Some (items.Size z)) s h = none_fits
named_fits (Some items.Long) s h = none_fits
named_fits (Some items.Other) s h = none_fits
named_fits (Some (items.Punctuation m)) s h = none_fits
named_fits (Some (items.Number n)) s h = none_fits

-- the numbers of a line's instruction
pub line_fits : (t : List ℕ) (l : Line) (i : Instruction) → IsLine t l → l.statement ≡ Some (statements.Instruction i) → Fits i.insn
line_fits t l i (ks, reading, says) e =
    let text = text_alone t (after_first (after_label t ks)) in
    let said = statement_of says.start says.second text says.rest in
    named_fits says.label_item said (statement_fits says.start says.second text says.rest) i (sym (ap (λ (z : Line). z.statement) says.is_line) ∙ e)
