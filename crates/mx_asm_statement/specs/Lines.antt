-- What a line means.
use Rattle.std.specs.Prelude.{◌≡◌, ℕ, ◌||◌, Bool, false, Option, Some, None, List, [], ◌∷◌}
use Rattle.mx_text.specs.declared.names.Name.{Name}
use Rattle.mx_lex.specs.Tokens.{IsReadAs}
use Rattle.mx_lex.specs.declared.kinds.Token.{Token}
use Rattle.mx_insn_words.specs.declared.mnemonic.Mnemonic.{Mnemonic}
use Rattle.mx_insn_words.specs.declared.start.Directive.{Directive}
use Rattle.mx_insn_words.specs.declared.start.Directive.TheVariants as directives
use Rattle.mx_insn_words.specs.declared.start.WordStart.TheVariants as starts
use Rattle.mx_asm_statement.specs.declared.item.Item.{Item}
use Rattle.mx_asm_statement.specs.declared.item.Item.TheVariants as items
use Rattle.mx_asm_statement.specs.Items.{is_long}
use Rattle.mx_asm_statement.specs.declared.line.StatementStart.{StatementStart}
use Rattle.mx_asm_statement.specs.declared.line.StatementStart.TheVariants as beginnings
use Rattle.mx_asm_statement.specs.declared.line.Line.{Line}
use Rattle.mx_asm_statement.specs.declared.statement.Statement.{Statement}
use Rattle.mx_asm_statement.specs.declared.opening.LineStart.{LineStart}
use Rattle.mx_asm_statement.specs.declared.opening.LineStart.TheVariants as begun
use Rattle.mx_asm_statement.specs.Sorting.{AreItems}
use Rattle.mx_asm_statement.specs.Opening.{label_of, after_label, IsLabelItem, Begins, after_first, NamesMnemonic}
use Rattle.mx_asm_statement.specs.LineStatements.{text_alone, statement_of}

-- ---- names that are too long

abbrev pub any_long : List Item → Bool
any_long [] = false
any_long (t ∷ ts) = is_long t || any_long ts

-- the word right after a prefix is neither a label nor an operand
abbrev pub long_after : LineStart → List Item → Bool
long_after (begun.Known (starts.Repeat p)) [] = false
long_after (begun.Known (starts.Repeat p)) (t ∷ ts) = any_long ts
long_after _ ts = any_long ts

abbrev pub long_label : Option Item → Bool
long_label None = false
long_label (Some t) = is_long t

-- ---- labels

-- a register or size word before a colon is no name
abbrev pub name_in : Option Item → Option Name
name_in (Some (items.Name w)) = Some w
name_in _ = None

abbrev pub where_named : Option Item → Option Statement → Option Statement
where_named None s = s
where_named (Some (items.Name w)) s = s
where_named _ s = None

-- ---- what a statement begins with

abbrev pub beginning_after : Directive → StatementStart
beginning_after directives.Data1 = beginnings.Data
beginning_after directives.Data2 = beginnings.Data
beginning_after directives.Data4 = beginnings.Data
beginning_after directives.Ascii = beginnings.Data
beginning_after directives.Sep = beginnings.Separate
beginning_after directives.Entry = beginnings.Entry
beginning_after directives.Stack = beginnings.Stack
beginning_after _ = beginnings.Anywhere

abbrev pub beginning_of : LineStart → StatementStart
beginning_of begun.Nothing = beginnings.Nothing
beginning_of begun.Unknown = beginnings.Unknown
beginning_of (begun.Known (starts.Mnemonic m)) = beginnings.Instruction
beginning_of (begun.Known (starts.Repeat p)) = beginnings.Instruction
beginning_of (begun.Known (starts.Directive d)) = beginning_after d

-- ---- the line

abbrev pub line_of_items : Option Item → LineStart → Option Mnemonic → Option (List ℕ) → List Item → Line
line_of_items label b second text ts = record {
  label = name_in label;
  long = long_label label || long_after b ts;
  beginning = beginning_of b;
  statement = where_named label (statement_of b second text ts);
}

-- the tokens mean the line: [label:] [statement]
pub record SaysLine (t : List ℕ) (ks : List Token) (line : Line) : Type 0 where
  pub label_item : Option Item
  pub is_label : IsLabelItem t (label_of t ks) label_item
  pub start : LineStart
  pub begins : Begins t (after_label t ks) start
  pub second : Option Mnemonic
  pub names : NamesMnemonic t (after_first (after_label t ks)) second
  pub rest : List Item
  pub are_items : AreItems t (after_first (after_label t ks)) rest
  pub is_line : line ≡ line_of_items label_item start second (text_alone t (after_first (after_label t ks))) rest

-- what a line of a text means
abbrev pub IsLine : List ℕ → Line → Type 0
IsLine t line = (ks : List Token) × IsReadAs t ks × SaysLine t ks line
