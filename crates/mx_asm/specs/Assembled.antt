-- The program of lines (our own; its file is a.out.h's).
use Rattle.std.specs.Prelude.{◌≡◌, ℕ, List, map, length, Option, Some, None}
use Rattle.mx_text.specs.declared.names.Name.{Name}
use Rattle.mx_asm_statement.specs.declared.statement.Section.{Section}
use Rattle.mx_asm_statement.specs.declared.statement.Section.TheVariants.{Text, Data, Bss}
use Rattle.mx_asm_statement.specs.declared.line.Line.{Line}
use Rattle.mx_aout.specs.declared.program.Symbol.{Symbol}
use Rattle.mx_aout.specs.declared.program.Program.{Program}
use Rattle.mx_asm.specs.declared.sizes.SectionOffset.{SectionOffset}
use Rattle.mx_asm.specs.Layout.{LinesAbove, no_lines_above, left_by, address_of_offset, address_of_label, label_named}
use Rattle.mx_asm.specs.Bytes.{AllStand, contents}
use Rattle.mx_asm.specs.Faults.{total_of}

-- a.out.h, n_sclass
abbrev pub class_of : Section → ℕ
class_of Text = 2
class_of Data = 3
class_of Bss = 4

abbrev pub symbol_under : LinesAbove → (Name × SectionOffset) → Symbol
symbol_under a e =
    record { name = e.0.bytes; value = address_of_offset a e.1; class = class_of e.1.section; auxiliary = 0; kind = 0 }

-- the address of the label in .entry, else 0; nothing if its name is no label
abbrev pub entry_under : LinesAbove → Option Name → Option ℕ
entry_under a None = Some 0
entry_under a (Some name) = address_of_label a (label_named a.labels name)

-- under the one address of each label that the lengths of the bytes give, all bytes are right, and so is the rest of
-- the program
pub record AreAssembled (lines : List Line) (p : Program) : Type 0 where
  pub bytes : List (List ℕ)
  pub stand : AllStand (left_by no_lines_above lines (map length bytes)) no_lines_above.sizes lines bytes
  pub text : p.text ≡ contents Text no_lines_above.sizes lines bytes
  pub init : p.init ≡ contents Data no_lines_above.sizes lines bytes
  pub bss : p.bss ≡ (left_by no_lines_above lines (map length bytes)).sizes.bss
  pub sep : p.sep ≡ (left_by no_lines_above lines (map length bytes)).sep
  pub entry : entry_under (left_by no_lines_above lines (map length bytes))
      (left_by no_lines_above lines (map length bytes)).entry ≡ Some p.entry
  pub total : p.total ≡ total_of (left_by no_lines_above lines (map length bytes))
  pub symbols : p.symbols
      ≡ map (symbol_under (left_by no_lines_above lines (map length bytes)))
      (left_by no_lines_above lines (map length bytes)).labels
