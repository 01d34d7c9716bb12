-- The program of a text, or its first fault.
use Rattle.std.specs.Prelude.{◌≡◌, ℕ, ◌+◌, ◌⊎◌, List, [], ◌∷◌, ◌++◌, Some, None, ⊤}
use Rattle.mx_text.specs.Lines.{lines}
use Rattle.mx_lex.specs.Tokens.{IsLexFault}
use Rattle.mx_lex.specs.declared.kinds.LexError.{LexError}
use Rattle.mx_lex.specs.declared.kinds.LexError.TheVariants as lexical
use Rattle.mx_asm_statement.specs.declared.line.Line.{Line}
use Rattle.mx_asm_statement.specs.declared.line.Reason.{Reason}
use Rattle.mx_asm_statement.specs.Lines.{IsLine}
use Rattle.mx_aout.specs.declared.program.Program.{Program}
use Rattle.mx_asm.specs.declared.fault.Problem.{Problem}
use Rattle.mx_asm.specs.declared.fault.Problem.TheVariants.{BadByte, BadNumber, OpenText}
use Rattle.mx_asm.specs.declared.fault.Fault.{Fault}
use Rattle.mx_asm.specs.declared.fault.AsmError.{AsmError}
use Rattle.mx_asm.specs.declared.fault.AsmError.TheVariants.{At, NoMemory}
use Rattle.mx_asm.specs.Lengths.{statement_length}
use Rattle.mx_asm.specs.Layout.{LinesAbove, Seen, unseen, seen_with, seen_of, above_with, statement_said}
use Rattle.mx_asm.specs.Layout.{refusal_of_line}
use Rattle.mx_asm.specs.Faults.{problem_of, fault_after}
use Rattle.mx_asm.specs.Assembled.{AreAssembled}
use Rattle.mx_asm.specs.Kept.{line_kept}
use Rattle.mx_asm.specs.declared.numbered.NumberedLine.{NumberedLine}

-- the problem of bytes that are no tokens
abbrev pub TellsOf : LexError → Problem → Type 0
TellsOf (lexical.BadByte at) p = p ≡ BadByte
TellsOf (lexical.BadNumber at) p = p ≡ BadNumber
TellsOf (lexical.OpenText at) p = p ≡ OpenText
TellsOf lexical.NoMemory p = ⊥

abbrev pub TellsLexical : LexError → ℕ → AsmError → Type 0
TellsLexical e n NoMemory = e ≡ lexical.NoMemory
TellsLexical e n (At f) = (f.line ≡ n) × TellsOf e f.problem

-- what is wrong with a line for itself and the lines above it: its bytes, else the first reason to refuse it
abbrev pub IsLineWrong : Seen → List ℕ → Problem → Type 0
IsLineWrong s t p =
    ((e : LexError) × IsLexFault t e × TellsOf e p)
    ⊎ ((l : Line) × (r : Reason) × IsLine t l × (refusal_of_line s l ≡ Some r) × (p ≡ problem_of r))

-- the bytes are this line, and nothing is wrong with it
abbrev pub IsLineTaken : Seen → List ℕ → Line → Type 0
IsLineTaken s t l = IsLine t l × (refusal_of_line s l ≡ None)

-- after a line that is taken
abbrev pub on_after : LinesAbove → Line → LinesAbove
on_after a l = above_with a l (statement_length (statement_said l))

-- the texts are these lines, and nothing is wrong with them
abbrev pub AreLinesTaken : Seen → List (List ℕ) → List Line → Type 0
AreLinesTaken s [] [] = ⊤
AreLinesTaken s (t ∷ ts) (l ∷ ls) = IsLineTaken s t l × AreLinesTaken (seen_with s l) ts ls
AreLinesTaken s _ _ = ⊥

-- one line more, line n, isn't refused
abbrev pub Accepts : LinesAbove → LinesAbove → ℕ → Line → List NumberedLine → List NumberedLine → Type 0
Accepts a b n l old new = (refusal_of_line (seen_of a) l ≡ None) × (b ≡ on_after a l) × (new ≡ old ++ line_kept n l)

-- one line more is taken
pub record TakesLine (a b : LinesAbove) (n : ℕ) (t : List ℕ) (old new : List NumberedLine) : Type 0 where
  pub line : Line
  pub taken : IsLineTaken (seen_of a) t line
  pub following_is : b ≡ on_after a line
  pub lines_are : new ≡ old ++ line_kept n line

-- the first line with which something is wrong, the first of these being line n
abbrev pub IsFirstLineWrong : Seen → ℕ → List (List ℕ) → Fault → Type 0
IsFirstLineWrong s n [] f = ⊥
IsFirstLineWrong s n (t ∷ ts) f =
    ((f.line ≡ n) × IsLineWrong s t f.problem)
    ⊎ ((l : Line) × IsLineTaken s t l × IsFirstLineWrong (seen_with s l) (n + 1) ts f)

-- the text has these lines, and none has a problem
abbrev pub AreLinesAccepted : List ℕ → List Line → Type 0
AreLinesAccepted t ls = AreLinesTaken unseen (lines t) ls × (fault_after ls ≡ None)

-- the text has these lines, none is refused, and they make this program
abbrev pub IsAssembled : List ℕ → Program → Type 0
IsAssembled t p = (ls : List Line) × AreLinesTaken unseen (lines t) ls × AreAssembled ls p

-- the first line with which something is wrong, else the fault of all lines
abbrev pub HasTextFault : List ℕ → Fault → Type 0
HasTextFault t f =
    IsFirstLineWrong unseen 1 (lines t) f
    ⊎ ((ls : List Line) × AreLinesTaken unseen (lines t) ls × (fault_after ls ≡ Some f))

-- unless memory runs out
abbrev pub TellsTextFault : List ℕ → AsmError → Type 0
TellsTextFault t NoMemory = ⊤
TellsTextFault t (At f) = HasTextFault t f

abbrev pub TellsFirstLine : List ℕ → AsmError → Type 0
TellsFirstLine t NoMemory = ⊤
TellsFirstLine t (At f) = IsFirstLineWrong unseen 1 (lines t) f

-- of this line; memory runs out only if it isn't refused
abbrev pub TellsRefusal : Seen → ℕ → Line → AsmError → Type 0
TellsRefusal s n l NoMemory = refusal_of_line s l ≡ None
TellsRefusal s n l (At f) = (f.line ≡ n) × ((r : Reason) × (refusal_of_line s l ≡ Some r) × (f.problem ≡ problem_of r))

abbrev pub TellsLineWrong : Seen → ℕ → List ℕ → AsmError → Type 0
TellsLineWrong s n t NoMemory = ⊤
TellsLineWrong s n t (At f) = (f.line ≡ n) × IsLineWrong s t f.problem
