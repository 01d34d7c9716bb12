-- The answers to the lines of a script as they are printed: after their lines' numbers, or without (our own). Each line
-- of a script has an answer, so the answers' numbers are those of the lines.
use Rattle.std.specs.Prelude.{ℕ, ◌+◌, Bool, true, false, List, [], ◌∷◌, ◌++◌, codes}
use Rattle.std.specs.Fmt.{decimal}
use Rattle.mx_print_answers.specs.declared.said.Said.{Said}
use Rattle.mx_print_answers.specs.Said.{said_line, said_lines}

-- `3: done`
abbrev pub numbered_line : ℕ → Said → List ℕ
numbered_line n s = decimal n ++ codes ": " ++ said_line s ++ codes "\n"

-- the first of these answers is that of line n
abbrev pub numbered_lines : ℕ → List Said → List ℕ
numbered_lines n [] = []
numbered_lines n (s ∷ more) = numbered_line n s ++ numbered_lines (n + 1) more

-- ALL ANSWERS
unfoldable pub answers_text : Bool → List Said → List ℕ
answers_text true said = numbered_lines 1 said
answers_text false said = said_lines said
