-- How an instruction is written: the word of what it does, and its operands.
use Rattle.std.specs.Prelude.{ℕ, true, List, [], ◌∷◌, ◌++◌, codes, Option, Some, None}
use Rattle.std.specs.List.{join_by}
use Rattle.mx_insn.specs.declared.insn.Repeat.TheVariants as repeats
use Rattle.mx_insn.specs.declared.insn.Insn.{Insn}
use Rattle.mx_insn.specs.declared.insn.Insn.TheVariants as insns
use Rattle.mx_insn_words.specs.declared.start.Prefix.{Prefix}
use Rattle.mx_insn_words.specs.declared.start.Prefix.TheVariants.{Rep, Repe, Repne}
use Rattle.mx_insn_words.specs.Words.{word_of, prefix_word}
use Rattle.mx_insn_words.specs.Instructions.{mnemonic_of, written_operands}
use Rattle.mx_insn_words.specs.declared.written.Written.{Written}
use Rattle.mx_insn_words.specs.Operands.{operand_text}

-- REP, REPE or REPNE in front of a string instruction that repeats, and of nothing else
abbrev pub prefix_of : Insn → Option Prefix
prefix_of (insns.Transfer o size true) = Some Rep
prefix_of (insns.Compare o size (Some repeats.Repe)) = Some Repe
prefix_of (insns.Compare o size (Some repeats.Repne)) = Some Repne
prefix_of i = None

abbrev pub prefix_text : Option Prefix → List ℕ
prefix_text None = []
prefix_text (Some x) = prefix_word x ++ codes " "

-- after a word: nothing, or a space and the operands with `, ` between them
abbrev pub operands_text : List Written → List ℕ
operands_text [] = []
operands_text (x ∷ xs) = codes " " ++ join_by operand_text (codes ", ") (x ∷ xs)

-- an instruction, by the address of the next one
abbrev pub statement_text : ℕ → Insn → List ℕ
statement_text next i =
    prefix_text (prefix_of i) ++ (word_of (mnemonic_of i) ++ operands_text (written_operands next i))
