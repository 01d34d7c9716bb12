use Rattle.std.proofs.Common.{ℕ, List}
use Rattle.mx_asm_statement.specs.declared.line.Line.{Line}
use Rattle.mx_aout.specs.declared.program.Program.{Program}
use Rattle.mx_asm.specs.Text.{AreLinesAccepted, IsAssembled}
use Rattle.mx_asm.proofs.Deciding.{never_program_and_fault, never_neither}
use Rattle.mx_asm.proofs.Making.{lines_have_program}
use Rattle.mx_asm.proofs.Refuting.{none_made}
use Rattle.mx_asm.proofs.assembly_laws.program_or_fault.Goals as goal

pub returns-clause-accepted : goal.returns-clause-accepted
returns-clause-accepted c t ls accepted = lines_have_program t ls accepted.0 accepted.1

pub returns-clause-not_both : goal.returns-clause-not_both
returns-clause-not_both c = never_program_and_fault c.one_line.ensures c.line_or_fault.ensures.not_both none_made

pub returns-clause-not_neither : goal.returns-clause-not_neither
returns-clause-not_neither c =
    let have : (t : List ℕ) (ls : List Line) → AreLinesAccepted t ls → (p : Program) × IsAssembled t p = returns-clause-accepted c in
    never_neither c.line_or_fault.ensures.not_neither have
