use Rattle.std.proofs.Common.{List, ℕ, sym, subst}
use Rattle.mx_aout.specs.File.{FileIs, refusal_of}
use Rattle.mx_aout.proofs.OneProgram.{read_again}
use Rattle.mx_aout.proofs.writing.read_back.Goals as goal

pub returns : goal.returns
returns c =
    let file = subst (λ (b : List ℕ). FileIs b c.args.program.now) (sym c.as_slice.ensures.value) c.in_ok-bytes.ensures.file in
    read_again (refusal_of c.as_slice.result.now) c.as_slice.result.now c.args.program.now c.read.result file.accepted file c.read.ensures
