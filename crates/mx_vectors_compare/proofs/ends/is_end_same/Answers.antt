use Rattle.std.proofs.Common.{◌∙◌, sym, eq-eqb}
use Rattle.std.proofs.lemmas.Bool.{eqb-true}
use Rattle.mx_vectors_compare.proofs.EndComparing.{ended}
use Rattle.mx_vectors_compare.proofs.ends.is_end_same.Goals as goal

pub returns : goal.returns
returns c =
    let memory = c.is_memory_same.ensures in
    let bytes = c.as_slice.ensures in
    ended c.args.case.now c.args.outcome c.args.image.now _ _ _ _ _ c.is_outcome_same.ensures c.are_registers_same.ensures (eqb-true _ _, eq-eqb _ _)
    c.are_flags_same.ensures ((λ t. memory.0 t ∙ bytes), (λ e. memory.1 (e ∙ sym bytes)))
