use Rattle.std.proofs.Common.{◌∙◌, ◌++◌, ◌∷◌, [], ℕ, List, ap, sym}
use Rattle.mx_app_gdb.proofs.Lists.{one_more}
use Rattle.mx_app_gdb.proofs.addresses.bytes_for.Goals as goal

pub loop-offset-preserved : goal.loop-offset-preserved
loop-offset-preserved c =
    c.in_ok-push-in-Some.ensures.items ∙ ap (λ (xs : List ℕ). xs ++ c.in-Some.byte ∷ []) c.loop-offset.invariant
    ∙ sym (one_more c.segment_at-at.result.0.now c.segment_at-at.result.1 c.loop-offset.offset c.in-Some.byte (sym c.get.ensures ∙ c.in-Some.is))
