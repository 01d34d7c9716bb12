use Rattle.std.proofs.Common.{◌∙◌, ap, ℕ, refl, eq-eqb}
use Rattle.std.specs.Prelude.{unwrap_or, Option}
use Rattle.std.proofs.lemmas.Bool.{eqb-true}
use Rattle.std.proofs.lemmas.Option.{unwrap_or-slice_get}
use Rattle.mx_vectors_compare.proofs.EndComparing.{same_none, tested_more, same_all}
use Rattle.mx_vectors_compare.proofs.ends.is_memory_same.Goals as goal

pub loop-at-init : goal.loop-at-init
loop-at-init c = same_none c.limit.result c.args.memory.now c.args.wanted.now c.limit.ensures

pub loop-at-preserved : goal.loop-at-preserved
loop-at-preserved c =
    tested_more c.args.memory.now c.args.wanted.now c.loop-at.at _ _ c.loop-at.same _ c.loop-at-test.true
    (c.unwrap_or-found.ensures ∙ (ap (λ (o : Option ℕ). unwrap_or o 0) c.get.ensures ∙ unwrap_or-slice_get c.args.memory.now c.loop-at.at 0))
    refl c.loop-at.invariant (eqb-true _ _, eq-eqb _ _)

pub returns : goal.returns
returns c =
    let all = same_all c.args.memory.now c.args.wanted.now c.loop-at.at c.loop-at-test.false in
    let i = c.loop-at.invariant in
    ((λ t. all.0 (i.0 t)), (λ e. i.1 (all.1 e)))
