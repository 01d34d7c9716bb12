use Rattle.std.proofs.Common.{[], refl, sym}
use Rattle.std.proofs.lemmas.List.{append-nil}
use Rattle.std.proofs.lemmas.Result.{err_from_is_err_and}
use Rattle.mx_app_explore.proofs.FoundLemmas.{one_free, one_spared}
use Rattle.mx_app_explore.proofs.exploring.spare_files.Goals as goal

pub loop-place-init : goal.loop-place-init
loop-place-init g c = ([], sym (append-nil _), refl)

pub loop-place-preserved : goal.loop-place-preserved
loop-place-preserved g c =
    let h = c.in_ok-spare_numbered.ensures in
    one_free c.args.name.now c.loop-place.place _ _ _ _ h.0 refl c.loop-place.invariant h.1 h.2

pub returns-in_err-spare_numbered-clause-spared : goal.returns-in_err-spare_numbered-clause-spared
returns-in_err-spare_numbered-clause-spared g c =
    let p = err_from_is_err_and c.from_residual.result c.from_residual.ensures.1 in
    let h = c.in_err-spare_numbered.ensures in
    rw (p.1, p.2) (one_spared c.args.name.now c.args.count c.loop-place.place _ _ _ _ h.0 _ c.loop-place-test.true refl c.loop-place.invariant h.1 h.2)
