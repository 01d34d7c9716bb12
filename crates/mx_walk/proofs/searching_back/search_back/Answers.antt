use Rattle.std.proofs.Common.{◌∙◌, ◌++◌, List, ap, length, arith}
use Rattle.mx_walk.specs.declared.progress.Part.{Part}
use Rattle.mx_walk.proofs.PartsShown.{all_between, then_between}
use Rattle.mx_walk.proofs.searching_back.search_back.Goals as goal

pub returns-clause-shown : goal.returns-clause-shown
returns-clause-shown g c =
    let e = c.search_stretches-back.ensures in
    let all = length c.args.origin.records.now in
    let before = g.P.Progress.shown c.args.progress.now in
    then_between all 0 c.search_stretches-back.new.shown c.args.here.records before _ _ (omega arith) e.few e.shown c.show_parts.ensures
    ∙ ap (λ (ps : List Part). before ++ ps) (all_between all c.args.here.records)
