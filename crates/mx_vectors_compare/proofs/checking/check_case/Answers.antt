use Rattle.mx_vectors_compare.proofs.Comparing.{agreeing}
use Rattle.mx_vectors_compare.proofs.checking.check_case.Goals as goal

pub returns-clause-same : goal.returns-clause-same
returns-clause-same g c = agreeing c.args.case.now _ _ _ c.is_whole-whole.ensures c.is_spelled-spelled.ensures c.in_ok-step.ensures.same
