use Rattle.std.proofs.lemmas.Result.{err_from_is_err_and}
use Rattle.mx_app_turns.proofs.turning.begin_turns.Goals as goal

pub returns-in-None-clause-begun : goal.returns-in-None-clause-begun
returns-in-None-clause-begun g c = rw c.in-None.is c.begin_alone.ensures.begun

pub returns-in-None-clause-fault : goal.returns-in-None-clause-fault
returns-in-None-clause-fault g c = rw c.in-None.is c.begin_alone.ensures.fault

pub returns-in_err-started-in-Some-clause-fault : goal.returns-in_err-started-in-Some-clause-fault
returns-in_err-started-in-Some-clause-fault g c =
    let p = err_from_is_err_and c.from_residual.result c.from_residual.ensures.1 in
    let h = c.in_err-started-in-Some.ensures.fault in
    rw (p.1, p.2, c.in-Some.is) (h.0, h.1, h.2)

pub returns-in_ok-started-in-Some-clause-begun : goal.returns-in_ok-started-in-Some-clause-begun
returns-in_ok-started-in-Some-clause-begun g c =
    let s = c.in_ok-started-in-Some.ensures.started in
    rw c.in-Some.is (s.0, s.1, s.2, s.3, s.4, s.5, s.7)
