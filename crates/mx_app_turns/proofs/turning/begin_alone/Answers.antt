use Rattle.std.proofs.Common.{arith, inl, inr, refl}
use Rattle.std.proofs.lemmas.Result.{err_from_is_err_and}
use Rattle.mx_app_start.proofs.SetupLemmas.{as_many_services}
use Rattle.mx_app_turns.proofs.turning.begin_alone.Goals as goal

pub returns-in_err-config-clause-fault : goal.returns-in_err-config-clause-fault
returns-in_err-config-clause-fault g c =
    let p = err_from_is_err_and c.from_residual.result c.from_residual.ensures.1 in
    let h = c.in_err-config.ensures.fault in
    rw (p.1, p.2) (h.0, h.1, inl h.2)

pub boot-requires-clause-some : goal.boot-requires-clause-some
boot-requires-clause-some g c =
    let s = c.in_ok-config.ensures.read in
    omega (arith, as_many_services c.args.name.now s.0 c.in_ok-config.config c.in_ok-config.services.items s.2, c.in_ok-config.config.some_lines)

pub boot-requires-clause-few : goal.boot-requires-clause-few
boot-requires-clause-few g c =
    let s = c.in_ok-config.ensures.read in
    omega (arith, as_many_services c.args.name.now s.0 c.in_ok-config.config c.in_ok-config.services.items s.2, c.in_ok-config.config.lines_fit)

pub returns-in_err-machine-clause-fault : goal.returns-in_err-machine-clause-fault
returns-in_err-machine-clause-fault g c =
    let p = err_from_is_err_and c.from_residual-in_err-machine.result c.from_residual-in_err-machine.ensures.1 in
    let s = c.in_ok-config.ensures.read in
    rw (p.1, p.2) (s.0, s.1, inr (c.in_ok-config.config, c.in_ok-config.services.items, s.2, (search)))

pub returns-clause-begun : goal.returns-clause-begun
returns-clause-begun g c =
    let s = c.in_ok-config.ensures.read in (
      s.0,
      c.in_ok-config.config,
      c.in_ok-config.services.items,
      s.1,
      (s.2, c.new.ensures.items),
      c.in_ok-machine.ensures.world,
      refl,
    )
