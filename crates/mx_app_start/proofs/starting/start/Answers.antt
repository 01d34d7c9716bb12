use Rattle.std.proofs.Common.{inl, refl}
use Rattle.std.proofs.lemmas.Result.{err_from_is_err_and}
use Rattle.mx_machine.specs.Machine.{world_of}
use Rattle.mx_app_start.proofs.BootLemmas.{other_booted}
use Rattle.mx_app_start.proofs.SetupLemmas.{not_booted}
use Rattle.mx_app_start.proofs.starting.start.Goals as goal

pub returns-in_err-config-clause-fault : goal.returns-in_err-config-clause-fault
returns-in_err-config-clause-fault g c =
    let p = err_from_is_err_and c.from_residual.result c.from_residual.ensures.1 in
    let h = c.in_err-config.ensures.fault in
    rw (p.1, p.2) (h.0, h.1, inl h.2)

pub returns-in_err-machine-clause-fault : goal.returns-in_err-machine-clause-fault
returns-in_err-machine-clause-fault g c =
    let p = err_from_is_err_and c.from_residual-in_err-machine.result c.from_residual-in_err-machine.ensures.1 in
    let h = c.in_ok-config.ensures.read in
    rw (p.1, p.2) (
      h.0,
      h.1,
      not_booted g.C.Course.IsSaid g.C.Course.Tells c.args.config.now c.args.text.now h.0 c.in_ok-config.config c.in_ok-config.services.items c.in_ok-config.lines.items _ h.2 (search),
    )

pub boot-requires-clause-some : goal.boot-requires-clause-some
boot-requires-clause-some g c = c.in_ok-config.ensures.some

pub boot-requires-clause-few : goal.boot-requires-clause-few
boot-requires-clause-few g c = c.in_ok-config.ensures.few

pub returns-clause-started : goal.returns-clause-started
returns-clause-started g c =
    let h = c.in_ok-config.ensures.read in (
      h.0,
      c.in_ok-config.config,
      c.in_ok-config.services.items,
      h.1,
      h.2,
      c.in_ok-machine.ensures.world,
      refl,
      refl,
      c.in_ok-config.ensures.some,
      c.in_ok-config.ensures.few,
    )

pub returns-clause-other : goal.returns-clause-other
returns-clause-other g c = other_booted (world_of c.in_ok-machine.machine) c.in_ok-config.config c.in_ok-config.services.items c.in_ok-machine.ensures.world
