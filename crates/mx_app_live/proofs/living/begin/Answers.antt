use Rattle.std.proofs.Common.{◌≡◌, ◌∙◌, None, ap, arith, inl, inr, length}
use Rattle.std.proofs.lemmas.List.{length-replicate}
use Rattle.std.proofs.lemmas.Result.{err_from_is_err_and}
use Rattle.mx_app_start.proofs.SetupLemmas.{as_many_services}
use Rattle.mx_app_start.proofs.BootLemmas.{other_booted}
use Rattle.mx_machine.specs.Machine.{world_of}
use Rattle.mx_machine.specs.World.{World}
use Rattle.mx_app_live.proofs.living.begin.Goals as goal

pub returns-in_err-config-clause-fault : goal.returns-in_err-config-clause-fault
returns-in_err-config-clause-fault g c =
    let p = err_from_is_err_and c.from_residual.result c.from_residual.ensures.1 in
    let h = c.in_err-config.ensures.fault in
    rw (p.1, p.2) (h.0, h.1, inl h.2)

pub returns-in_err-spare_programs-clause-fault : goal.returns-in_err-spare_programs-clause-fault
returns-in_err-spare_programs-clause-fault g c =
    let p = err_from_is_err_and c.from_residual-in_err-spare_programs.result c.from_residual-in_err-spare_programs.ensures.1 in
    let s = c.in_ok-config.ensures.read in
    let h = c.in_err-spare_programs.ensures.over in
    rw (p.1, p.2) (s.0, s.1, inr (c.in_ok-config.config, c.in_ok-config.services.items, s.2, inl (h.0, h.1)))

pub boot-requires-clause-some : goal.boot-requires-clause-some
boot-requires-clause-some g c =
    let s = c.in_ok-config.ensures.read in
    omega (arith, as_many_services c.args.names.config.now s.0 c.in_ok-config.config c.in_ok-config.services.items s.2, c.in_ok-config.config.some_lines)

pub boot-requires-clause-few : goal.boot-requires-clause-few
boot-requires-clause-few g c =
    let s = c.in_ok-config.ensures.read in
    omega (arith, as_many_services c.args.names.config.now s.0 c.in_ok-config.config c.in_ok-config.services.items s.2, c.in_ok-config.config.lines_fit)

pub returns-in_err-boot-clause-fault : goal.returns-in_err-boot-clause-fault
returns-in_err-boot-clause-fault g c =
    let p = err_from_is_err_and c.from_residual-in_err-boot.result c.from_residual-in_err-boot.ensures.1 in
    let s = c.in_ok-config.ensures.read in
    rw (p.1, p.2) (s.0, s.1, inr (c.in_ok-config.config, c.in_ok-config.services.items, s.2, inr (search)))

pub returns-clause-begun : goal.returns-clause-begun
returns-clause-begun g c =
    let s = c.in_ok-config.ensures.read in
    (s.0, c.in_ok-config.config, c.in_ok-config.services.items, s.1, (s.2, c.in_ok-spare_programs.ensures.spared), c.in_ok-boot.ensures.world)

pub returns-clause-other : goal.returns-clause-other
returns-clause-other g c =
    let booted = c.in_ok-boot.ensures.world in
    let below = other_booted _ c.in_ok-config.config c.in_ok-config.services.items booted in
    let as_many : length (world_of c.in_ok-boot.field-0).cpus ≡ c.in_ok-config.config.cpus = ap (λ (w : World). length w.cpus) booted ∙ length-replicate c.in_ok-config.config.cpus None in
    omega (arith, below, as_many)
