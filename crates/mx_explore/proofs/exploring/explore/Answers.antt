use Rattle.std.proofs.Common.{◌∙◌, [], ap, refl, sym}
use Rattle.std.proofs.lemmas.List.{append-nil}
use Rattle.mx_machine.specs.History.{BootAndHistory}
use Rattle.mx_explore.specs.declared.exploring.Explorer.{Explorer}
use Rattle.mx_explore.proofs.CountLemmas.{err_not_ok, explored_all, shows_all, starts_at}
use Rattle.mx_explore.proofs.exploring.explore.Goals as goal

pub returns-in_err-boot-clause-shown : goal.returns-in_err-boot-clause-shown
returns-in_err-boot-clause-shown g c = ([], 0, sym (append-nil _), refl, err_not_ok c.from_residual.result _ _ c.from_residual.ensures.1)

pub explore-requires : goal.explore-requires
explore-requires g c =
    starts_at c.args.machine c.in_ok-boot.boot c.args.machine.kernel.boot.services c.into_services-services.result.items c.in_ok-boot.ensures
    (c.into_services-services.ensures ∙ ap (λ (k : BootAndHistory). k.boot.services) c.into_kernel.ensures) c.requires.boot

pub returns-in_err-services-clause-shown : goal.returns-in_err-services-clause-shown
returns-in_err-services-clause-shown g c =
    let h = shows_all c.new-3.result c.explore.new.self.tally.schedules _ _ c.new-3.ensures c.in_err-services.ensures.shown in
    (h.0, c.explore.new.self.tally.schedules, h.1, h.2, err_not_ok c.from_residual-in_err-services.result _ _ c.from_residual-in_err-services.ensures.1)

pub returns-clause-done : goal.returns-clause-done
returns-clause-done g c =
    let ok = c.in_ok-services.ensures in
    let a : Explorer = record { terms = c.args.terms; boot = c.in_ok-boot.boot; departures = c.new-2.result; tally = c.new-3.result; known = 1 } in
    record {
      found = explored_all a c.explore.new.self c.args.terms.departures c.args.machine c.sort.new.self c.in_ok-boot.ensures c.new-2.ensures.items c.new-3.ensures ok.counted c.sort.ensures.tally;
      boot = ok.same.boot ∙ c.in_ok-boot.ensures;
      ready = starts_at c.args.machine c.args.machine c.args.machine.kernel.boot.services _ refl (ok.services ∙ c.into_services-services.ensures ∙ ap (λ (k : BootAndHistory). k.boot.services) c.into_kernel.ensures) c.requires.boot;
    }

pub returns-clause-shown : goal.returns-clause-shown
returns-clause-shown g c =
    let h = shows_all c.new-3.result c.explore.new.self.tally.schedules _ _ c.new-3.ensures c.in_ok-services.ensures.shown in
    (h.0, c.explore.new.self.tally.schedules, h.1, h.2, c.sort.ensures.schedules)
