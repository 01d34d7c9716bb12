use Rattle.std.proofs.Common.{◌∙◌, ap, refl, sym}
use Rattle.mx_machine.specs.History.{BootAndHistory}
use Rattle.mx_explore.specs.Exploring.{setting}
use Rattle.mx_explore.proofs.CountLemmas.{boots, ran_from, services_back, shows_none}
use Rattle.mx_explore.proofs.exploring.Explorer.run.Goals as goal

pub machine-requires-clause-services : goal.machine-requires-clause-services
machine-requires-clause-services g c = c.requires.services

pub machine-requires-clause-records : goal.machine-requires-clause-records
machine-requires-clause-records g c = c.new.ensures.items ∙ sym (ap (λ (k : BootAndHistory). k.history) c.requires.kernel)

pub returns-in_err-machine-clause-shown : goal.returns-in_err-machine-clause-shown
returns-in_err-machine-clause-shown g c = shows_none _ _ _ _ refl refl

pub run_passing-requires-clause-kernel : goal.run_passing-requires-clause-kernel
run_passing-requires-clause-kernel g c = (boots c.args.self.now.boot c.in_ok-machine.machine c.args.services.items c.in_ok-machine.ensures c.requires).0

pub run_passing-requires-clause-room : goal.run_passing-requires-clause-room
run_passing-requires-clause-room g c = (boots c.args.self.now.boot c.in_ok-machine.machine c.args.services.items c.in_ok-machine.ensures c.requires).1

pub returns-in_err-ran-clause-shown : goal.returns-in_err-ran-clause-shown
returns-in_err-ran-clause-shown g c = shows_none _ _ _ _ refl refl

pub count-requires : goal.count-requires
count-requires g c = ran_from c.args.self.now c.in_ok-machine.machine c.in_ok-ran.ran c.as_slice.result.now c.in_ok-machine.ensures c.as_slice.ensures.value c.in_ok-ran.ensures

pub returns-clause-services : goal.returns-clause-services
returns-clause-services g c =
    c.into_services-services.ensures ∙ ap (λ (k : BootAndHistory). k.boot.services) c.into_kernel.ensures
    ∙ services_back (setting c.args.self.now.terms c.args.self.now.boot) c.args.self.now.departures.items c.args.self.now.boot c.args.services.items c.in_ok-ran.ran c.requires refl
    (ran_from c.args.self.now c.in_ok-machine.machine c.in_ok-ran.ran c.as_slice.result.now c.in_ok-machine.ensures c.as_slice.ensures.value c.in_ok-ran.ensures)

pub returns-clause-met : goal.returns-clause-met
returns-clause-met g c = (ran_from c.args.self.now c.in_ok-machine.machine c.in_ok-ran.ran c.as_slice.result.now c.in_ok-machine.ensures c.as_slice.ensures.value c.in_ok-ran.ensures).met

pub returns-clause-after : goal.returns-clause-after
returns-clause-after g c = (ran_from c.args.self.now c.in_ok-machine.machine c.in_ok-ran.ran c.as_slice.result.now c.in_ok-machine.ensures c.as_slice.ensures.value c.in_ok-ran.ensures).after
