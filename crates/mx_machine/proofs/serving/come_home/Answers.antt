use Rattle.mx_machine.proofs.ServingLemmas.{is_returned, home_as}
use Rattle.mx_machine.proofs.serving.come_home.Goals as goal

pub returns-clause-returned : goal.returns-clause-returned
returns-clause-returned c =
    is_returned _ _ _ (record { slot = c.args.slot; out = c.args.out.now }) c.requires.slot (home_as _ _ _ _ _ c.take_home_from.ensures.value c.spend.ensures.value) c.resume.ensures.frame c.resume.ensures.console c.resume.ensures.settled
