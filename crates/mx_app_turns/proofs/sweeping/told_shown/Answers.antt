use Rattle.std.proofs.Common.{subst}
use Rattle.mx_turns.specs.Ahead.{IsTold, boot_of}
use Rattle.mx_app_turns.proofs.sweeping.told_shown.Goals as goal

pub returns-clause-told : goal.returns-clause-told
returns-clause-told g c =
    let told = subst (λ k. IsTold c.args.sweep (boot_of c.args.ahead.now) k c.in_ok-told.told) c.requires.there c.in_ok-told.ensures.told in
    (told.text, told.findings)
