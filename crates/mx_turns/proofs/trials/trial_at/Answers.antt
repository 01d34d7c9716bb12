use Rattle.std.proofs.Common.{◌∙◌, IfOk, List, ap, length, subst, sym, take}
use Rattle.mx_machine.specs.declared.history.Record.{Record}
use Rattle.mx_machine.specs.History.{BootAndHistory}
use Rattle.mx_machine.specs.World.{World}
use Rattle.mx_turns.specs.declared.trials.Trial.{Trial}
use Rattle.mx_turns.specs.Swept.{IsSwept, IsTrial}
use Rattle.mx_turns.proofs.ComingLemmas.{coming_on, room}
use Rattle.mx_turns.proofs.HistoryLemmas.{first_records, later_on}
use Rattle.mx_turns.proofs.trials.trial_at.Goals as goal

pub trial_here-requires-clause-swept : goal.trial_here-requires-clause-swept
trial_here-requires-clause-swept c = subst (λ (w : World). IsSwept c.args.sweep w) (sym c.go_along.ensures.boot) c.requires.swept

pub pass-requires : goal.pass-requires
pass-requires c = room c.args.sweep.records.now c.args.pair.position c.args.position c.requires.later c.args.pair.coming c.requires.pair.coming

pub trial_here-requires-clause-coming : goal.trial_here-requires-clause-coming
trial_here-requires-clause-coming c =
    coming_on c.args.sweep.records.now c.args.pair.position c.args.position c.requires.later c.args.pair.coming c.requires.pair.coming c.pass.new.self c.pass.ensures.all c.pass.ensures.past

pub trial_here-requires-clause-parts : goal.trial_here-requires-clause-parts
trial_here-requires-clause-parts c =
    let records = c.args.sweep.records.now in
    let pair = c.args.pair in
    let is = c.parts_of-parts.ensures in
    let here = c.history.ensures ∙ ap (λ (k : BootAndHistory). k.history) c.kernel.ensures in
    record {
      services = is.services ∙ ap (λ (w : World). w.services) (c.requires.pair.boot ∙ sym c.go_along.ensures.boot);
      records =
          first_records pair.along.kernel.history c.go_along.new.machine.kernel.history c.parts_of-parts.result.records.items (is.records ∙ ap (λ (xs : List Record). take (length xs) pair.copy.kernel.history) here ∙ c.requires.pair.begins)
          (later_on records pair.position pair.along c.requires.pair.along c.args.position c.go_along.new.machine c.requires.later c.go_along.ensures.along c.go_along.ensures.boot c.requires.swept.accepted);
    }

pub returns : goal.returns
returns c =
    subst (λ (w : World). IfOk c.trial_here.result (λ (done : Trial). IsTrial c.args.sweep w c.args.position done)) c.go_along.ensures.boot c.trial_here.ensures
