use Rattle.std.proofs.Common.{◌≡◌, ◌∙◌, ◌+◌, List, ap, arith, sym}
use Rattle.std.specs.List.{sum_by}
use Rattle.std.proofs.lemmas.List.{take_all}
use Rattle.std.proofs.lemmas.List.Sums.{sum_by_more}
use Rattle.mx_machine.specs.declared.history.Record.{Record}
use Rattle.mx_machine.specs.declared.history.Recorded.TheVariants as recorded
use Rattle.mx_why.specs.AfterRun.{steps_of}
use Rattle.mx_why.proofs.after_run.steps_in.Goals as goal

pub loop-record-preserved : goal.loop-record-preserved
loop-record-preserved c =
    let steps = λ (x : Record). steps_of x.event in
    let none : Record = record { actor = 0; event = recorded.Take } in
    let more = sum_by_more steps c.args.records.now c.loop-record.record-index none c.loop-record-test.true in
    record {
      made = omega (arith, c.loop-record.invariant.made, c.steps_of.ensures, c.from-steps.ensures, more);
      few = omega (arith, c.loop-record.invariant.few);
    }

pub returns : goal.returns
returns c = c.loop-record.invariant.made ∙ ap (λ (rs : List Record). sum_by (λ (x : Record). steps_of x.event) rs) (take_all c.loop-record.record-index c.args.records.now (omega arith))
