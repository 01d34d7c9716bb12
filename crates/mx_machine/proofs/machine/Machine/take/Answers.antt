use Rattle.std.proofs.Common.{◌≡◌, ◌∙◌, ◌<◌, get_or, length, None, Ok, Err, slice_set, refl, ap, subst, arith}
use Rattle.std.proofs.lemmas.Result.{err_from_is_err_and}
use Rattle.mx_machine.specs.declared.events.Answer.TheVariants.{Taken}
use Rattle.mx_machine.specs.declared.events.Event.TheVariants.{Take}
use Rattle.mx_machine.specs.declared.history.Recorded.TheVariants.{Take as Taking}
use Rattle.mx_machine.specs.History.{with_record}
use Rattle.mx_machine.specs.Move.{move}
use Rattle.mx_machine.proofs.LentLemmas.{run_none}
use Rattle.mx_machine.specs.Machine.{MachineState, world_of}
use Rattle.mx_machine.proofs.DoneLemmas.{any_default, on}
use Rattle.mx_machine.proofs.PlaceLemmas.{busy_beyond, refused_running, refused_take, taken_moved, taken_running}
use Rattle.mx_machine.proofs.machine.Machine.take.Goals as goal

pub returns-then-cpu-ge8-clause-moved : goal.returns-then-cpu-ge8-clause-moved
returns-then-cpu-ge8-clause-moved c = busy_beyond c.args.self.now.kernel c.args.self.now.outs c.args.cpu c.facts.ensures (omega arith)

pub invariant_of-self : goal.invariant_of-self
invariant_of-self c =
    let os = c.self.inside.outs in
    let below : c.args.cpu < length os = omega (arith, c.self.invariant.places) in
    refused_running c.self.inside.kernel c.take.new.kernel os c.args.cpu (get_or os c.args.cpu c.index-self-cpu.result) c.take.new.self _ c.self.invariant (any_default os c.args.cpu None c.index-self-cpu.result below) c.in_err-budget.ensures.same c.in_err-budget.ensures.err

pub returns-in_err-budget-clause-moved : goal.returns-in_err-budget-clause-moved
returns-in_err-budget-clause-moved c =
    let p = err_from_is_err_and c.from_residual.result c.from_residual.ensures.1 in
    let k = c.self.inside.kernel in
    let os = c.self.inside.outs in
    let below : c.args.cpu < length os = omega (arith, c.self.invariant.places) in
    rw (p.1, p.2) (subst (λ (m : MachineState). move (world_of m) c.args.cpu Take ≡ (Err c.in_err-budget.field-0.0, world_of (on c.take.new.kernel (slice_set os c.args.cpu c.take.new.self)))) c.self.view_is
    (refused_take k c.take.new.kernel os c.args.cpu (get_or os c.args.cpu c.index-self-cpu.result) c.take.new.self c.in_err-budget.field-0.0 (any_default os c.args.cpu None c.index-self-cpu.result below) c.in_err-budget.ensures.same c.in_err-budget.ensures.err))

pub returns-in_err-budget-clause-recorded : goal.returns-in_err-budget-clause-recorded
returns-in_err-budget-clause-recorded c =
    let p = err_from_is_err_and c.from_residual.result c.from_residual.ensures.1 in
    rw p.1 (c.in_err-budget.ensures.err.1 ∙ ap (λ (m : MachineState). m.kernel) c.self.view_is)

pub invariant_of-self-2 : goal.invariant_of-self-2
invariant_of-self-2 c =
    let os = c.self.inside.outs in
    let below : c.args.cpu < length os = omega (arith, c.self.invariant.places) in
    let l = c.in_ok-budget.ensures.lent in
    let fresh = c.facts-2.ensures.fresh c.args.cpu l.0 l.1 in
    taken_running c.self.inside.kernel c.take.new.kernel os c.args.cpu l.0 c.take.new.self below c.self.invariant c.in_ok-budget.ensures.ok l.1 l.2 (run_none l.0.out l.0.out refl fresh.count fresh.stop)

pub returns-clause-moved : goal.returns-clause-moved
returns-clause-moved c =
    let k = c.self.inside.kernel in
    let n = c.take.new.kernel in
    let os = c.self.inside.outs in
    let below : c.args.cpu < length os = omega (arith, c.self.invariant.places) in
    let l = c.in_ok-budget.ensures.lent in
    subst (λ (m : MachineState). move (world_of m) c.args.cpu Take ≡ (Ok (Taken c.endpoint_on.result c.in_ok-budget.budget), world_of (on n (slice_set os c.args.cpu c.take.new.self)))) c.self.view_is
    (taken_moved k n os c.args.cpu c.endpoint_on.result c.in_ok-budget.budget l.0 c.take.new.self below c.in_ok-budget.ensures.ok l.1 l.2 l.3 c.endpoint_on.ensures)

pub returns-clause-recorded : goal.returns-clause-recorded
returns-clause-recorded c = c.in_ok-budget.ensures.ok.recorded ∙ ap (λ (m : MachineState). with_record m.kernel c.args.cpu Taking) c.self.view_is
