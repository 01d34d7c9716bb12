use Rattle.std.proofs.Common.{◌≡◌, ◌∙◌, ◌<◌, get_or, length, None, Ok, Err, slice_set, ap, subst, arith}
use Rattle.mx_machine.specs.declared.events.Answer.TheVariants.{Returned}
use Rattle.mx_machine.specs.declared.events.Event.TheVariants.{Back}
use Rattle.mx_machine.specs.declared.events.Refusal.TheVariants.{CpuEmpty}
use Rattle.mx_machine.specs.declared.history.Recorded.TheVariants as recorded
use Rattle.mx_machine.specs.History.{with_record}
use Rattle.mx_machine.specs.Move.{move}
use Rattle.mx_machine.specs.Machine.{MachineState, world_of}
use Rattle.mx_machine.proofs.DoneLemmas.{any_default, none_beyond, on}
use Rattle.mx_machine.proofs.MachineLemmas.{empty-refused}
use Rattle.mx_machine.proofs.PlaceLemmas.{back_moved, back_recorded, left_running, may_come_back, nothing_moved, nothing_running}
use Rattle.mx_machine.proofs.machine.Machine.back.Goals.{in-Some, in-None}
use Rattle.mx_machine.proofs.machine.Machine.back.Goals as goal

pub returns-then-cpu-ge8-clause-moved : goal.returns-then-cpu-ge8-clause-moved
returns-then-cpu-ge8-clause-moved c = empty-refused (world_of c.args.self.now) c.args.cpu Back tt (none_beyond c.args.self.now.kernel c.args.self.now.outs c.args.cpu c.facts.ensures (omega arith))

pub back-requires : goal.back-requires
back-requires c =
    let os = c.self.inside.outs in
    let below : c.args.cpu < length os = omega (arith, c.self.invariant.places) in
    may_come_back c.self.inside.kernel os c.args.cpu (get_or os c.args.cpu c.index-self-cpu.result) c.self.invariant (any_default os c.args.cpu None c.index-self-cpu.result below)

pub invariant_of-self : goal.invariant_of-self
invariant_of-self c =
    let k = c.self.inside.kernel in
    let n = c.back.new.kernel in
    let os = c.self.inside.outs in
    let x = get_or os c.args.cpu c.index-self-cpu.result in
    let below : c.args.cpu < length os = omega (arith, c.self.invariant.places) in
    let at = any_default os c.args.cpu None c.index-self-cpu.result below in
    elim c.match-back.branch [
      | in-Some w ↦ left_running k n os c.args.cpu w.in-Some.count x c.back.new.self below c.self.invariant at c.back.ensures.empty w.in-Some.ensures.some
      | in-None w ↦ nothing_running k n os c.args.cpu x c.back.new.self c.self.invariant at c.back.ensures.empty w.in-None.ensures.none
    ]

pub returns-clause-moved : goal.returns-clause-moved
returns-clause-moved c =
    let k = c.self.inside.kernel in
    let n = c.back.new.kernel in
    let os = c.self.inside.outs in
    let x = get_or os c.args.cpu c.index-self-cpu.result in
    let below : c.args.cpu < length os = omega (arith, c.self.invariant.places) in
    let at = any_default os c.args.cpu None c.index-self-cpu.result below in
    elim c.match-back.branch [
      | in-Some w ↦
          rw w.result-is (subst (λ (m : MachineState). move (world_of m) c.args.cpu Back ≡ (Ok (Returned w.in-Some.count), world_of (on n (slice_set os c.args.cpu c.back.new.self)))) c.self.view_is
          (back_moved k n os c.args.cpu w.in-Some.count x c.back.new.self below c.self.invariant at c.back.ensures.empty w.in-Some.ensures.some))
      | in-None w ↦
          rw w.result-is (subst (λ (m : MachineState). move (world_of m) c.args.cpu Back ≡ (Err CpuEmpty, world_of (on n (slice_set os c.args.cpu c.back.new.self)))) c.self.view_is
          (nothing_moved k n os c.args.cpu x c.back.new.self c.self.invariant at c.back.ensures.empty w.in-None.ensures.none))
    ]

pub returns-clause-recorded : goal.returns-clause-recorded
returns-clause-recorded c =
    elim c.match-back.branch [
      | in-Some w ↦
          rw w.result-is (back_recorded c.self.inside.kernel c.back.new.kernel c.args.cpu w.in-Some.count _ w.in-Some.ensures.some
          ∙ ap (λ (m : MachineState). with_record m.kernel c.args.cpu (recorded.Back w.in-Some.count)) c.self.view_is)
      | in-None w ↦ rw w.result-is (w.in-None.ensures.none.1 ∙ ap (λ (m : MachineState). m.kernel) c.self.view_is)
    ]
