use Rattle.std.proofs.Common.{◌≡◌, ◌∙◌, ◌<◌, ap, drop, length, refl, rules, subst, sym, take, vec_len}
use Rattle.mx_app_step.specs.Machine.{MachineState, world_of}
use Rattle.mx_machine.specs.History.{BootAndHistory, events_of_history}
use Rattle.mx_machine.specs.World.{actors}
use Rattle.mx_turns.specs.Sweep.{Run, coming}
use Rattle.mx_turns.specs.Swept.{HasRun}
use Rattle.mx_turns.proofs.AlongLemmas.{along_actors}
use Rattle.mx_turns.proofs.HistoryLemmas.{parts_rest}
use Rattle.mx_turns.proofs.RunLemmas.{alone_still, run_boot, run_same}
use Rattle.mx_turns.proofs.faulted_run.run_at.Goals as goal

-- the rest of the records are after those that the parts have
pub machine-requires-clause-records : goal.machine-requires-clause-records
machine-requires-clause-records c =
    let m = c.args.place.along.now in
    let same = c.history-history.ensures ∙ ap (λ (k : BootAndHistory). k.history) c.kernel.ensures in
    let many : vec_len c.args.parts.records ≡ length c.args.parts.records.items = search rules in
    c.in_ok-extend_from_slice.ensures.items ∙ parts_rest m c.args.parts c.requires.parts _ _ same (c.len-made.ensures ∙ many) ∙ ap (λ (x : MachineState). x.kernel.history) (sym c.requires.place.same)

pub run_on-requires-clause-other : goal.run_on-requires-clause-other
run_on-requires-clause-other c =
    let m = c.args.place.along.now in
    let same = c.in_ok-machine.ensures ∙ c.requires.place.same in
    subst (λ (x : MachineState). c.args.sweep.other < actors (world_of x)) (sym same)
    (subst (λ n. c.args.sweep.other < n) (sym (along_actors c.args.sweep.records.now c.args.place.position m c.requires.place.along)) c.requires.swept.other)

pub run_on-requires-clause-alone : goal.run_on-requires-clause-alone
run_on-requires-clause-alone c =
    let m = c.args.place.along.now in
    let same = c.in_ok-machine.ensures ∙ c.requires.place.same in
    subst (λ (x : MachineState). length (world_of x).cpus < actors (world_of x)) (sym same)
    (alone_still m.kernel.boot m.kernel.boot (world_of m) (events_of_history (take c.args.place.position c.args.sweep.records.now)) refl c.requires.place.along.world c.requires.swept.alone)

pub returns-clause-run : goal.returns-clause-run
returns-clause-run c =
    let records = c.args.sweep.records.now in
    let k = c.args.place.position in
    let m = c.in_ok-machine.machine in
    let same = c.in_ok-machine.ensures ∙ c.requires.place.same in
    let kept = ap (λ (x : MachineState). x.kernel) same ∙ c.requires.place.along.kernel in
    let above = ap (λ (x : MachineState). world_of x) same ∙ c.requires.place.along.world in
    subst (λ (r : Run). HasRun r c.run_on.new.machine c.in_ok-course.course)
    (run_same m.kernel _ (world_of m) _ c.args.sweep.other _ (coming (drop k records)) c.args.sweep.bound c.args.sweep.fault.now kept above c.requires.place.events) c.in_ok-course.ensures.run

pub returns-clause-boot : goal.returns-clause-boot
returns-clause-boot c =
    ap (λ (k : BootAndHistory). k.boot) (returns-clause-run c).kernel
    ∙ run_boot c.args.place.along.now.kernel.boot c.args.sweep.other c.args.sweep.records.now c.args.sweep.bound c.args.sweep.fault.now c.args.place.position
