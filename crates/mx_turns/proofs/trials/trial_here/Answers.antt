use Rattle.std.proofs.Common.{◌∙◌, List, [], ap, ap₂, length, refl, take}
use Rattle.std.specs.Str.{bytes_eq}
use Rattle.mx_machine.specs.declared.history.Record.{Record}
use Rattle.mx_machine.specs.History.{BootAndHistory}
use Rattle.mx_machine.specs.World.{World}
use Rattle.mx_turns.specs.Findings.{is_full, refusal_of}
use Rattle.mx_turns.specs.declared.faults.FaultLine.{FaultLine}
use Rattle.mx_turns.specs.Sweep.{run_of}
use Rattle.mx_turns.proofs.ComingLemmas.{is_place, past_within}
use Rattle.mx_turns.proofs.HistoryLemmas.{own_records, run_begins}
use Rattle.mx_turns.proofs.LineLemmas.{findings_are, trial_is}
use Rattle.mx_turns.proofs.trials.trial_here.Goals as goal

pub left-requires : goal.left-requires
left-requires c = past_within c.args.sweep.records.now c.args.position c.args.coming c.requires.coming

pub compared_at-requires-clause-place : goal.compared_at-requires-clause-place
compared_at-requires-clause-place c = is_place c.args.sweep.records.now _ c.args.coming c.requires.coming c.requires.along c.in_ok-checkpoint.ensures c.left.ensures c.requires.position

pub compared_at-requires-2-clause-place : goal.compared_at-requires-2-clause-place
compared_at-requires-2-clause-place c = is_place c.args.sweep.records.now _ c.args.coming c.requires.coming c.requires.along c.in_ok-checkpoint.ensures c.left.ensures c.requires.position

-- the second copy's records are those that the first one began with
pub compared_at-requires-2-clause-parts : goal.compared_at-requires-2-clause-parts
compared_at-requires-2-clause-parts c =
    let s = c.args.sweep in
    let along = c.args.along in
    let run = c.in_ok-copy.ensures.run.0 in
    let is = c.parts_of-parts.ensures in
    let here = c.history.ensures ∙ ap (λ (k : BootAndHistory). k.history) c.kernel.ensures in
    record {
      services = is.services ∙ ap (λ (w : World). w.services) c.in_ok-copy.ensures.boot;
      records =
          own_records along.kernel.history c.parts_of-parts.result.records.items
          (is.records ∙ ap (λ (xs : List Record). take (length xs) c.in_ok-copy.copy.kernel.history) here ∙ ap (λ (k : BootAndHistory). take (length along.kernel.history) k.history) run.kernel
          ∙ run_begins s.records.now c.args.position along c.requires.along s.other s.bound []);
    }

-- without its fault a sweep is of the same machine and history
pub compared_at-requires-clause-swept : goal.compared_at-requires-clause-swept
compared_at-requires-clause-swept c =
    let s = c.requires.swept in
    record { booted = s.booted; some = s.some; few = s.few; by_actors = s.by_actors; accepted = s.accepted; other = s.other; alone = s.alone }

pub returns : goal.returns
returns c =
    let s = c.args.sweep in
    let run = λ (fault : List FaultLine). run_of c.args.along.kernel.boot s.other s.records.now s.bound fault c.args.position in
    let with = c.in_ok-copy-2.ensures.run in
    let without = c.in_ok-copy.ensures.run in
    record {
      pair = record {
        along = c.requires.along;
        coming = c.requires.coming;
        within = c.requires.position;
        boot = c.in_ok-copy-2.ensures.boot;
        begins = ap (λ (k : BootAndHistory). take (length c.args.along.kernel.history) k.history) with.0.kernel
            ∙ run_begins s.records.now c.args.position c.args.along c.requires.along s.other s.bound s.fault.now;
      };
      there = refl;
      boot = refl;
      kernel = with.0.kernel;
      world = with.0.world;
      text = trial_is (run s.fault.now) _ _ with.0 _ _ c.new-text.ensures.items c.in_ok-push_trial.ensures;
      findings = findings_are (run s.fault.now) (run []) _ _ _ (c.are_same.ensures ∙ ap₂ bytes_eq (c.as_slice.ensures.value ∙ with.1) (c.as_slice-2.ensures.value ∙ without.1))
          (c.refusal_of.ensures ∙ ap refusal_of (c.as_slice-3.ensures.value ∙ with.0.said)) (c.is_full.ensures ∙ ap is_full with.0.ending);
    }
