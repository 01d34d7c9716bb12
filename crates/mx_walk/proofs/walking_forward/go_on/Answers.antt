use Rattle.std.proofs.Common.{◌≡◌, ◌≤◌, ◌<◌, ◌∙◌, ◌+◌, ◌++◌, length, refl, subst, arith}
use Rattle.mx_walk.specs.Parts.{parts_between}
use Rattle.mx_walk.proofs.Along.{any_record, at, early_next, halted_at, itself, rest_on, stuck_on, up_in, up_over, up_trans}
use Rattle.mx_walk.proofs.PartsShown.{after_place, next_between, none_between}
use Rattle.mx_walk.proofs.walking_forward.go_on.Goals as goal

pub returns-in-Err-clause-there : goal.returns-in-Err-clause-there
returns-in-Err-clause-there g c =
    let rs = c.args.records.now in
    let b : c.loop-done.done < length rs = omega (arith, c.loop-done-test.true, c.requires.to.earlier) in
    let e = c.in-Err.ensures.err in
    stuck_on rs c.loop-done.done any_record b c.args.machine.now.kernel.boot c.loop-done.machine c.finish_record.new.machine c.loop-done.steps c.in-Err.halted.made c.loop-done.invariant.there c.finish_record.ensures.boot e.0 e.1 e.2

pub returns-in-Err-clause-halted : goal.returns-in-Err-clause-halted
returns-in-Err-clause-halted g c =
    let rs = c.args.records.now in
    let b : c.loop-done.done < length rs = omega (arith, c.loop-done-test.true, c.requires.to.earlier) in
    let e = c.in-Err.ensures.err in
    halted_at rs c.loop-done.done any_record b c.args.machine.now.kernel.boot c.finish_record.new.machine c.in-Err.halted.made c.args.to
    (stuck_on rs c.loop-done.done any_record b c.args.machine.now.kernel.boot c.loop-done.machine c.finish_record.new.machine c.loop-done.steps c.in-Err.halted.made c.loop-done.invariant.there c.finish_record.ensures.boot e.0 e.1 e.2)
    c.loop-done-test.true (c.in-Err.halted.refusal, e.3)

pub returns-in-Err-clause-later : goal.returns-in-Err-clause-later
returns-in-Err-clause-later g c =
    let e = c.in-Err.ensures.err in
    up_trans c.args.from (at c.loop-done.done c.loop-done.steps) (at c.loop-done.done c.in-Err.halted.made) c.loop-done.invariant.later (up_in c.loop-done.done c.loop-done.steps c.in-Err.halted.made e.0)

pub loop-done-init : goal.loop-done-init
loop-done-init g c = record {
  there = c.requires.there;
  early = c.requires.later;
  later = itself c.args.from;
  as_many = refl;
  shown = none_between (length c.args.records.now) c.args.from.records (g.P.Progress.shown c.args.progress.now);
}

pub loop-done-preserved : goal.loop-done-preserved
loop-done-preserved g c =
    let rs = c.args.records.now in
    let b : c.loop-done.done < length rs = omega (arith, c.loop-done-test.true, c.requires.to.earlier) in
    record {
      there = rest_on rs c.loop-done.done any_record b c.args.machine.now.kernel.boot c.loop-done.machine c.finish_record.new.machine c.loop-done.steps c.loop-done.invariant.there c.finish_record.ensures.boot c.in-Ok.ensures.ok;
      early = early_next rs c.loop-done.done any_record b c.args.to c.loop-done-test.true;
      later = up_trans c.args.from (at c.loop-done.done c.loop-done.steps) (at (c.loop-done.done + 1) 0) c.loop-done.invariant.later (up_over c.loop-done.done c.loop-done.steps);
      as_many = c.finish_record.ensures.actors ∙ c.loop-done.invariant.as_many;
      shown = next_between (length rs) (length rs) c.args.from.records c.loop-done.done (g.P.Progress.shown c.args.progress.now) (g.P.Progress.shown c.loop-done.progress) (g.P.Progress.shown c.show.new.self)
          (after_place c.args.from (at c.loop-done.done c.loop-done.steps) c.loop-done.done c.loop-done.invariant.later refl) refl c.loop-done.invariant.shown c.show.ensures;
    }

pub returns-clause-shown : goal.returns-clause-shown
returns-clause-shown g c =
    let inv = c.loop-done.invariant in
    let few : c.loop-done.done ≤ c.args.to.records = after_place (at c.loop-done.done c.loop-done.steps) c.args.to c.args.to.records inv.early refl in
    let end : c.loop-done.done ≡ c.go_in_record.result.records = let same = c.go_in_record.ensures.same in omega (arith, few, c.loop-done-test.false, same) in
    subst (λ n. g.P.Progress.shown c.loop-done.progress ≡ g.P.Progress.shown c.args.progress.now ++ parts_between (length c.args.records.now) c.args.from.records n) end inv.shown
