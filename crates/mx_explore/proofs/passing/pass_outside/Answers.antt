use Rattle.std.proofs.Common.{◌∙◌, Bool, cond, drop, false, ap, rules, sym}
use Rattle.mx_machine.specs.Machine.{world_of}
use Rattle.mx_explore.specs.Passages.{passage, standing}
use Rattle.mx_explore.specs.Passing.{FromOutside}
use Rattle.mx_explore.proofs.PassageLemmas.{none_comes, outside_at, stays_at}
use Rattle.mx_explore.proofs.RunLemmas.{cpus_kept}
use Rattle.mx_explore.proofs.passing.pass_outside.Goals as goal

pub returns-then-not-is_gone-clause-passed : goal.returns-then-not-is_gone-clause-passed
returns-then-not-is_gone-clause-passed c coming =
    let m = c.args.machine.now in
    let t = standing c.is_made.new.schedule in
    ap (λ (b : Bool). passage m (cond b (drop 1 coming) coming) t false) c.if-not-is_gone.true
    ∙ sym (stays_at m coming c.args.start (standing c.args.schedule.now) t false FromOutside c.open_outside.result c.in_ok-is_gone.is_gone c.open_outside.ensures c.in_ok-is_gone.ensures c.if-not-is_gone.true)

pub unreachable-requires : goal.unreachable-requires
unreachable-requires c =
    none_comes (world_of c.args.machine.now) c.args.start.records c.args.start.event c.open_outside.result (standing c.args.schedule.now) (standing c.is_made.new.schedule) c.in_ok-is_gone.is_gone
    c.open_outside.ensures (search rules) c.in_ok-is_gone.ensures c.if-not-is_gone.false

pub returns-clause-passed : goal.returns-clause-passed
returns-clause-passed c coming =
    let m = c.args.machine.now in
    let t = standing c.is_made.new.schedule in
    ap (λ (b : Bool). passage c.offer-is_full.new.machine (cond b (drop 1 coming) coming) t c.offer-is_full.result) c.if-not-is_gone.false
    ∙ sym (outside_at m coming c.args.start (standing c.args.schedule.now) t c.open_outside.result c.in_ok-is_gone.is_gone c.offer-is_full.result c.offer-is_full.new.machine c.in-Some.event
    c.open_outside.ensures c.in-Some.is c.in_ok-is_gone.ensures c.if-not-is_gone.false c.offer-is_full.ensures.offered)

pub returns-clause-cpus : goal.returns-clause-cpus
returns-clause-cpus c = cpus_kept c.args.machine.now c.offer-is_full.new.machine _ _ c.offer-is_full.ensures.offered
