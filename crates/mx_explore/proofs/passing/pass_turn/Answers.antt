use Rattle.std.proofs.Common.{◌∙◌, cond, drop, false, ap, sym}
use Rattle.mx_machine.specs.Machine.{world_of}
use Rattle.mx_turns.specs.Turns.{next_now}
use Rattle.mx_explore.specs.declared.passing.TurnStart.{TurnStart}
use Rattle.mx_explore.specs.Passages.{passage, standing}
use Rattle.mx_explore.proofs.TurnLemmas.{begins_so, turn_full, turn_outside, turn_whole, turned_by}
use Rattle.mx_explore.proofs.passing.pass_turn.Goals as goal

pub returns-then-is_full-clause-passed : goal.returns-then-is_full-clause-passed
returns-then-is_full-clause-passed c coming next =
    let p = passage c.args.machine.now coming (standing c.args.schedule.now) false in
    let begins = begins_so p c.cpus_of-cpus.result c.records_of.result c.next_now.result c.cpus_of-cpus.ensures c.records_of.ensures (c.next_now.ensures ∙ ap (next_now (world_of c.args.machine.now).table) next) in
    let start : TurnStart = record { other = c.cpus_of-cpus.result; records = c.records_of.result; event = c.next_now.result } in
    let q = passage c.pass_takes.new.machine coming (standing c.pass_takes.new.schedule) c.in_ok-is_full.is_full in
    let r = passage c.pass_backs.new.machine coming (standing c.pass_backs.new.schedule) c.in_ok-is_full.is_full in
    let takes = c.in_ok-is_full.ensures.passed coming in
    let backs = c.in_ok-pass_backs.ensures.passed coming c.in_ok-is_full.is_full in
    turned_by p r c.cpus_of-cpus.result c.slots_of-slots.result start c.cpus_of-cpus.ensures c.slots_of-slots.ensures begins
    (turn_full start p q r c.cpus_of-cpus.result c.slots_of-slots.result takes backs c.if-is_full.true)

pub returns-then-turned-clause-passed : goal.returns-then-turned-clause-passed
returns-then-turned-clause-passed c coming next =
    let p = passage c.args.machine.now coming (standing c.args.schedule.now) false in
    let begins = begins_so p c.cpus_of-cpus.result c.records_of.result c.next_now.result c.cpus_of-cpus.ensures c.records_of.ensures (c.next_now.ensures ∙ ap (next_now (world_of c.args.machine.now).table) next) in
    let start : TurnStart = record { other = c.cpus_of-cpus.result; records = c.records_of.result; event = c.next_now.result } in
    let q = passage c.pass_takes.new.machine coming (standing c.pass_takes.new.schedule) false in
    let r = passage c.pass_backs.new.machine coming (standing c.pass_backs.new.schedule) false in
    let takes = ap (passage c.pass_takes.new.machine coming (standing c.pass_takes.new.schedule)) (sym c.if-is_full.false) ∙ c.in_ok-is_full.ensures.passed coming in
    let backs = c.in_ok-pass_backs.ensures.passed coming false in
    let left = cond c.in_ok-turned.turned.is_gone (drop 1 coming) coming in
    let u = passage c.pass_outside.new.machine left (standing c.pass_outside.new.schedule) c.in_ok-turned.turned.is_full in
    let out = c.in_ok-turned.ensures.passed coming in
    turned_by p u c.cpus_of-cpus.result c.slots_of-slots.result start c.cpus_of-cpus.ensures c.slots_of-slots.ensures begins
    (turn_outside start p q r u c.cpus_of-cpus.result c.slots_of-slots.result takes backs out c.if-turned.true)

pub returns-clause-passed : goal.returns-clause-passed
returns-clause-passed c coming next =
    let p = passage c.args.machine.now coming (standing c.args.schedule.now) false in
    let begins = begins_so p c.cpus_of-cpus.result c.records_of.result c.next_now.result c.cpus_of-cpus.ensures c.records_of.ensures (c.next_now.ensures ∙ ap (next_now (world_of c.args.machine.now).table) next) in
    let start : TurnStart = record { other = c.cpus_of-cpus.result; records = c.records_of.result; event = c.next_now.result } in
    let q = passage c.pass_takes.new.machine coming (standing c.pass_takes.new.schedule) false in
    let r = passage c.pass_backs.new.machine coming (standing c.pass_backs.new.schedule) false in
    let takes = ap (passage c.pass_takes.new.machine coming (standing c.pass_takes.new.schedule)) (sym c.if-is_full.false) ∙ c.in_ok-is_full.ensures.passed coming in
    let backs = c.in_ok-pass_backs.ensures.passed coming false in
    let left = cond c.in_ok-turned.turned.is_gone (drop 1 coming) coming in
    let u = passage c.pass_outside.new.machine left (standing c.pass_outside.new.schedule) c.in_ok-turned.turned.is_full in
    let out = c.in_ok-turned.ensures.passed coming in
    let v = passage c.pass_respawns.new.machine left (standing c.pass_respawns.new.schedule) c.in_ok-is_filled.is_filled in
    let w = passage c.pass_outside.new.machine left (standing c.pass_outside.new.schedule) false in
    let outside = ap (passage c.pass_outside.new.machine left (standing c.pass_outside.new.schedule)) (sym c.if-turned.false) ∙ out in
    turned_by p v c.cpus_of-cpus.result c.slots_of-slots.result start c.cpus_of-cpus.ensures c.slots_of-slots.ensures begins
    (turn_whole start p q r w v c.cpus_of-cpus.result c.slots_of-slots.result takes backs outside (c.in_ok-is_filled.ensures.passed left))
