use Rattle.std.proofs.Common.{◌<◌, ◌≤◌, ◌+◌, get_or, refl, arith}
use Rattle.mx_walk.specs.Positions.{steps_in}
use Rattle.mx_walk.proofs.Along.{any_record, inside_is}
use Rattle.mx_walk.proofs.Inside.{come, come_to, still_there, stuck}
use Rattle.mx_walk.proofs.seeking.go_in_steps.Goals as goal

pub returns-then-searched-eq0-clause-gone : goal.returns-then-searched-eq0-clause-gone
returns-then-searched-eq0-clause-gone g c =
    let m = c.args.machine.now in
    let n = c.make_steps_to_mark-searched.new.machine in
    let rs = c.args.records.now in
    let k = c.args.at.records in
    let j = c.args.at.steps in
    let e = c.make_steps_to_mark-searched.ensures in
    let i = c.make_steps_to_mark-searched.result.made in
    let f = g.M.Mark.marks c.args.mark.now in
    let b = c.requires.inside in
    let few : c.args.most ≤ steps_in (get_or rs k any_record).event = let h = inside_is rs k any_record b in let a = c.requires.most in omega (arith, h, a) in (
      stuck f m.kernel.boot rs k b j m n c.requires.there e.boot i c.args.most c.if-searched-eq0.true c.requires.some few e.made c.make_steps_to_mark-searched.result.is_met e.found e.halted,
      still_there f m.kernel.boot rs k b j m n c.requires.there e.boot i c.args.most c.if-searched-eq0.true c.requires.some few e.made,
    )

pub returns-clause-gone : goal.returns-clause-gone
returns-clause-gone g c =
    let m = c.args.machine.now in
    let n = c.make_steps_to_mark-searched.new.machine in
    let rs = c.args.records.now in
    let k = c.args.at.records in
    let j = c.args.at.steps in
    let e = c.make_steps_to_mark-searched.ensures in
    let i = c.make_steps_to_mark-searched.result.made in
    let f = g.M.Mark.marks c.args.mark.now in
    let b = c.requires.inside in
    let some : 0 < i = omega (arith, c.if-searched-eq0.false) in
    let most : j + i ≤ c.args.most = let a = e.few in let d = c.requires.some in omega (arith, a, d) in
    let few : j + i ≤ steps_in (get_or rs k any_record).event = let h = inside_is rs k any_record b in let a = c.requires.most in omega (arith, h, a, most) in (
      come f m.kernel.boot rs k b j m n c.requires.there e.boot i some few e.made c.make_steps_to_mark-searched.result.is_met e.passed e.found,
      come_to f m.kernel.boot rs k b j m n c.requires.there e.boot i some few e.made,
      refl,
      most,
    )
