use Rattle.std.proofs.Common.{◌∙◌, ◌++◌, List, ap, arith, sym}
use Rattle.std.proofs.lemmas.Result.{err_from_is_err_and}
use Rattle.mx_machine.specs.Machine.{world_of}
use Rattle.mx_app_live.specs.declared.outside.Note.{Note}
use Rattle.mx_app_live.specs.Session.{hearing, seat_of}
use Rattle.mx_app_live.proofs.SessionLemmas.{ended_going, ended_hearing, none_so_far, one_more, stopped, unshown_going}
use Rattle.mx_app_live.proofs.GoingLemmas.{heard_on}
use Rattle.mx_app_live.proofs.session.hold_session.Goals as goal

pub loop-init : goal.loop-init
loop-init g c = record {
  so = none_so_far c.args.has_clock (seat_of (world_of c.args.machine.now) c.args.session.now) c.args.machine.now (g.O.Outside.heard c.args.outside.now) (g.O.Outside.told c.args.outside.now) (g.W.Write.contents c.args.screen.now);
  other = c.requires.other;
  shown = c.requires.shown;
}

pub returns-in_err-gone-clause-held : goal.returns-in_err-gone-clause-held
returns-in_err-gone-clause-held g c =
    let m = c.args.machine.now in
    let n = c.loop.machine in
    let p = c.go_on.new.machine in
    let r = err_from_is_err_and c.from_residual.result c.from_residual.ensures.1 in
    let h = c.in_err-gone.ensures.failed in
    rw (r.1, r.2)
    (unshown_going c.args.has_clock (seat_of (world_of m) c.args.session.now) m n (seat_of (world_of n) c.loop.session) c.loop.counter (g.O.Outside.heard c.args.outside.now) (g.O.Outside.heard c.loop.outside)
    (g.O.Outside.told c.args.outside.now) (g.O.Outside.told c.loop.outside) (g.W.Write.contents c.args.screen.now) (g.W.Write.contents c.loop.screen) c.loop.invariant.so p (seat_of (world_of p) c.go_on.new.session) c.in_err-gone.field-0.0
    (g.W.Write.contents c.go_on.new.screen) h.1 h.0 h.2)

pub returns-in-Some-clause-held : goal.returns-in-Some-clause-held
returns-in-Some-clause-held g c =
    let m = c.args.machine.now in
    let n = c.loop.machine in
    let p = c.go_on.new.machine in
    let h = c.in_ok-gone.ensures.going in
    ended_going c.args.has_clock (seat_of (world_of m) c.args.session.now) m n (seat_of (world_of n) c.loop.session) c.loop.counter (g.O.Outside.heard c.args.outside.now) (g.O.Outside.heard c.loop.outside)
    (g.O.Outside.told c.args.outside.now) (g.O.Outside.told c.loop.outside) (g.W.Write.contents c.args.screen.now) (g.W.Write.contents c.loop.screen) c.loop.invariant.so p (seat_of (world_of p) c.go_on.new.session) c.in_ok-gone.gone c.in-Some.ending
    (g.W.Write.contents c.go_on.new.screen) h.0 h.1 h.2 c.in_ok-gone.ensures.text c.in-Some.is

pub returns-in-Some-done-clause-held : goal.returns-in-Some-done-clause-held
returns-in-Some-done-clause-held g c =
    let m = c.args.machine.now in
    let n = c.loop.machine in
    let p = c.go_on.new.machine in
    let q = c.do_heard-done.new.machine in
    let y = seat_of (world_of p) c.go_on.new.session in
    let z = seat_of (world_of q) c.do_heard-done.new.session in
    let h = c.in_ok-gone.ensures.going in
    let d = c.do_heard-done.ensures.done in
    let heard = c.do_heard-done.ensures.heard ∙ c.listen-heard.ensures.heard in
    let told = d.3 ∙ ap (λ (l : List Note). l ++ (hearing y c.listen-heard.result).told) c.listen-heard.ensures.told in
    ended_hearing c.args.has_clock (seat_of (world_of m) c.args.session.now) m n (seat_of (world_of n) c.loop.session) c.loop.counter (g.O.Outside.heard c.args.outside.now) (g.O.Outside.heard c.loop.outside)
    (g.O.Outside.told c.args.outside.now) (g.O.Outside.told c.loop.outside) (g.W.Write.contents c.args.screen.now) (g.W.Write.contents c.loop.screen) c.loop.invariant.so p q y z c.listen-heard.result c.do_heard-done.result c.in-Some-done.ending (g.W.Write.contents c.go_on.new.screen)
    (g.O.Outside.heard c.do_heard-done.new.outside) (g.O.Outside.told c.do_heard-done.new.outside) h.0 h.1 (sym h.2 ∙ c.in_default.is) c.in_ok-gone.ensures.text heard d.0 d.1 d.2 told c.in-Some-done.is

pub loop-preserved : goal.loop-preserved
loop-preserved g c =
    let m = c.args.machine.now in
    let n = c.loop.machine in
    let p = c.go_on.new.machine in
    let q = c.do_heard-done.new.machine in
    let y = seat_of (world_of p) c.go_on.new.session in
    let z = seat_of (world_of q) c.do_heard-done.new.session in
    let h = c.in_ok-gone.ensures.going in
    let d = c.do_heard-done.ensures.done in
    let heard = c.do_heard-done.ensures.heard ∙ c.listen-heard.ensures.heard in
    let told = d.3 ∙ ap (λ (l : List Note). l ++ (hearing y c.listen-heard.result).told) c.listen-heard.ensures.told in
    record {
      so = one_more c.args.has_clock (seat_of (world_of m) c.args.session.now) m n (seat_of (world_of n) c.loop.session) c.loop.counter (g.O.Outside.heard c.args.outside.now) (g.O.Outside.heard c.loop.outside)
          (g.O.Outside.told c.args.outside.now) (g.O.Outside.told c.loop.outside) (g.W.Write.contents c.args.screen.now) (g.W.Write.contents c.loop.screen) c.loop.invariant.so p q y z c.listen-heard.result c.do_heard-done.result (g.W.Write.contents c.go_on.new.screen)
          (g.O.Outside.heard c.do_heard-done.new.outside) (g.O.Outside.told c.do_heard-done.new.outside) h.0 h.1 (sym h.2 ∙ c.in_default.is) c.in_ok-gone.ensures.text heard d.0 d.1 d.2 told c.in_default-done.is;
      other = c.do_heard-done.ensures.other;
      shown = heard_on p q y c.listen-heard.result c.go_on.new.session.shown c.do_heard-done.new.session.shown d.0 c.in_ok-gone.ensures.shown c.do_heard-done.ensures.shown;
    }

pub returns-clause-held : goal.returns-clause-held
returns-clause-held g c =
    let m = c.args.machine.now in
    let n = c.loop.machine in
    stopped c.args.has_clock (seat_of (world_of m) c.args.session.now) m n (seat_of (world_of n) c.loop.session) c.loop.counter (g.O.Outside.heard c.args.outside.now) (g.O.Outside.heard c.loop.outside) (g.O.Outside.told c.args.outside.now)
    (g.O.Outside.told c.loop.outside) (g.W.Write.contents c.args.screen.now) (g.W.Write.contents c.loop.screen) c.loop.invariant.so (omega (arith, c.loop-test.false, c.loop.auto.counter-end))
