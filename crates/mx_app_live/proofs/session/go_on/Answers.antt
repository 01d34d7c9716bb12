use Rattle.std.proofs.Common.{◌∙◌, ℕ, List, true, false, sym, subst}
use Rattle.std.specs.Io.KnownBytes.{Appends}
use Rattle.std.proofs.lemmas.Result.{err_from_is_err_and}
use Rattle.mx_walk.proofs.Apart.{few_processors}
use Rattle.mx_app_failure.specs.declared.failure.Failure.{Failure}
use Rattle.mx_app_failure.specs.Failure.{IsWanting}
use Rattle.mx_app_live.proofs.GoingLemmas.{all_written, count_on, filled_going, front_written, full_going, on_going, over_going, round_full, round_made}
use Rattle.mx_app_live.proofs.session.go_on.Goals as goal

pub returns-in_err-session-clause-failed : goal.returns-in_err-session-clause-failed
returns-in_err-session-clause-failed g c =
    let m = c.args.machine.now in
    let n = c.make_round-has_filled.new.machine in
    let s = c.args.session.now in
    let turned = round_made m n s c.waiting.result c.waiting.ensures c.make_round-has_filled.ensures.made in
    let few = few_processors m c.facts.ensures in
    let r = err_from_is_err_and c.from_residual.result c.from_residual.ensures.1 in
    let front = front_written c.args.has_clock m n s turned (λ (t : List ℕ). Appends (g.W.Write.contents c.args.screen.now) (g.W.Write.contents c.show.new.screen) t) s.shown few c.requires.shown c.in_err-session.ensures.front in
    rw r.1 (subst (λ (f : Failure). IsWanting f) (sym r.2) c.in_err-session.ensures.failed, turned, front)

pub returns-then-has_filled-clause-going : goal.returns-then-has_filled-clause-going
returns-then-has_filled-clause-going g c =
    let m = c.args.machine.now in
    let n = c.make_round-has_filled.new.machine in
    let s = c.args.session.now in
    let turned = round_made m n s c.waiting.result c.waiting.ensures c.make_round-has_filled.ensures.made in
    filled_going c.args.has_clock m n s turned (round_full m s c.waiting.result c.make_round-has_filled.result true c.waiting.ensures c.make_round-has_filled.ensures.full c.if-has_filled.true)

pub returns-then-has_filled-clause-text : goal.returns-then-has_filled-clause-text
returns-then-has_filled-clause-text g c =
    let m = c.args.machine.now in
    let n = c.make_round-has_filled.new.machine in
    let s = c.args.session.now in
    let turned = round_made m n s c.waiting.result c.waiting.ensures c.make_round-has_filled.ensures.made in
    let few = few_processors m c.facts.ensures in
    subst (λ (t : List ℕ). Appends (g.W.Write.contents c.args.screen.now) (g.W.Write.contents c.show.new.screen) t) (all_written c.args.has_clock m n s turned s.shown few c.requires.shown) c.in_ok-session.ensures.text

pub returns-then-raise_next-clause-going : goal.returns-then-raise_next-clause-going
returns-then-raise_next-clause-going g c =
    let m = c.args.machine.now in
    let n = c.make_round-has_filled.new.machine in
    let s = c.args.session.now in
    let turned = round_made m n s c.waiting.result c.waiting.ensures c.make_round-has_filled.ensures.made in
    let free = round_full m s c.waiting.result c.make_round-has_filled.result false c.waiting.ensures c.make_round-has_filled.ensures.full c.if-has_filled.false in
    let p = c.raise_next.new.machine in
    full_going c.args.has_clock m n s turned p c.raise_next.result c.raise_next.new.typist free c.raise_next.ensures.offered c.raise_next.ensures.typing c.if-raise_next.true

pub returns-then-raise_next-clause-shown : goal.returns-then-raise_next-clause-shown
returns-then-raise_next-clause-shown g c =
    let m = c.args.machine.now in
    let n = c.make_round-has_filled.new.machine in
    let s = c.args.session.now in
    let turned = round_made m n s c.waiting.result c.waiting.ensures c.make_round-has_filled.ensures.made in
    let free = round_full m s c.waiting.result c.make_round-has_filled.result false c.waiting.ensures c.make_round-has_filled.ensures.full c.if-has_filled.false in
    let p = c.raise_next.new.machine in
    count_on c.args.has_clock m n s turned p c.raise_next.result c.raise_next.new.typist free c.raise_next.ensures.offered c.raise_next.ensures.typing c.in_ok-session.field-0 c.in_ok-session.ensures.shown

pub returns-then-raise_next-clause-text : goal.returns-then-raise_next-clause-text
returns-then-raise_next-clause-text g c =
    let m = c.args.machine.now in
    let n = c.make_round-has_filled.new.machine in
    let s = c.args.session.now in
    let turned = round_made m n s c.waiting.result c.waiting.ensures c.make_round-has_filled.ensures.made in
    let few = few_processors m c.facts.ensures in
    subst (λ (t : List ℕ). Appends (g.W.Write.contents c.args.screen.now) (g.W.Write.contents c.show.new.screen) t) (all_written c.args.has_clock m n s turned s.shown few c.requires.shown) c.in_ok-session.ensures.text

pub returns-then-is_over-clause-going : goal.returns-then-is_over-clause-going
returns-then-is_over-clause-going g c =
    let m = c.args.machine.now in
    let n = c.make_round-has_filled.new.machine in
    let s = c.args.session.now in
    let turned = round_made m n s c.waiting.result c.waiting.ensures c.make_round-has_filled.ensures.made in
    let free = round_full m s c.waiting.result c.make_round-has_filled.result false c.waiting.ensures c.make_round-has_filled.ensures.full c.if-has_filled.false in
    let p = c.raise_next.new.machine in
    over_going c.args.has_clock m n s turned p c.raise_next.result c.raise_next.new.typist free c.raise_next.ensures.offered c.raise_next.ensures.typing c.if-raise_next.false (sym c.is_over.ensures ∙ c.if-is_over.true)

pub returns-then-is_over-clause-shown : goal.returns-then-is_over-clause-shown
returns-then-is_over-clause-shown g c =
    let m = c.args.machine.now in
    let n = c.make_round-has_filled.new.machine in
    let s = c.args.session.now in
    let turned = round_made m n s c.waiting.result c.waiting.ensures c.make_round-has_filled.ensures.made in
    let free = round_full m s c.waiting.result c.make_round-has_filled.result false c.waiting.ensures c.make_round-has_filled.ensures.full c.if-has_filled.false in
    let p = c.raise_next.new.machine in
    count_on c.args.has_clock m n s turned p c.raise_next.result c.raise_next.new.typist free c.raise_next.ensures.offered c.raise_next.ensures.typing c.in_ok-session.field-0 c.in_ok-session.ensures.shown

pub returns-then-is_over-clause-text : goal.returns-then-is_over-clause-text
returns-then-is_over-clause-text g c =
    let m = c.args.machine.now in
    let n = c.make_round-has_filled.new.machine in
    let s = c.args.session.now in
    let turned = round_made m n s c.waiting.result c.waiting.ensures c.make_round-has_filled.ensures.made in
    let few = few_processors m c.facts.ensures in
    subst (λ (t : List ℕ). Appends (g.W.Write.contents c.args.screen.now) (g.W.Write.contents c.show.new.screen) t) (all_written c.args.has_clock m n s turned s.shown few c.requires.shown) c.in_ok-session.ensures.text

pub returns-clause-going : goal.returns-clause-going
returns-clause-going g c =
    let m = c.args.machine.now in
    let n = c.make_round-has_filled.new.machine in
    let s = c.args.session.now in
    let turned = round_made m n s c.waiting.result c.waiting.ensures c.make_round-has_filled.ensures.made in
    let free = round_full m s c.waiting.result c.make_round-has_filled.result false c.waiting.ensures c.make_round-has_filled.ensures.full c.if-has_filled.false in
    let p = c.raise_next.new.machine in
    on_going c.args.has_clock m n s turned p c.raise_next.result c.raise_next.new.typist free c.raise_next.ensures.offered c.raise_next.ensures.typing c.if-raise_next.false (sym c.is_over.ensures ∙ c.if-is_over.false)

pub returns-clause-shown : goal.returns-clause-shown
returns-clause-shown g c =
    let m = c.args.machine.now in
    let n = c.make_round-has_filled.new.machine in
    let s = c.args.session.now in
    let turned = round_made m n s c.waiting.result c.waiting.ensures c.make_round-has_filled.ensures.made in
    let free = round_full m s c.waiting.result c.make_round-has_filled.result false c.waiting.ensures c.make_round-has_filled.ensures.full c.if-has_filled.false in
    let p = c.raise_next.new.machine in
    count_on c.args.has_clock m n s turned p c.raise_next.result c.raise_next.new.typist free c.raise_next.ensures.offered c.raise_next.ensures.typing c.in_ok-session.field-0 c.in_ok-session.ensures.shown

pub returns-clause-text : goal.returns-clause-text
returns-clause-text g c =
    let m = c.args.machine.now in
    let n = c.make_round-has_filled.new.machine in
    let s = c.args.session.now in
    let turned = round_made m n s c.waiting.result c.waiting.ensures c.make_round-has_filled.ensures.made in
    let few = few_processors m c.facts.ensures in
    subst (λ (t : List ℕ). Appends (g.W.Write.contents c.args.screen.now) (g.W.Write.contents c.show.new.screen) t) (all_written c.args.has_clock m n s turned s.shown few c.requires.shown) c.in_ok-session.ensures.text
