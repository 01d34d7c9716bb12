use Rattle.std.proofs.Common.{◌∙◌, ◌-◌, ◌^◌, ◌++◌, ◌∷◌, [], ℕ, Option, ap, refl, subst}
use Rattle.std.proofs.lemmas.Result.{err_from_is_err_and}
use Rattle.mx_app_start.specs.Asked.{byte_line}
use Rattle.mx_app_gdb.specs.Talks.{IsByteHeard}
use Rattle.mx_app_gdb.specs.declared.talking.Talk.{Talk}
use Rattle.mx_app_gdb.proofs.Conversing.{counted, cut_short, input_ends, no_bytes, talk_ends, talk_goes_on, unread}
use Rattle.mx_app_gdb.proofs.Grown.{grown_same, grown_trans}
use Rattle.mx_app_gdb.proofs.talking.converse.Goals as goal

pub loop-init : goal.loop-init
loop-init g c = record {
  talked = no_bytes (2 ^ 64 - 1) c.args.talk (g.L.LineReader.given c.args.lines.now) (g.W.Write.contents c.args.out.now);
  grown = grown_same _ _ refl;
}

pub returns-in_default-clause-talked : goal.returns-in_default-clause-talked
returns-in_default-clause-talked g c =
    let n = 2 ^ 64 - 1 in
    let t = c.args.talk in
    let given = g.L.LineReader.given c.args.lines.now in
    let came = g.L.LineReader.given c.loop.lines in
    let before = g.W.Write.contents c.args.out.now in
    let after = g.W.Write.contents c.loop.out in
    let so = c.loop.invariant.talked in
    let next = g.L.LineReader.given c.next_byte.new.lines in
    input_ends n t c.loop.talk c.loop.counter given came before after so next
    (c.in_ok-byte.ensures.given ∙ ap (λ (b : Option ℕ). came ++ byte_line b ∷ []) c.in_default.is)

pub returns-in-None-clause-talked : goal.returns-in-None-clause-talked
returns-in-None-clause-talked g c =
    let n = 2 ^ 64 - 1 in
    let t = c.args.talk in
    let given = g.L.LineReader.given c.args.lines.now in
    let came = g.L.LineReader.given c.loop.lines in
    let before = g.W.Write.contents c.args.out.now in
    let after = g.W.Write.contents c.loop.out in
    let so = c.loop.invariant.talked in
    let next = g.L.LineReader.given c.next_byte.new.lines in
    let h = c.in_ok-next.ensures.heard in
    talk_ends n t c.loop.talk c.loop.counter given came before after so c.loop-test.true c.in-Some.byte next
    (c.in_ok-byte.ensures.given ∙ ap (λ (b : Option ℕ). came ++ byte_line b ∷ []) c.in-Some.is) (g.W.Write.contents c.hear.new.out) h.0 h.2
    (subst (λ (o : Option Talk). IsByteHeard c.loop.talk c.in-Some.byte o h.0) c.in-None.is h.1)

pub loop-preserved : goal.loop-preserved
loop-preserved g c =
    let n = 2 ^ 64 - 1 in
    let t = c.args.talk in
    let given = g.L.LineReader.given c.args.lines.now in
    let came = g.L.LineReader.given c.loop.lines in
    let before = g.W.Write.contents c.args.out.now in
    let after = g.W.Write.contents c.loop.out in
    let so = c.loop.invariant.talked in
    let next = g.L.LineReader.given c.next_byte.new.lines in
    let h = c.in_ok-next.ensures.heard in
    record {
      talked = talk_goes_on n t c.loop.talk c.loop.counter given came before after so c.loop-test.true c.in-Some.byte next
          (c.in_ok-byte.ensures.given ∙ ap (λ (b : Option ℕ). came ++ byte_line b ∷ []) c.in-Some.is) (g.W.Write.contents c.hear.new.out) h.0 h.2 c.in-Some-2.next
          (subst (λ (o : Option Talk). IsByteHeard c.loop.talk c.in-Some.byte o h.0) c.in-Some-2.is h.1);
      grown = grown_trans _ _ _ c.loop.invariant.grown c.in_ok-next.ensures.grown;
    }

pub returns-clause-talked : goal.returns-clause-talked
returns-clause-talked g c =
    let n = 2 ^ 64 - 1 in
    let t = c.args.talk in
    let given = g.L.LineReader.given c.args.lines.now in
    let came = g.L.LineReader.given c.loop.lines in
    let before = g.W.Write.contents c.args.out.now in
    let after = g.W.Write.contents c.loop.out in
    let so = c.loop.invariant.talked in
    counted n t c.loop.talk c.loop.counter given came before after so c.loop-test.false

pub returns-in_err-byte-clause-cut : goal.returns-in_err-byte-clause-cut
returns-in_err-byte-clause-cut g c =
    let p = err_from_is_err_and c.from_residual.result c.from_residual.ensures.1 in
    let n = 2 ^ 64 - 1 in
    let t = c.args.talk in
    let given = g.L.LineReader.given c.args.lines.now in
    let came = g.L.LineReader.given c.loop.lines in
    let before = g.W.Write.contents c.args.out.now in
    let after = g.W.Write.contents c.loop.out in
    let so = c.loop.invariant.talked in
    let next = g.L.LineReader.given c.next_byte.new.lines in
    rw (p.1, p.2) (unread n t c.loop.talk c.loop.counter given came before after so c.loop-test.true next c.in_err-byte.ensures.failed _ c.in_err-byte.ensures.err)

pub returns-in_err-next-clause-cut : goal.returns-in_err-next-clause-cut
returns-in_err-next-clause-cut g c =
    let p = err_from_is_err_and c.from_residual-in_err-next.result c.from_residual-in_err-next.ensures.1 in
    let n = 2 ^ 64 - 1 in
    let t = c.args.talk in
    let given = g.L.LineReader.given c.args.lines.now in
    let came = g.L.LineReader.given c.loop.lines in
    let before = g.W.Write.contents c.args.out.now in
    let after = g.W.Write.contents c.loop.out in
    let so = c.loop.invariant.talked in
    let next = g.L.LineReader.given c.next_byte.new.lines in
    rw (p.1, p.2) (cut_short n t c.loop.talk c.loop.counter given came before after so c.loop-test.true c.in-Some.byte next
    (c.in_ok-byte.ensures.given ∙ ap (λ (b : Option ℕ). came ++ byte_line b ∷ []) c.in-Some.is) (g.W.Write.contents c.hear.new.out) _ c.in_err-next.ensures.err c.in_err-next.ensures.begun)
