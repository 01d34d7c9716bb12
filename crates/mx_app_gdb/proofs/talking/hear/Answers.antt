use Rattle.std.proofs.Common.{◌∙◌, List, ℕ, [], Some, refl, subst, sym}
use Rattle.std.proofs.KnownBytes.{Appends-nil}
use Rattle.std.proofs.lemmas.Result.{IfErr-weaker, IfOk-weaker}
use Rattle.std.specs.Io.KnownBytes.{Appends}
use Rattle.mx_app_step.proofs.FrontLemmas.{err_always}
use Rattle.mx_rsp.specs.Hearing.{heard_of}
use Rattle.mx_rsp.specs.declared.hearing.Heard.TheVariants.{Nothing, Packet, TooLong}
use Rattle.mx_app_gdb.specs.Talks.{IsAnswerBegun, IsAnswered, read_to}
use Rattle.mx_app_gdb.specs.declared.talking.Talk.{Talk}
use Rattle.mx_app_gdb.proofs.Conversing.{begun_as, heard_as, none_heard}
use Rattle.mx_app_gdb.proofs.talking.hear.Goals as goal

pub returns-in-Nothing-clause-heard : goal.returns-in-Nothing-clause-heard
returns-in-Nothing-clause-heard g c =
    let t = c.args.talk in
    let u : Talk = record t { reader = c.hear.new.self } in
    ([], heard_as t c.args.byte c.hear.new.self Nothing (Some u) [] c.in_ok-hear.ensures.reading (sym c.in-Nothing.is ∙ c.in_ok-hear.ensures.heard) (refl, refl), Appends-nil _)

pub returns-in-TooLong-clause-heard : goal.returns-in-TooLong-clause-heard
returns-in-TooLong-clause-heard g c =
    let t = c.args.talk in
    IfOk-weaker c.answer.result _ _ (λ next a. (a.0, heard_as t c.args.byte c.hear.new.self TooLong next a.0 c.in_ok-hear.ensures.reading (sym c.in-TooLong.is ∙ c.in_ok-hear.ensures.heard) a.1, a.2)) c.answer.ensures.answered

pub returns-in-Packet-clause-heard : goal.returns-in-Packet-clause-heard
returns-in-Packet-clause-heard g c =
    let t = c.args.talk in
    let u : Talk = record t { reader = c.hear.new.self } in
    IfOk-weaker c.answer-in-Packet.result _ _ (λ next a. (
      a.0,
      heard_as t c.args.byte c.hear.new.self (Packet c.in-Packet.payload) next a.0 c.in_ok-hear.ensures.reading (sym c.in-Packet.is ∙ c.in_ok-hear.ensures.heard)
          (subst (λ (p : List ℕ). IsAnswered u p next a.0) c.as_slice-in-Packet.ensures a.1),
      a.2,
    )) c.answer-in-Packet.ensures.answered

pub returns-in_err-hear-clause-begun : goal.returns-in_err-hear-clause-begun
returns-in_err-hear-clause-begun g c =
    let t = c.args.talk in
    let x = g.W.Write.contents c.args.out.now in
    err_always c.from_residual.result _ (none_heard (λ (text : List ℕ). Appends x x text) (read_to t c.args.byte) (heard_of t.reader c.args.byte) (Appends-nil x))

pub returns-in-Packet-clause-begun : goal.returns-in-Packet-clause-begun
returns-in-Packet-clause-begun g c =
    let t = c.args.talk in
    let u : Talk = record t { reader = c.hear.new.self } in
    let x = g.W.Write.contents c.args.out.now in
    let y = g.W.Write.contents c.answer-in-Packet.new.out in
    IfErr-weaker c.answer-in-Packet.result _ _ (λ f a.
    begun_as t c.args.byte c.hear.new.self (Packet c.in-Packet.payload) (λ (text : List ℕ). Appends x y text) c.in_ok-hear.ensures.reading (sym c.in-Packet.is ∙ c.in_ok-hear.ensures.heard)
    (subst (λ (p : List ℕ). IsAnswerBegun u p (λ (text : List ℕ). Appends x y text)) c.as_slice-in-Packet.ensures a)) c.answer-in-Packet.ensures.begun
