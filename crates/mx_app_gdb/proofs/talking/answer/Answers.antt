use Rattle.std.proofs.Common.{◌++◌, codes, inr, refl, subst}
use Rattle.std.proofs.KnownBytes.{Appends-trans}
use Rattle.std.proofs.lemmas.Result.{IfErr-weaker}
use Rattle.mx_app_step.proofs.FrontLemmas.{front_after}
use Rattle.mx_rsp.specs.declared.request.Request.{Request}
use Rattle.mx_app_gdb.specs.Replied.{IsReplied, text_of}
use Rattle.mx_app_gdb.specs.Talks.{if_acks, reply_text}
use Rattle.mx_app_gdb.proofs.Conversing.{ok_both}
use Rattle.mx_app_gdb.proofs.talking.answer.Goals as goal

pub returns-clause-answered : goal.returns-clause-answered
returns-clause-answered g c =
    let t = c.args.talk in
    let s = c.in_ok-stub.stub in
    let reply = c.in_ok-stub.answered in
    let replied = subst (λ (q : Request). IsReplied t.stub q s (text_of reply) reply.after) c.in_ok-request.ensures c.in_ok-stub.ensures.replied in
    ok_both c.send.result _ _ _ (λ next left bytes. (
      if_acks t.acks (codes "+") ++ reply_text (text_of reply),
      (s, text_of reply, reply.after, replied, left, refl),
      Appends-trans _ _ _ (if_acks t.acks (codes "+")) (reply_text (text_of reply)) c.in_ok-acknowledge.ensures.bytes bytes,
    )) c.send.ensures.left c.send.ensures.bytes

pub returns-clause-begun : goal.returns-clause-begun
returns-clause-begun g c =
    let t = c.args.talk in
    let s = c.in_ok-stub.stub in
    let reply = c.in_ok-stub.answered in
    let replied = subst (λ (q : Request). IsReplied t.stub q s (text_of reply) reply.after) c.in_ok-request.ensures c.in_ok-stub.ensures.replied in
    IfErr-weaker c.send.result _ _ (λ f h. inr (
      s,
      text_of reply,
      reply.after,
      replied,
      front_after _ _ _ (if_acks t.acks (codes "+")) (reply_text (text_of reply)) c.in_ok-acknowledge.ensures.bytes h,
    )) c.send.ensures.begun
