use Rattle.std.proofs.lemmas.Result.{IfOk-weaker}
use Rattle.mx_app_gdb.specs.declared.replying.Reply.{Reply}
use Rattle.mx_app_gdb.specs.declared.stub.Stub.{Stub}
use Rattle.mx_app_gdb.specs.Replied.{IsReplied, Says, here_reply, text_of}
use Rattle.mx_app_gdb.proofs.Moved.{replied_here}
use Rattle.mx_app_gdb.proofs.replying.reply_to.Goals as goal

pub returns-in_default-clause-replied : goal.returns-in_default-clause-replied
returns-in_default-clause-replied g c =
    let s = c.args.stub in
    let r = c.args.request.now in
    let d = c.in_default in
    IfOk-weaker c.say_here.result
    (λ (x : Stub × Reply). Says s (here_reply s r) x.0 (text_of x.1) x.1.after)
    (λ (x : Stub × Reply). IsReplied s r x.0 (text_of x.1) x.1.after)
    (λ (x : Stub × Reply) said. replied_here s r d.not-Plain d.not-Supported d.not-Go d.not-ForReading d.not-ForGoing d.not-Insert d.not-Remove d.not-DetachFrom d.not-Console x.0 (text_of x.1) x.1.after said)
    c.say_here.ensures.replied
