use Rattle.std.proofs.Common.{Some, false, refl, subst, sym}
use Rattle.mx_app_gdb.specs.declared.replying.After.{After}
use Rattle.mx_app_gdb.specs.declared.talking.Talk.{Talk}
use Rattle.mx_app_gdb.specs.Replied.{text_of}
use Rattle.mx_app_gdb.specs.Talks.{IsLeft}
use Rattle.mx_app_gdb.proofs.talking.send.Goals as goal

pub returns-in-More-clause-left : goal.returns-in-More-clause-left
returns-in-More-clause-left g c =
    let t = c.args.talk in
    let u : Talk = record { stub = t.stub; reader = t.reader; acks = t.acks; last = c.in_ok-last.last } in
    subst (λ (n : After). IsLeft t t.stub (text_of c.args.reply) n (Some u)) (sym c.in-More.is) (u, refl, refl, refl, refl, c.in_ok-last.ensures.last)

pub returns-in-NoAcks-clause-left : goal.returns-in-NoAcks-clause-left
returns-in-NoAcks-clause-left g c =
    let t = c.args.talk in
    let u : Talk = record { stub = t.stub; reader = t.reader; acks = false; last = c.in_ok-last.last } in
    subst (λ (n : After). IsLeft t t.stub (text_of c.args.reply) n (Some u)) (sym c.in-NoAcks.is) (u, refl, refl, refl, refl, c.in_ok-last.ensures.last)
