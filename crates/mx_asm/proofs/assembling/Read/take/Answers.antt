use Rattle.std.proofs.lemmas.Result.{on_ok_weaker, IfErr-weaker}
use Rattle.mx_asm.specs.Layout.{seen_of}
use Rattle.mx_asm.specs.View.{above_of}
use Rattle.mx_asm.specs.Text.{TellsRefusal, TellsLineWrong}
use Rattle.mx_asm.proofs.Reading.{told_refusal}
use Rattle.mx_asm.proofs.assembling.Read.take.Goals as goal

pub returns-in-Ok-clause-taken : goal.returns-in-Ok-clause-taken
returns-in-Ok-clause-taken c =
    on_ok_weaker c.accept.result (λ p. record { line = c.in-Ok.line; taken = (c.in-Ok.ensures.line, p.0); following_is = p.1; lines_are = p.2 }) c.accept.ensures.accepted

pub returns-in-Ok-clause-wrong : goal.returns-in-Ok-clause-wrong
returns-in-Ok-clause-wrong c =
    let seen = seen_of (above_of c.args.self.now.layout) in
    IfErr-weaker c.accept.result (TellsRefusal seen c.args.number c.in-Ok.line) (TellsLineWrong seen c.args.number c.args.text.now)
    (λ e h. told_refusal seen c.args.number c.args.text.now c.in-Ok.line e c.in-Ok.ensures.line h) c.accept.ensures.refused
