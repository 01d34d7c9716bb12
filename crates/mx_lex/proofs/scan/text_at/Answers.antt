use Rattle.std.proofs.Common.{arith, ◌+◌, refl}
use Rattle.mx_lex.proofs.Lexing.{body_over}
use Rattle.mx_lex.proofs.scan.text_at.Goals as goal

pub returns-clause-token : goal.returns-clause-token
returns-clause-token c =
    let t = c.args.bytes.now in
    let a = c.args.start in
    let e = c.in_ok-end.field-0 in
    let found = c.in_ok-end.ensures.quote in record {
      form = (c.requires.quote, e, found.1, found.2, refl);
      within = omega (arith, found.0);
      longest = λ b more within (q, f, body, quote, at). let le = body_over t (a + 1) e f found.1 found.2 body in absurd (omega (arith, le, more, at));
      meant = tt;
    }
