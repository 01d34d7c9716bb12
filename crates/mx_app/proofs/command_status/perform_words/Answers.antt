use Rattle.std.proofs.Common.{inl, inr, refl, sym}
use Rattle.std.proofs.lemmas.List.{append-nil}
use Rattle.mx_app.specs.Deeds.{nothing_done}
use Rattle.mx_app.proofs.command_status.perform_words.Goals as goal

pub returns-in-Err-clause-done : goal.returns-in-Err-clause-done
returns-in-Err-clause-done g c =
    (nothing_done, sym (append-nil _), sym (append-nil _), sym (append-nil _), sym (append-nil _), sym (append-nil _), sym (append-nil _), inr (c.in-Err.mistake, c.in-Err.ensures.kinds, refl, refl, refl, (refl, refl), refl, c.complain.ensures))

pub returns-in-Ok-clause-done : goal.returns-in-Ok-clause-done
returns-in-Ok-clause-done g c =
    let done = c.perform_line-done.ensures.done in (
      done.0,
      done.1,
      done.2,
      done.3,
      done.4,
      done.5,
      done.6,
      inl (
        c.in-Ok.line,
        c.perform_line-done.result,
        c.in-Ok.ensures.asks,
        c.in-Ok.ensures.explains,
        c.in-Ok.ensures.silent,
        c.in-Ok.ensures.sums,
        c.in-Ok.ensures.force,
        c.in-Ok.ensures.apart,
        done.7,
        c.answer.ensures,
      ),
    )
