use Rattle.std.proofs.Common.{[], ◌∷◌, Err, ap, inl, inr, refl, sym}
use Rattle.std.specs.IoError.{error_kind}
use Rattle.std.proofs.lemmas.List.{append-nil}
use Rattle.mx_app_db.specs.Asked.{file_given, file_missed}
use Rattle.mx_app_db.specs.Written.{kept, unkept}
use Rattle.mx_app.proofs.Shown.{file_assembled, passed}
use Rattle.mx_app.proofs.named.as_named.Goals as goal

pub returns-in-Err : goal.returns-in-Err
returns-in-Err g c =
    let kind = error_kind c.in-Err.error in (
      file_missed c.args.text.now kind ∷ [],
      [],
      c.in-Err.ensures.missed,
      sym (append-nil _),
      (file_missed c.args.text.now kind, refl, inl (refl, (kind, refl, ap Err c.unread.ensures))),
    )

pub returns-in_err-program : goal.returns-in_err-program
returns-in_err-program g c =
    let f = c.in_err-program.field-0.0 in
    let bytes = c.in-Ok.source.items in (
      file_given c.args.text.now bytes ∷ [],
      [],
      c.in-Ok.ensures.given,
      sym (append-nil _),
      (
        file_given c.args.text.now bytes,
        refl,
        inr (bytes, refl, inl (f, c.in_err-program.ensures.fault, refl, passed f c.from_residual.result c.from_residual.ensures.1)),
      ),
    )

pub returns : goal.returns
returns g c =
    let kind = error_kind c.in-Err-write.error in
    let bytes = c.in-Ok.source.items in
    let slice = c.as_slice.result.now in (
      file_given c.args.text.now bytes ∷ [],
      unkept c.args.file.now slice kind ∷ [],
      c.in-Ok.ensures.given,
      c.in-Err-write.ensures.unkept,
      (
        file_given c.args.text.now bytes,
        refl,
        inr (
          bytes,
          refl,
          inr (
            unkept c.args.file.now slice kind,
            refl,
            refl,
            file_assembled bytes bytes c.in_ok-program.program.items slice refl c.as_slice.ensures.value c.in_ok-program.ensures.file,
            ap Err c.unwritten.ensures,
          ),
        ),
      ),
    )

pub returns-in-Ok-write : goal.returns-in-Ok-write
returns-in-Ok-write g c =
    let bytes = c.in-Ok.source.items in
    let slice = c.as_slice.result.now in (
      file_given c.args.text.now bytes ∷ [],
      kept c.args.file.now slice ∷ [],
      c.in-Ok.ensures.given,
      c.in-Ok-write.ensures.kept,
      (
        file_given c.args.text.now bytes,
        refl,
        inr (
          bytes,
          refl,
          inr (
            kept c.args.file.now slice,
            refl,
            refl,
            file_assembled bytes bytes c.in_ok-program.program.items slice refl c.as_slice.ensures.value c.in_ok-program.ensures.file,
            refl,
          ),
        ),
      ),
    )
