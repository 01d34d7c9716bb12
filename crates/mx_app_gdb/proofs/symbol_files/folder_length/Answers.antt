use Rattle.std.proofs.Common.{◌∙◌, arith}
use Rattle.mx_app_gdb.proofs.Folders.{no_stroke, stroke}
use Rattle.mx_app_gdb.proofs.symbol_files.folder_length.Goals.{then-file-place-eq47, else-file-place-eq47}
use Rattle.mx_app_gdb.proofs.symbol_files.folder_length.Goals as goal

pub loop-place-preserved : goal.loop-place-preserved
loop-place-preserved c =
    let file = c.args.file.now in
    let place = c.loop-place.place in
    elim c.if-file-place-eq47.branch [
      | then-file-place-eq47 w ↦ (w.cut-is ∙ stroke file place c.loop-place-test.true w.if-file-place-eq47.true, omega (arith, w.cut-is))
      | else-file-place-eq47 w ↦ (w.cut-is ∙ c.loop-place.invariant.0 ∙ no_stroke file place c.loop-place-test.true w.if-file-place-eq47.false, omega (arith, w.cut-is, c.loop-place.invariant.1))
    ]
