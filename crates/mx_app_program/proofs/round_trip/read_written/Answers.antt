use Rattle.std.proofs.Common.{subst}
use Rattle.std.specs.Prelude.{Option, Ok}
use Rattle.mx_aout.specs.declared.program.FileError.{FileError}
use Rattle.mx_aout.specs.File.{ReadsFile}
use Rattle.mx_app_program.proofs.round_trip.read_written.Goals as goal

pub returns-in-Ok : goal.returns-in-Ok
returns-in-Ok c =
    let file = c.args.file.now in
    c.one_program.ensures file c.in-Ok.again c.args.program.now (subst (λ (r : Option FileError). ReadsFile r file (Ok c.in-Ok.again)) c.requires.accepted c.in-Ok.ensures) c.requires
