use Rattle.mx_why.specs.Begun.{FileNames, names_of}
use Rattle.mx_app.proofs.Afterwards.{tells, tells_again}
use Rattle.mx_app.proofs.after_run.told_again.Goals as goal

pub returns : goal.returns
returns g c =
    let again = c.in_ok-first_again.ensures.again in
    let names : FileNames = names_of c.args.names in
    tells_again c.args.strict _ _ _ names again.0 c.line_after_run.result again.1 again.2
    (tells c.args.strict _ _ names c.line_after_run.result c.line_after_run.ensures.told c.line_after_run.ensures.fault)
