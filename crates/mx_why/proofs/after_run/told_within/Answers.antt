use Rattle.std.proofs.Common.{◌∙◌, sym}
use Rattle.mx_app_start.specs.Machine.{world_of}
use Rattle.mx_why.specs.Begun.{names_of}
use Rattle.mx_why.proofs.AfterLemmas.{within_line, within_none}
use Rattle.mx_why.proofs.after_run.told_within.Goals as goal

pub returns-in-Some : goal.returns-in-Some
returns-in-Some c =
    within_line c.args.all (world_of c.args.machine.now) c.args.records.now c.args.config.now c.args.said.now (names_of c.args.names) c.in-Some.line _
    (sym c.are_left_out.ensures ∙ c.if-are_left_out.false) c.in-Some.is c.in_ok-line.ensures

pub returns-in-None : goal.returns-in-None
returns-in-None c =
    within_none c.args.all (world_of c.args.machine.now) c.args.records.now c.args.config.now c.args.said.now (names_of c.args.names) _
    (sym c.are_left_out.ensures ∙ c.if-are_left_out.false) c.in-None.is c.in_ok-line.ensures
