use Rattle.std.proofs.Common.{Some, None}
use Rattle.mx_app_explain.proofs.Folders.{folder_is}
use Rattle.mx_app_explain.proofs.explaining.folder_of.Goals as goal

pub returns-in-Some : goal.returns-in-Some
returns-in-Some c = folder_is c.args.name.now (Some (c.in-Some.folder, c.in-Some.field-0-1)) c.in-Some.ensures.cases

pub returns-in-None : goal.returns-in-None
returns-in-None c = folder_is c.args.name.now None c.in-None.ensures.cases
