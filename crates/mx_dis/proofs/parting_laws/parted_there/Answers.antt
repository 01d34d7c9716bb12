use Rattle.mx_dis.proofs.Partings.{first, spelled, later}
use Rattle.mx_dis.proofs.parting_laws.parted_there.Goals as goal

pub returns-clause-first : goal.returns-clause-first
returns-clause-first c = first

pub returns-clause-spelled : goal.returns-clause-spelled
returns-clause-spelled c = spelled

pub returns-clause-later : goal.returns-clause-later
returns-clause-later c = later
