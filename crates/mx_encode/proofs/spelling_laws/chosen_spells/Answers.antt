use Rattle.mx_encode.specs.Chosen.{fields_of}
use Rattle.mx_encode.proofs.spelling_laws.chosen_spells.Goals as goal

pub returns : goal.returns
returns c i wide bytes x = (x.chosen.row, fields_of x.chosen wide.displacement, x.spells)
