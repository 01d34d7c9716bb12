use Rattle.mx_encode.proofs.Formed.{formed_chosen}
use Rattle.mx_encode.proofs.spelling_laws.some_chosen.Goals as goal

pub returns : goal.returns
returns c = formed_chosen
