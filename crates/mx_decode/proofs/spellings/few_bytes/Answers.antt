use Rattle.mx_decode.proofs.Answer.{spells_short}
use Rattle.mx_decode.proofs.Front.{spelled_bytes, open_short}
use Rattle.mx_decode.proofs.spellings.few_bytes.Goals as goal

pub returns-clause-bytes : goal.returns-clause-bytes
returns-clause-bytes c = spelled_bytes

pub returns-clause-spelled : goal.returns-clause-spelled
returns-clause-spelled c = spells_short

pub returns-clause-open_too : goal.returns-clause-open_too
returns-clause-open_too c = open_short
