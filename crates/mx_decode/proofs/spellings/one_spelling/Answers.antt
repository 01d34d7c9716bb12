use Rattle.mx_decode.proofs.Laws as laws
use Rattle.mx_decode.proofs.spellings.one_spelling.Goals as goal

pub returns : goal.returns
returns c = laws.one_spelling
