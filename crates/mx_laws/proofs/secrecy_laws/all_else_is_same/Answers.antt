use Rattle.mx_laws.proofs.SameLemmas.{twin_worlds_of}
use Rattle.mx_laws.proofs.SoundTwins.{else_same}
use Rattle.mx_laws.proofs.secrecy_laws.all_else_is_same.Goals as goal

pub returns : goal.returns
returns c = λ q w v h. else_same q w v (twin_worlds_of q w v h)
