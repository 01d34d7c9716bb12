use Rattle.mx_laws.proofs.MoveLemmas.{move_same, moves_same}
use Rattle.mx_laws.proofs.SameLemmas.{of_twin_worlds, twin_worlds_of}
use Rattle.mx_laws.proofs.secrecy_laws.images_stay_secret.Goals as goal

pub returns-clause-event : goal.returns-clause-event
returns-clause-event c = λ q w v a e h m. let k = move_same (twin_worlds_of q w v h) a e m in record { answer = k.0; world = of_twin_worlds q _ _ k.1 }

pub returns-clause-events : goal.returns-clause-events
returns-clause-events c = λ q w v xs h m. let k = moves_same xs w v (twin_worlds_of q w v h) m in record { answers = k.0; world = of_twin_worlds q _ _ k.1 }
