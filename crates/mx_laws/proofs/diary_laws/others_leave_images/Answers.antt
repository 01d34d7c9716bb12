use Rattle.mx_laws.proofs.ByteLemmas.{others_leave}
use Rattle.mx_laws.proofs.RunLemmas.{has_slot}
use Rattle.mx_laws.proofs.diary_laws.others_leave_images.Goals as goal

pub returns : goal.returns
returns c = λ w a e s h f. others_leave w a e s h.sound f (has_slot w s h.sound h.served)
