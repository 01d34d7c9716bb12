use Rattle.mx_laws.proofs.ByteLemmas.{copy_through}
use Rattle.mx_laws.proofs.diary_laws.copies_go_through_windows.Goals as goal

pub returns : goal.returns
returns c = λ w a s e copy strict f g. copy_through w a e s copy strict f g
