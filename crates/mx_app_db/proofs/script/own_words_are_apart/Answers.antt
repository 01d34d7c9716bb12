use Rattle.mx_app_db.proofs.Apart.{words_apart}
use Rattle.mx_app_db.proofs.script.own_words_are_apart.Goals as goal

pub returns : goal.returns
returns c = words_apart
