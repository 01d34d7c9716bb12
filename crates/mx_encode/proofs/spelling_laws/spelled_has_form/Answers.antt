use Rattle.mx_encode.proofs.Spelled.{spelled_has_form}
use Rattle.mx_encode.proofs.spelling_laws.spelled_has_form.Goals as goal

pub returns : goal.returns
returns c = spelled_has_form
