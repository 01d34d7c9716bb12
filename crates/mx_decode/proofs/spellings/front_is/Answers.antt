use Rattle.mx_decode.proofs.Front.{front_ok, front_not_in_table, front_short}
use Rattle.mx_decode.proofs.spellings.front_is.Goals as goal

pub returns-clause-ok : goal.returns-clause-ok
returns-clause-ok c = front_ok

pub returns-clause-not_in_table : goal.returns-clause-not_in_table
returns-clause-not_in_table c = front_not_in_table

pub returns-clause-short : goal.returns-clause-short
returns-clause-short c = front_short
