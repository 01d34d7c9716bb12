use Rattle.mx_typist.proofs.SeatLemmas.{stored_once}
use Rattle.mx_typist.proofs.protocol_laws.each_byte_is_stored_once.Goals as goal

pub returns : goal.returns
returns c = stored_once
