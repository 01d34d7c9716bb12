use Rattle.mx_rsp.proofs.HeardLemmas.{packet_heard, damage_refused}
use Rattle.mx_rsp.proofs.packet.packet_facts.Goals as goal

pub returns-clause-heard : goal.returns-clause-heard
returns-clause-heard c = packet_heard c.args.payload.now

pub returns-clause-damaged : goal.returns-clause-damaged
returns-clause-damaged c = damage_refused c.args.payload.now
