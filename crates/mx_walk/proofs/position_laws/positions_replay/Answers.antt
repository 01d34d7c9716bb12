use Rattle.mx_walk.proofs.Fronts.{front_replays, within_replays}
use Rattle.mx_walk.proofs.position_laws.positions_replay.Goals as goal

pub returns-clause-between : goal.returns-clause-between
returns-clause-between c w records k = front_replays w records k

pub returns-clause-within : goal.returns-clause-within
returns-clause-within c w records p x e = within_replays w records p x e
