use Rattle.mx_walk.proofs.Next.{world_next}
use Rattle.mx_walk.proofs.position_laws.events_are_made.Goals as goal

pub returns : goal.returns
returns c w records p x h e = world_next records p x h e w
