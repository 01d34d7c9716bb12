use Rattle.std.proofs.Common.{rules}
use Rattle.mx_app_turns.proofs.sweeping.replay_history.Goals as goal

pub returns-in-Err-clause-refused : goal.returns-in-Err-clause-refused
returns-in-Err-clause-refused c = (c.in-Err.number, c.in-Err.ensures.err, search rules)
