use Rattle.std.proofs.Common.{◌≡◌, drop}
use Rattle.mx_proc.specs.Partners.{first_pending}
use Rattle.mx_proc.proofs.process.Partner.first_pending.Given as goal

-- what is left decides
abbrev pub invariant-loop-index : goal.invariant-loop-index
invariant-loop-index l = first_pending l.self l.index (drop l.index l.pending) ≡ first_pending l.self 0 l.pending
