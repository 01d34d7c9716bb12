-- Nor does a `&` to it own anything.
use denote.RattleType.{RattleType}
use denote.Param.Send.{IsSync, part_keyless}
use Rattle.mx_loan.specs.contracts.ghost_value.Ghost.{the_row}
use Rattle.mx_loan.proofs.ghost_value.Ghost.TheSendSync.Send.{send}

pub sync : (Y : RattleType) → IsSync (the_row Y)
sync Y = record { shared = λ d b o κ q. part_keyless (the_row Y) (send Y) q d b o }
