-- Nor does a `&` to it own anything.
use denote.RattleType.{RattleType}
use denote.Param.Send.{IsSync, part_keyless}
use Rattle.mx_app_live.specs.contracts.noted.Noted.{the_row}
use Rattle.mx_app_live.proofs.noted.Noted.TheSendSync.Send.{send}

pub sync : (Y : RattleType) → IsSync (the_row Y)
sync Y = record { shared = λ d b o κ q. part_keyless (the_row Y) (send Y) q d b o }
