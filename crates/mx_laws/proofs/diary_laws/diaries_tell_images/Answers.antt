use Rattle.mx_laws.proofs.DiaryMoves.{event_law}
use Rattle.mx_laws.proofs.SoundDiaries.{held_once}
use Rattle.mx_laws.proofs.RunLemmas.{boot_law, has_slot, respawn_law}
use Rattle.mx_laws.proofs.diary_laws.diaries_tell_images.Goals as goal

pub returns-clause-event : goal.returns-clause-event
returns-clause-event c = λ w a e s h f n. event_law w a e s (held_once w h.sound) f (has_slot w s h.sound h.served) n

pub returns-clause-respawn : goal.returns-clause-respawn
returns-clause-respawn c = λ w a s v h f e. respawn_law w a s v h.sound f e

pub returns-clause-boot : goal.returns-clause-boot
returns-clause-boot c = λ config vs s v e. boot_law config.rules vs config.cpus config.others config.log s v e
