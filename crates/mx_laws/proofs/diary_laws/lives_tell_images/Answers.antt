use Rattle.mx_laws.proofs.RunLemmas.{begins_again, begins_at_boot, life_law, lives_agree}
use Rattle.mx_laws.proofs.diary_laws.lives_tell_images.Goals as goal

pub returns-clause-image : goal.returns-clause-image
returns-clause-image c = life_law

pub returns-clause-equal : goal.returns-clause-equal
returns-clause-equal c = lives_agree

pub returns-clause-boot : goal.returns-clause-boot
returns-clause-boot c = λ config vs s v xs e sound. begins_at_boot config vs s v xs e sound

pub returns-clause-respawn : goal.returns-clause-respawn
returns-clause-respawn c = λ w a s v xs h f e sound. begins_again w a s v xs h.sound f e sound
