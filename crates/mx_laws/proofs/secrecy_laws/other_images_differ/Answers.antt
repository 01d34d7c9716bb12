use Rattle.mx_laws.specs.Same.{world_with_image, world_with_image_held}
use Rattle.mx_laws.proofs.SameLemmas.{of_twin_worlds}
use Rattle.mx_laws.proofs.SoundTwins.{sound_twins, held_twins}
use Rattle.mx_laws.proofs.secrecy_laws.other_images_differ.Goals as goal

pub returns-clause-home : goal.returns-clause-home
returns-clause-home c = λ w q m h. of_twin_worlds q w (world_with_image w q m) (sound_twins q w m h.before h.after h.limit)

pub returns-clause-held : goal.returns-clause-held
returns-clause-held c = λ w a l m h e. of_twin_worlds l.slot w (world_with_image_held w a l m) (held_twins w a l m h e)
