-- The first words of a debugger's own lines: the table is gone over by computation, so a row more changes nothing here.
use Rattle.std.proofs.Common.{◌≡◌, true, refl}
use Rattle.mx_boot.specs.EventKinds.{event_kind_of}
use Rattle.mx_app_db.specs.DebugScript.{are_apart, own_words}

pub words_apart : are_apart own_words ≡ true
unfolding event_kind_of
words_apart = refl
