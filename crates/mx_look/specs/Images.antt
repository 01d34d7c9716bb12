-- What is looked at of an image (our own).
use Rattle.std.specs.Prelude.{ℕ, ◌+◌, nat_lt, List, [], ◌∷◌, length, take, drop, Option, Some, None, if◌then◌else◌}
use Rattle.mx_word.specs.Word.{value_at}
use Rattle.mx_exec.specs.declared.image.Image.{Image}
use Rattle.mx_look.specs.declared.images.ImageGlance.{ImageGlance}

-- the number at a place of a message
abbrev pub word_at : List ℕ → ℕ → ℕ
word_at message at = value_at (drop at message) 0 4

-- source, type, and p0 to p6
unfoldable pub nine_words : List ℕ → List ℕ
nine_words m =
    word_at m 0 ∷ word_at m 4 ∷ word_at m 8 ∷ word_at m 12 ∷ word_at m 16
    ∷ word_at m 20 ∷ word_at m 24 ∷ word_at m 28 ∷ word_at m 32 ∷ []

-- the words of the message at an address, if they lie inside
unfoldable pub message_at : List ℕ → ℕ → Option (List ℕ)
message_at memory at =
    if nat_lt (length memory) (at + 36) then None else Some (nine_words (take 36 (drop at memory)))

-- trap and result, the memory's length, and the message at the buffer
unfoldable pub image_glance : Image → ImageGlance
image_glance m =
    record { eax = m.regs.eax; ecx = m.regs.ecx; limit = length m.memory; words = message_at m.memory m.regs.ebx }
