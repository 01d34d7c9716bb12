-- What a name is (our own; its length is that of a symbol's name in a.out.h). That a label or a service isn't
-- called as a register or a size word is a rule of those who read it.
use Rattle.std.specs.Prelude.{ℕ, Bool, false, ◌&&◌, nat_le, if◌then◌else◌, List, [], ◌∷◌, length, slice_index, Option}
use Rattle.std.specs.Prelude.{Some, None}
use Rattle.std.specs.List.{list_all}
use Rattle.mx_text.specs.Bytes.{begins_name, is_word_byte}
use Rattle.mx_text.specs.declared.names.Name.{Name}

-- a letter or the underscore, then letters, digits and underscores, eight bytes at most
abbrev pub is_name : List ℕ → Bool
is_name [] = false
is_name (b ∷ bs) = nat_le (length (b ∷ bs)) 8 && begins_name b && list_all is_word_byte bs

-- eight bytes: the word's, and 0 after its end
abbrev pub padded_name : List ℕ → List ℕ
padded_name w =
    slice_index w 0 ∷ slice_index w 1 ∷ slice_index w 2 ∷ slice_index w 3 ∷ slice_index w 4 ∷ slice_index w 5
    ∷ slice_index w 6 ∷ slice_index w 7 ∷ []

abbrev pub name_of : List ℕ → Option Name
name_of w = if is_name w then Some (record { bytes = padded_name w }) else None
