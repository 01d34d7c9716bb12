-- How bytes that are watched changed (our own).
use Rattle.std.specs.Prelude.{ℕ, nat_eq, if◌then◌else◌, List, [], ◌∷◌, ◌++◌, codes, map, Option, Some, None}
use Rattle.std.specs.Cmp.Lexicographic.{pointwise}
use Rattle.std.specs.Fmt.{decimal}
use Rattle.std.specs.List.{flat_map}
use Rattle.mx_insn_words.specs.Numbers.{eight_digits}
use Rattle.mx_machine.specs.World.{World}
use Rattle.mx_print_answers.specs.Processes.{byte_field}
use Rattle.mx_walk.specs.declared.watching.BytePlace.{BytePlace}
use Rattle.mx_walk.specs.Watching.{byte_in}
use Rattle.mx_app_look.specs.declared.changes.Seen.{Seen}
use Rattle.mx_app_look.specs.declared.points.Points.{Points}
use Rattle.mx_app_look.specs.declared.watches.Watch.{Watch}
use Rattle.mx_app_look.specs.Watches.{places_of}

abbrev pub listed_byte : Option ℕ → List ℕ
listed_byte None = []
listed_byte (Some b) = b ∷ []

-- the bytes at these places; none for a place outside
abbrev pub listed_bytes : World → List BytePlace → List ℕ
listed_bytes w places = flat_map (λ (b : BytePlace). listed_byte (byte_in w b)) places

-- THE BYTES of a watch in a world
abbrev pub bytes_of : World → Watch → List ℕ
bytes_of w x = listed_bytes w (places_of x)

-- the line of a watch, if its bytes changed
abbrev pub change_line : Watch → List ℕ → List ℕ → List ℕ
change_line x before after = if pointwise nat_eq before after then [] else
    codes "watch " ++ decimal x.slot ++ codes " " ++ eight_digits x.address ++ codes ":" ++ flat_map byte_field before
    ++ codes " ->" ++ flat_map byte_field after ++ codes "\n"

-- a watch and its bytes, as they are in a world, and as they were seen
abbrev pub seen_in : World → Watch → Watch × List ℕ
seen_in w x = (x, bytes_of w x)

abbrev pub as_seen : Seen → Watch × List ℕ
as_seen s = (s.watch, s.bytes.items)

abbrev pub changes_since : World → List (Watch × List ℕ) → List ℕ
changes_since u [] = []
changes_since u (s ∷ ss) = change_line s.0 s.1 (bytes_of u s.0) ++ changes_since u ss

-- HOW THE BYTES of each watch change from one world to another
abbrev pub change_text : Points → World → World → List ℕ
change_text s w u = changes_since u (map (seen_in w) s.watches)

-- the first watch whose bytes changed
abbrev pub first_change : World → List (Watch × List ℕ) → Option Watch
first_change u [] = None
first_change u (s ∷ ss) = if pointwise nat_eq s.1 (bytes_of u s.0) then first_change u ss else Some s.0
