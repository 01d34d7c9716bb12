-- THE DEATHS of a history: those of one slot that are alike together (our own).
use Rattle.std.specs.Prelude.{ℕ, ◌==◌, ◌&&◌, not, nat_lt, if◌then◌else◌, Bool, List, [], ◌∷◌, count_by, filter, find, length, take, Option, Some, None, slice_get}
use Rattle.std.specs.List.{flat_map, range_with_len, list_any}
use Rattle.std.specs.Option.{option_map}
use Rattle.std.specs.Str.{bytes_eq}
use Rattle.mx_why.specs.declared.deaths.Death.{Death}
use Rattle.mx_why.specs.declared.notes.Note.{Note}
use Rattle.mx_why.specs.Notes.{is_died, is_respawn_of, last_number}

-- two notes are of deaths of one slot, of one cause at one place
abbrev pub is_alike : Note → Note → Bool
is_alike n m = is_died n.deed && (is_died m.deed && ((n.slot == m.slot) && bytes_eq n.text m.text))

abbrev pub is_respawn_after : ℕ → ℕ → Note → Bool
is_respawn_after s last n = is_respawn_of s n && nat_lt last n.number

-- the first respawn of a slot after a record
abbrev pub respawn_after : List Note → ℕ → ℕ → Option ℕ
respawn_after ns s last =
    option_map (λ (n : Note). n.number) (find (is_respawn_after s last) ns)

-- those like one of the notes, which has this place
unfoldable pub death_of : List Note → ℕ → Note → Death
death_of ns i n = record {
  note = i;
  times = count_by (is_alike n) ns;
  respawn = respawn_after ns n.slot (last_number (filter (is_alike n) ns));
}

unfoldable pub has_alike : List Note → ℕ → Note → Bool
has_alike ns i n = list_any (is_alike n) (take i ns)

-- no earlier one is like it
abbrev pub is_first : List Note → ℕ → Note → Bool
is_first ns i n = is_died n.deed && not (has_alike ns i n)

abbrev pub death_if_first : List Note → ℕ → Note → List Death
death_if_first ns i n = if is_first ns i n then death_of ns i n ∷ [] else []

abbrev pub death_by : List Note → ℕ → Option Note → List Death
death_by ns i None = []
death_by ns i (Some n) = death_if_first ns i n

abbrev pub death_at : List Note → ℕ → List Death
death_at ns i = death_by ns i (slice_get ns i)

-- THE DEATHS, by the first of those that are alike
unfoldable pub deaths : List Note → List Death
deaths ns = flat_map (death_at ns) (range_with_len 0 (length ns))
