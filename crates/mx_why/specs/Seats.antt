-- What is said of the slots of a world at the end of a history (our own).
use Rattle.std.specs.Prelude.{ℕ, ◌==◌, nat_lt, if◌then◌else◌, Bool, false, Option, Some, None, find, slice_index_or}
use Rattle.std.specs.List.{range_with_len}
use Rattle.std.specs.Option.{option_map}
use Rattle.mx_print_report.specs.declared.doing.Doing.{Doing}
use Rattle.mx_why.specs.declared.seats.Seat.{Seat}
use Rattle.mx_why.specs.declared.seats.End.{End}

-- what is known of a slot
abbrev pub seat_in : End → ℕ → Option Seat
seat_in e s = if nat_lt s 32 then slice_index_or e.seats s None else None

-- what its process does
abbrev pub doing_in : End → ℕ → Option Doing
doing_in e s = option_map (λ (g : Seat). g.doing) (seat_in e s)

abbrev pub is_slot : ℕ → Option ℕ → Bool
is_slot s None = false
is_slot s (Some o) = o == s

-- a slot owns an interrupt line
abbrev pub owns : End → ℕ → ℕ → Bool
owns e s l = is_slot s (if nat_lt l 16 then slice_index_or e.owners l None else None)

-- the first line that it owns
abbrev pub first_line : End → ℕ → Option ℕ
first_line e s = find (owns e s) (range_with_len 0 16)
