-- Parts of the schedules that are explored: I/N is part I of N, the first being 0 (our own).
use Rattle.std.specs.Prelude.{ℕ, ◌==◌, ◌-◌, nat_lt, if◌then◌else◌, List, Option, Some, None}
use Rattle.std.specs.List.{after_first, before_first}
use Rattle.mx_app_command.specs.declared.parts.SchedulePart.{SchedulePart}
use Rattle.mx_text.specs.NumberFields.{number_up_to}

-- all of them, as one part
abbrev pub whole_part : SchedulePart
whole_part = record { before = 0; after = 0 }

-- part i of n, if there is one
abbrev pub part_by : Option ℕ → Option ℕ → Option SchedulePart
part_by (Some i) (Some n) = if nat_lt i n then Some (record { before = i; after = n - i - 1 }) else None
part_by i n = None

-- what stands before and after the first slash are decimal numbers of 32 bits
abbrev pub part_said : List ℕ → Option SchedulePart
part_said text =
    part_by (number_up_to 4294967295 10 (before_first (λ b. b == 47) text))
    (number_up_to 4294967295 10 (after_first (λ b. b == 47) text))

-- without a word it is all of them
abbrev pub part_asked : Option (List ℕ) → Option SchedulePart
part_asked None = Some whole_part
part_asked (Some text) = part_said text
