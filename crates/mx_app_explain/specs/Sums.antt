-- The sums of a machine, and which part differs from a text of sums (our own; the form of a line is that of
-- `sha256sum`).
use Rattle.std.specs.Prelude.{ℕ, if◌then◌else◌, List, [], ◌∷◌, ◌++◌, codes, length, take, drop, Option, Some, None, map}
use Rattle.std.specs.List.{flat_map}
use Rattle.std.specs.Option.{option_map_or}
use Rattle.std.specs.Str.{bytes_eq}
use Rattle.hex.specs.Hex.{encode_lower}
use Rattle.sha2.specs.Sha256.{sha256}
use Rattle.mx_aout.specs.Written.{short_file}
use Rattle.mx_machine.specs.Service.{Service as Served}
use Rattle.mx_boot.specs.Config.{Config}
use Rattle.mx_app_explain.specs.Items.{items_text, name_word}
use Rattle.mx_app_explain.specs.declared.sums.MachinePart.{MachinePart}
use Rattle.mx_app_explain.specs.declared.sums.MachinePart.TheVariants.{Configuration, Service}
use Rattle.mx_app_explain.specs.declared.sums.PartSum.{PartSum}

-- the sum of what a configuration says
abbrev pub configuration_sum : Config → PartSum
configuration_sum c = record { part = Configuration; digest = sha256 (items_text c) }

-- the sum of a service's program is that of the file that is written of it, in the short form
abbrev pub program_sum : Served → PartSum
program_sum v = record { part = Service v.name; digest = sha256 (short_file v.program) }

-- THE SUMS OF A MACHINE, by its configuration and its services
abbrev pub machine_sums : Config → List Served → List PartSum
machine_sums c vs = configuration_sum c ∷ map program_sum vs

-- ---- as text

abbrev pub part_word : MachinePart → List ℕ
part_word Configuration = codes "configuration"
part_word (Service n) = name_word n

-- a part's line: its sum as 64 hexadecimal digits, two spaces and its name
unfoldable pub sum_line : PartSum → List ℕ
sum_line s = encode_lower s.digest ++ codes "  " ++ part_word s.part ++ codes "\n"

abbrev pub sums_text : List PartSum → List ℕ
sums_text sums = flat_map sum_line sums

-- ---- compared

-- a text after this line, if it begins with it
abbrev pub after_line : List ℕ → List ℕ → Option (List ℕ)
after_line line text = if bytes_eq (take (length line) text) line then Some (drop (length line) text) else None

-- THE FIRST PART whose line the text hasn't at its place. If the text has more than all lines, that is the
-- configuration
abbrev pub first_other : List PartSum → List ℕ → Option MachinePart
first_other [] [] = None
first_other [] (b ∷ bs) = Some Configuration
first_other (s ∷ ss) text = option_map_or (first_other ss) (after_line (sum_line s) text) (Some s.part)
