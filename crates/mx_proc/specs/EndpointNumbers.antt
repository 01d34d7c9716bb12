-- Endpoints as numbers of 32 bits (our choice): of a process, a generation times 1024 and a slot.
use Rattle.std.specs.Prelude.{ℕ, ◌+◌, ◌-◌, ◌*◌, ◌/◌, ◌%◌, ◌^◌}

abbrev pub slot_of : ℕ → ℕ
slot_of e = e % 1024

abbrev pub generation_of : ℕ → ℕ
generation_of e = e / 1024

-- the endpoint of a generation of a slot
abbrev pub endpoint_from : ℕ → ℕ → ℕ
endpoint_from generation slot = generation * 1024 + slot

-- Endpoints of no process: HARDWARE, SYSTEM and CLOCK are -1, -2 and -3 as signed numbers.
abbrev pub any_endpoint : ℕ
any_endpoint = 31438

abbrev pub hardware_endpoint : ℕ
hardware_endpoint = 2 ^ 32 - 1

abbrev pub system_endpoint : ℕ
system_endpoint = 2 ^ 32 - 2

abbrev pub clock_endpoint : ℕ
clock_endpoint = 2 ^ 32 - 3
