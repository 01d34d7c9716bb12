-- How large a program may be.
use Rattle.std.specs.Prelude.{ℕ, ◌+◌, ◌*◌, ◌/◌, ◌<◌, ◌≤◌, Bool, if◌then◌else◌}

-- a size rounded up to whole pages of 4096 bytes
abbrev pub rounded_to_pages : ℕ → ℕ
rounded_to_pages total = (total + 4095) / 4096 * 4096

-- the bytes that a program's data segment begins with or reserves for bss: the text is among them unless it
-- is separate
abbrev pub used_of : Bool → ℕ → ℕ → ℕ → ℕ
used_of sep text init bss = if sep then init + bss else text + init + bss

-- sizes with which a program isn't refused: some total, and text, symbols, rounded total and used bytes
-- within their limits
abbrev pub IsWithin : Bool → ℕ → ℕ → ℕ → ℕ → ℕ → Type 0
IsWithin sep total text init bss symbols =
    (0 < total) × (text ≤ 1048576) × (symbols * 16 ≤ 262144) × (rounded_to_pages total ≤ 4194304)
    × (used_of sep text init bss ≤ rounded_to_pages total)
