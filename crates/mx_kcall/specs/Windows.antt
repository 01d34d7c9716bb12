-- Windows: what a process lets another copy out of its memory or into it (our choice).
use Rattle.std.specs.Prelude.{ℕ, ◌+◌, ◌==◌, nat_le, ◌&&◌, Bool, true, false, Option, Some, None, if◌then◌else◌}
use Rattle.std.specs.Option.{option_map}
use Rattle.mx_respawn.specs.Proc.declared.windows.Access.{Access}
use Rattle.mx_respawn.specs.Proc.declared.windows.Access.TheVariants.{Read, Write, Both}
use Rattle.mx_respawn.specs.Proc.declared.windows.Window.{Window}
use Rattle.mx_respawn.specs.Proc.declared.windows.Rules.{Rules}
use Rattle.mx_respawn.specs.Proc.declared.windows.Rules.TheVariants.{Lenient, Strict}

-- rules 2
abbrev pub is_strict : Rules → Bool
is_strict Lenient = false
is_strict Strict = true

abbrev pub allows_reading : Access → Bool
allows_reading Read = true
allows_reading Write = false
allows_reading Both = true

abbrev pub allows_writing : Access → Bool
allows_writing Read = false
allows_writing Write = true
allows_writing Both = true

-- the test of a window's access for the access that is wanted
abbrev pub allows : Access → Access → Bool
allows Read = allows_reading
allows Write = allows_writing
allows Both = λ access. allows_reading access && allows_writing access

-- A WINDOW IS OPEN for a range: a test of its access passes, and it has the whole range, also one of no bytes
abbrev pub is_open : (Access → Bool) → Option Window → ℕ → ℕ → Bool
is_open allows None at count = false
is_open allows (Some window) at count =
    allows window.access && nat_le window.place at && nat_le (at + count) (window.place + window.count)

-- the access of a grant's number; 0 is no access
abbrev pub access_of : ℕ → Option Access
access_of n = if n == 1 then Some Read else if n == 2 then Some Write else if n == 3 then Some Both else None

-- what a grant opens
abbrev pub granted : ℕ → ℕ → ℕ → Option Window
granted place count access =
    option_map (λ (a : Access). record { place = place; count = count; access = a }) (access_of access)
