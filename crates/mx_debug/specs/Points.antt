-- Breakpoints (our own).
use Rattle.std.specs.Prelude.{ℕ, Bool, ◌&&◌, ◌==◌, nat_lt, if◌then◌else◌, List, [], ◌∷◌, ◌++◌, length, Option, Some, None, filter, not}
use Rattle.std.specs.List.{list_any}
use Rattle.mx_debug.specs.declared.points.Breakpoint.{Breakpoint}

-- it stops this slot's process at this address
abbrev pub is_at : ℕ → ℕ → Breakpoint → Bool
is_at slot address p = (p.slot == slot) && (p.address == address)

abbrev pub has_breakpoint : List Breakpoint → ℕ → ℕ → Bool
has_breakpoint points slot address = list_any (is_at slot address) points

-- the slot has one
abbrev pub has_any : List Breakpoint → ℕ → Bool
has_any points slot = list_any (λ (p : Breakpoint). p.slot == slot) points

-- with one more, 64 at most over all slots; one that is there already isn't added again
abbrev pub with_point : List Breakpoint → ℕ → ℕ → Option (List Breakpoint)
with_point points slot address =
    if has_breakpoint points slot address then Some points
    else if nat_lt (length points) 64 then Some (points ++ record { slot = slot; address = address } ∷ [])
    else None

abbrev pub without_point : List Breakpoint → ℕ → ℕ → List Breakpoint
without_point points slot address = filter (λ p. not (is_at slot address p)) points
