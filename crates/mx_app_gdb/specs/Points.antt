-- Breakpoints and watches, as gdb sets them (our own).
use Rattle.std.specs.Prelude.{ℕ, ◌+◌, ◌&&◌, nat_le, nat_lt, Bool, true, false}
use Rattle.std.specs.Prelude.{if◌then◌else◌, List, [], ◌∷◌, filter, length, unwrap_or, Option, Some, None}
use Rattle.mx_debug.specs.declared.points.Breakpoint.{Breakpoint}
use Rattle.mx_debug.specs.Points.{with_point, without_point}
use Rattle.mx_exec.specs.declared.image.Image.{Image}
use Rattle.mx_exec.specs.Image.{code_bytes}
use Rattle.mx_print_answers.specs.Slots.{image_in}
use Rattle.mx_rsp.specs.declared.request.Point.{Point}
use Rattle.mx_rsp.specs.declared.request.Point.TheVariants.{Break, Watch}
use Rattle.mx_walk.specs.Walks.{Walk, world_here}
use Rattle.mx_app_look.specs.declared.points.Points.{Points}
use Rattle.mx_app_look.specs.declared.watches.Watch.{Watch as Watched}
use Rattle.mx_app_look.specs.Slots.{limit_in}
use Rattle.mx_app_look.specs.Watches.{with_watch, without_watch}
use Rattle.mx_app_gdb.specs.declared.threads.Counted.{Counted}
use Rattle.mx_app_gdb.specs.Addresses.{code_address}
use Rattle.mx_app_gdb.specs.Threads.{counts}

-- ---- one after the other: what is set already isn't set again, and what has no room isn't set

abbrev pub breaks_set : List Breakpoint → List Breakpoint → List Breakpoint
breaks_set bs [] = bs
breaks_set bs (p ∷ ps) = breaks_set (unwrap_or (with_point bs p.slot p.address) bs) ps

abbrev pub watches_set : List Watched → List Watched → List Watched
watches_set xs [] = xs
watches_set xs (y ∷ ys) = watches_set (unwrap_or (with_watch xs y) xs) ys

-- those that count on a move
abbrev pub counted_points : Points → Counted → Points
counted_points s c = record {
  breakpoints = breaks_set [] (filter (λ (p : Breakpoint). counts c p.slot) s.breakpoints);
  watches = watches_set [] (filter (λ (x : Watched). counts c x.slot) s.watches);
}

-- ---- breakpoints: at an address of the code, 64 at most

abbrev pub code_limit_of : Option Image → ℕ
code_limit_of None = 0
code_limit_of (Some m) = length (code_bytes m)

abbrev pub with_break : Points → Option (List Breakpoint) → Bool × Points
with_break s None = (false, s)
with_break s (Some bs) = (true, record s { breakpoints = bs })

abbrev pub break_at : Walk → Points → ℕ → Option ℕ → Bool × Points
break_at k s slot None = (false, s)
break_at k s slot (Some at) =
    if nat_lt at (code_limit_of (image_in (world_here k) slot))
    then with_break s (with_point s.breakpoints slot at) else (false, s)

-- ---- watches: each of at most 4,096 bytes, and eight of them at most

-- the bytes are some, not too many, and all inside
abbrev pub is_inside : Walk → Watched → Bool
is_inside k x =
    (nat_lt 0 x.count && nat_le x.count 4096) && nat_le (x.address + x.count) (limit_in (world_here k) x.slot)

abbrev pub with_watched : Points → Option (List Watched) → Bool × Points
with_watched s None = (false, s)
with_watched s (Some xs) = (true, record s { watches = xs })

abbrev pub watch_at : Walk → Points → Watched → Bool × Points
watch_at k s x = if is_inside k x then with_watched s (with_watch s.watches x) else (false, s)

abbrev pub watched : ℕ → ℕ → ℕ → Watched
watched slot a n = record { slot = slot; address = a; count = n }

-- A POINT MORE: whether it is set, and those after it. What can't be set changes nothing
abbrev pub inserted : Walk → Points → ℕ → Point → ℕ → ℕ → Bool × Points
inserted k s slot Break a n = break_at k s slot (code_address a)
inserted k s slot Watch a n = watch_at k s (watched slot a n)

abbrev pub unbreak_at : Points → ℕ → Option ℕ → Points
unbreak_at s slot None = s
unbreak_at s slot (Some at) = record s { breakpoints = without_point s.breakpoints slot at }

-- A POINT LESS
abbrev pub removed : Points → ℕ → Point → ℕ → ℕ → Points
removed s slot Break a n = unbreak_at s slot (code_address a)
removed s slot Watch a n = record s { watches = without_watch s.watches (watched slot a n) }
