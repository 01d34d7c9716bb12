-- Requests about what a search halts at, and the searches (our own).
use Rattle.std.specs.Prelude.{◌≡◌, ◌==◌, ◌&&◌, ℕ, not, Bool, true, false, List, [], ◌++◌, codes, length, Option, Some, None, Result, Ok, Err}
use Rattle.mx_debug.specs.declared.error.DebugError.{DebugError}
use Rattle.mx_debug.specs.declared.error.DebugError.TheVariants.{TooMany}
use Rattle.mx_debug.specs.declared.points.Breakpoint.{Breakpoint}
use Rattle.mx_debug.specs.Points.{with_point}
use Rattle.mx_boot.specs.declared.address_word.AddressWord.{AddressWord}
use Rattle.mx_app_look.specs.declared.point_request.PointRequest.{PointRequest}
use Rattle.mx_app_look.specs.declared.point_request.PointRequest.TheVariants.{Break, Clear, Show, Watch}
use Rattle.mx_app_look.specs.declared.points.Points.{Points}
use Rattle.mx_app_look.specs.Points.{points_text}
use Rattle.mx_app_look.specs.declared.happening.Happening.{Happening}
use Rattle.mx_app_look.specs.Searches.{IsLastHalt, IsLastHappened, IsNextHalt}
use Rattle.mx_app_look.specs.Until.{has_slots, no_service, type_note}
use Rattle.mx_app_look.specs.declared.watches.Watch.{Watch as Watched}
use Rattle.mx_app_look.specs.Watches.{watch_set}
use Rattle.mx_print_answers.specs.Answers.{done_line}
use Rattle.mx_print_answers.specs.Slots.{address_asked}
use Rattle.mx_print_answers.specs.declared.refused.Refused.{Refused}
use Rattle.mx_print_answers.specs.declared.refused.Refused.TheVariants.{ByDebugger}
use Rattle.mx_walk.specs.declared.positions.Position.{Position}
use Rattle.mx_walk.specs.Walks.{Walk, world_here}
use Rattle.mx_app_look.specs.declared.sight.Sight.{Sight}
use Rattle.mx_app_look.specs.Places.{place_text}
use Rattle.mx_app_look.specs.Slots.{limit_in, slot_asked}
use Rattle.mx_app_look.specs.Starts.{note_in}

-- ---- breakpoints and watches

-- the line `break`: the answer or refusal, and the breakpoints after, 64 at most. A refusal changes nothing
abbrev pub break_added : List Breakpoint → Option (List Breakpoint) → Result (Unit {0}) Refused × List Breakpoint
break_added bs None = (Err (ByDebugger TooMany), bs)
break_added bs (Some more) = (Ok tt, more)

abbrev pub break_at : List Breakpoint → ℕ → Result ℕ Refused → Result (Unit {0}) Refused × List Breakpoint
break_at bs slot (Err r) = (Err r, bs)
break_at bs slot (Ok at) = break_added bs (with_point bs slot at)

abbrev pub break_in : Walk → List Breakpoint → AddressWord → Result ℕ Refused
    → Result (Unit {0}) Refused × List Breakpoint
break_in k bs at (Err r) = (Err r, bs)
break_in k bs at (Ok slot) = break_at bs slot (address_asked (world_here k) slot at)

abbrev pub breaks_after : Walk → List Breakpoint → ℕ → AddressWord → Result (Unit {0}) Refused × List Breakpoint
breaks_after k bs slot at = break_in k bs at (slot_asked k (Some slot))

-- the line `watch`: the same of watches
abbrev pub by_debugger : Result (Unit {0}) DebugError × List Watched → Result (Unit {0}) Refused × List Watched
by_debugger (Ok done, xs) = (Ok tt, xs)
by_debugger (Err e, xs) = (Err (ByDebugger e), xs)

abbrev pub watch_at : Walk → List Watched → ℕ → ℕ → Result ℕ Refused → Result (Unit {0}) Refused × List Watched
watch_at k xs slot n (Err r) = (Err r, xs)
watch_at k xs slot n (Ok at) =
    by_debugger (watch_set xs (limit_in (world_here k) slot) (record { slot = slot; address = at; count = n }))

abbrev pub watch_in : Walk → List Watched → AddressWord → ℕ → Result ℕ Refused
    → Result (Unit {0}) Refused × List Watched
watch_in k xs at n (Err r) = (Err r, xs)
watch_in k xs at n (Ok slot) = watch_at k xs slot n (address_asked (world_here k) slot at)

abbrev pub watches_after : Walk → List Watched → ℕ → AddressWord → ℕ → Result (Unit {0}) Refused × List Watched
watches_after k xs slot at n = watch_in k xs at n (slot_asked k (Some slot))

-- whether a change is done, or why not; and what is set after it
abbrev pub points_after : Walk → Points → PointRequest → Option (Result (Unit {0}) Refused) × Points
points_after k s (Break slot at) =
    let r = breaks_after k s.breakpoints slot at in (Some r.0, record s { breakpoints = r.1 })
points_after k s (Watch slot at n) =
    let r = watches_after k s.watches slot at n in (Some r.0, record s { watches = r.1 })
points_after k s Show = (None, s)
points_after k s Clear = (Some (Ok tt), record { breakpoints = []; watches = [] })

-- whether it is done; or what is set
abbrev pub point_text : Points → Option (Result (Unit {0}) Refused) → List ℕ
point_text s (Some done) = done_line done
point_text s None = points_text s

-- and then, of a breakpoint that is set, that no instruction begins there
abbrev pub break_note : Walk → PointRequest → Option (Result (Unit {0}) Refused) → List ℕ
break_note k (Break slot at) (Some (Ok done)) = note_in (world_here k) at (slot_asked k (Some slot))
break_note k r _ = []

abbrev pub point_made : Sight → PointRequest → Option (Result (Unit {0}) Refused) × Points
point_made s r = points_after s.walker s.points r

-- THE ANSWER to such a request
abbrev pub point_answer : Sight → PointRequest → List ℕ
point_answer s r =
    point_text (point_made s r).1 (point_made s r).0 ++ break_note s.walker r (point_made s r).0

-- ---- searches

-- at a halt, with what is printed: what the search found, and the place
abbrev pub IsHalted : Sight → Position × List ℕ → Sight → List ℕ → Type 0
IsHalted s h u text = (u ≡ record s { walker = record s.walker { here = h.0 } }) × (text ≡ h.1 ++ place_text u.walker)

abbrev pub IsGoneOn : Sight → Sight → List ℕ → Type 0
IsGoneOn s u text = (h : Position × List ℕ) × IsNextHalt s.walker s.points h × IsHalted s h u text

abbrev pub IsGoneBack : Sight → Sight → List ℕ → Type 0
IsGoneBack s u text = (h : Position × List ℕ) × IsLastHalt s.walker s.points h × IsHalted s h u text

-- there is something to halt at
abbrev pub has_points : Points → Bool
has_points s = not ((length s.breakpoints == 0) && (length s.watches == 0))

-- what is printed if there is nothing
abbrev pub no_points : List ℕ
no_points = codes "refused 73 BadRecord: no break, no watch\n"

-- a search for breakpoints and watched bytes, if there are any; else one stays
abbrev pub IsGoneBy : Bool → (Sight → Sight → List ℕ → Type 0) → Sight → Sight → List ℕ → Type 0
IsGoneBy true IsGone s u text = IsGone s u text
IsGoneBy false IsGone s u text = (u ≡ s) × (text ≡ no_points)

abbrev pub IsGoneIf : (Sight → Sight → List ℕ → Type 0) → Sight → Sight → List ℕ → Type 0
IsGoneIf IsGone s u text = IsGoneBy (has_points s.points) IsGone s u text

-- a search back for what happens, if each slot that it is about has a service; else one stays
abbrev pub IsGoneUntilBackBy : Bool → Sight → Happening → Sight → List ℕ → Type 0
IsGoneUntilBackBy true s h u text =
    (at : Position × List ℕ) × IsLastHappened s.walker h at × IsHalted s (at.0, type_note s.walker h ++ at.1) u text
IsGoneUntilBackBy false s h u text = (u ≡ s) × (text ≡ no_service)

abbrev pub IsGoneUntilBack : Sight → Happening → Sight → List ℕ → Type 0
IsGoneUntilBack s h u text = IsGoneUntilBackBy (has_slots s.walker h) s h u text
