-- What each request prints, and where one is after it (our own).
use Rattle.std.specs.Prelude.{◌≡◌, ℕ, ◌==◌, Bool, true, false, List, [], ◌∷◌, ◌++◌, codes, if◌then◌else◌}
use Rattle.mx_app_step.specs.Report.{report_text}
use Rattle.mx_app_look.specs.declared.request.Request.{Request}
use Rattle.mx_app_look.specs.declared.request.Request.TheVariants.{Nothing, Forward, Back, Step, StepBack, GoTo, Point, Continue, Reverse, Until, UntilBack, Where, Why, Processes, Messages, Show, Help}
use Rattle.mx_machine.specs.World.{World}
use Rattle.mx_print_answers.specs.Messages.{delivery_lines}
use Rattle.mx_walk.specs.declared.positions.Position.{Position}
use Rattle.mx_walk.specs.Walks.{Walk, world_here}
use Rattle.mx_app_look.specs.declared.sight.Sight.{Sight}
use Rattle.mx_app_look.specs.Before.{why_text}
use Rattle.mx_walk.specs.Moves.{back_from, can_go, forward_from, gone_to, position_asked, steps_back, steps_on}
use Rattle.mx_app_look.specs.Places.{place_text}
use Rattle.mx_app_look.specs.Seeking.{IsGoneBack, IsGoneIf, IsGoneOn, IsGoneUntilBack, point_answer, point_made}
use Rattle.mx_app_look.specs.Verbs.{help_text}
use Rattle.mx_app_look.specs.Showing.{query_text}
use Rattle.mx_app_look.specs.Until.{has_slots, no_service, type_note, until_halt}

-- ---- the report, whose last line ends

abbrev pub line_end : List ℕ → List ℕ
line_end [] = []
line_end (b ∷ []) = if b == 10 then [] else codes "\n"
line_end (b ∷ c ∷ bs) = line_end (c ∷ bs)

abbrev pub processes_text : World → List ℕ
processes_text w = report_text w.table w.services ++ line_end (report_text w.table w.services)

-- ---- REQUESTS

-- it goes along the history, or searches it
abbrev pub walks : Request → Bool
walks (Forward n) = true
walks (Back n) = true
walks (Step n) = true
walks (StepBack n) = true
walks (GoTo p) = true
walks Continue = true
walks Reverse = true
walks (Until h) = true
walks (UntilBack h) = true
walks r = false

-- where one is after it
abbrev pub to_of : Walk → Request → Position
to_of k (Forward n) = forward_from k n
to_of k (Back n) = back_from k n
to_of k (Step n) = steps_on n k k.here
to_of k (StepBack n) = steps_back n k k.here
to_of k (GoTo p) = gone_to k p
to_of k (Until h) = if has_slots k h then (until_halt k h).0 else k.here
to_of k _ = k.here

abbrev pub after : Walk → Request → Walk
after k r = record k { here = to_of k r }

-- what one that moves or shows prints; if it moves, the new place
abbrev pub request_text : Walk → Request → List ℕ
request_text k Nothing = []
request_text k (Forward n) = place_text (after k (Forward n))
request_text k (Back n) = place_text (after k (Back n))
request_text k (Step n) = place_text (after k (Step n))
request_text k (StepBack n) = place_text (after k (StepBack n))
request_text k (GoTo p) =
    if can_go k (position_asked k p) then place_text (after k (GoTo p))
    else codes "refused 63 NoPosition: K is at most the number of records, and J a step of the next one\n"
request_text k (Until h) =
    if has_slots k h then type_note k h ++ (until_halt k h).1 ++ place_text (after k (Until h)) else no_service
request_text k Where = place_text k
request_text k Why = why_text k
request_text k Processes = processes_text (world_here k)
request_text k Messages = delivery_lines (world_here k).table.deliveries
request_text k (Show s) = query_text k s
request_text k Help = help_text
request_text k _ = []

-- what each leaves in hand, and what it prints
abbrev pub IsMade : Sight → Request → Sight → List ℕ → Type 0
IsMade s (Point p) u text =
    (u ≡ record s { points = (point_made s p).1 }) × (text ≡ point_answer s p)
IsMade s Continue u text = IsGoneIf IsGoneOn s u text
IsMade s Reverse u text = IsGoneIf IsGoneBack s u text
IsMade s (UntilBack h) u text = IsGoneUntilBack s h u text
IsMade s r u text = (u ≡ record s { walker = after s.walker r }) × (text ≡ request_text s.walker r)
