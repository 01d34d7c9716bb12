-- HOW A HISTORY ENDED, in a line; and the lines of its deaths (our own).
use Rattle.std.specs.Prelude.{ℕ, ◌-◌, ◌==◌, ◌&&◌, ◌||◌, nat_le, nat_lt, if◌then◌else◌, Bool, true, false, List, [], ◌++◌, codes, length, take, Option, Some, None, slice_get}
use Rattle.std.specs.Fmt.{decimal}
use Rattle.std.specs.List.{flat_map, range_with_len, list_any}
use Rattle.mx_print_report.specs.declared.doing.Doing.{Doing}
use Rattle.mx_print_report.specs.declared.doing.Doing.TheVariants.{Out, Doomed}
use Rattle.mx_look.specs.Doings.{is_down, is_ready}
use Rattle.mx_why.specs.declared.deaths.Death.{Death}
use Rattle.mx_why.specs.declared.ends.Ending.{Ending}
use Rattle.mx_why.specs.declared.ends.Ending.TheVariants.{Nothing, Rest, Full, Open}
use Rattle.mx_why.specs.declared.ends.Unfinished.{Unfinished}
use Rattle.mx_why.specs.declared.ends.Unfinished.TheVariants.{Running, ToRespawn}
use Rattle.mx_why.specs.declared.notes.Note.{Note}
use Rattle.mx_why.specs.declared.seats.Seat.{Seat}
use Rattle.mx_why.specs.declared.seats.End.{End}
use Rattle.mx_why.specs.Lines.{left_out_text}
use Rattle.mx_why.specs.Reasons.{slot_text}
use Rattle.mx_why.specs.Seats.{doing_in, seat_in}

-- ---- who could have gone on

-- on a processor
abbrev pub is_held : Doing → Bool
is_held Out = true
is_held Doomed = true
is_held _ = false

-- it is ready or on a processor, or it is down and may be respawned
abbrev pub is_unfinished : Unfinished → Seat → Bool
is_unfinished Running g = is_ready g.doing || is_held g.doing
is_unfinished ToRespawn g = is_down g.doing && nat_lt 0 g.restarts

abbrev pub unfinished_by : Unfinished → Option Seat → Bool
unfinished_by u None = false
unfinished_by u (Some g) = is_unfinished u g

abbrev pub is_listed : End → Unfinished → ℕ → Bool
is_listed e u s = unfinished_by u (seat_in e s)

abbrev pub word_of : Unfinished → List ℕ
word_of Running = codes "; ready: "
word_of ToRespawn = codes "; down with restarts left: "

-- before the first name the words, before others a comma
unfoldable pub before_text : Unfinished → Bool → List ℕ
before_text u later = if later then codes ", " else word_of u

unfoldable pub listed_at : End → Unfinished → ℕ → List ℕ
listed_at e u s =
    if is_listed e u s then
    before_text u (list_any (is_listed e u) (range_with_len 0 s)) ++ slot_text e s
    else []

unfoldable pub listed_text : End → Unfinished → List ℕ
listed_text e u = flat_map (listed_at e u) (range_with_len 0 32)

-- ---- the ending

abbrev pub does : (Doing → Bool) → Option Doing → Bool
does f None = false
does f (Some d) = f d

unfoldable pub has_held : End → Bool
has_held e = list_any (λ s. does is_held (doing_in e s)) (range_with_len 0 32)

unfoldable pub has_ready : End → Bool
has_ready e = list_any (λ s. does is_ready (doing_in e s)) (range_with_len 0 32)

-- a take wants two records, a respawn one
abbrev pub wanted_records : End → ℕ
wanted_records e = if has_ready e then 2 else 1

-- HOW A HISTORY of n records ENDED, which could have had `log`: a record is kept for who is on a processor to come back
unfoldable pub ending : End → ℕ → ℕ → Ending
ending e n log =
    if n == 0 then Nothing else
    if e.at_rest then Rest else
    if has_held e || nat_le (wanted_records e) (log - n) then Open else
    Full

unfoldable pub after_text : List ℕ → ℕ → List ℕ
after_text word n = word ++ codes " after " ++ decimal n ++ codes " records"

-- there is no room for a tick, a line or a kill
unfoldable pub no_room_text : ℕ → ℕ → List ℕ
no_room_text n log = if nat_lt n log then [] else codes ", and full: CONFIG has log " ++ decimal log

unfoldable pub rest_text : ℕ → ℕ → List ℕ
rest_text n log = after_text (codes "rest") n ++ no_room_text n log

unfoldable pub unfinished_text : End → List ℕ
unfinished_text e = listed_text e Running ++ listed_text e ToRespawn

unfoldable pub full_text : End → ℕ → ℕ → List ℕ
full_text e n log =
    after_text (codes "full") n ++ codes ", since CONFIG has log " ++ decimal log ++ unfinished_text e

unfoldable pub open_text : End → ℕ → List ℕ
open_text e n = after_text (codes "open") n ++ unfinished_text e

unfoldable pub ending_by : End → ℕ → ℕ → Ending → List ℕ
ending_by e n log Nothing = codes "no record: LOG is the history of a machine that has done nothing"
ending_by e n log Rest = rest_text n log
ending_by e n log Full = full_text e n log
ending_by e n log Open = open_text e n

unfoldable pub ending_text : End → ℕ → ℕ → List ℕ
ending_text e n log = codes "ends: " ++ ending_by e n log (ending e n log) ++ codes "\n"

-- ---- deaths

abbrev pub restarts_in : Option Seat → ℕ
restarts_in None = 0
restarts_in (Some g) = g.restarts

unfoldable pub respawned_text : ℕ → ℕ → List ℕ
respawned_text left k =
    codes "; respawned at record " ++ decimal k ++ codes ", " ++ decimal left ++ codes " restarts left"

abbrev pub then_by : ℕ → Option ℕ → List ℕ
then_by left (Some k) = respawned_text left k
then_by left None = if nat_lt 0 left then codes "; not respawned yet" else codes "; no restart left"

-- what came after deaths of a slot
unfoldable pub then_text : End → ℕ → Death → List ℕ
then_text e s d = then_by (restarts_in (seat_in e s)) d.respawn

unfoldable pub several_text : ℕ → List ℕ
several_text n = codes ", " ++ decimal n ++ codes " times, first"

unfoldable pub times_text : ℕ → List ℕ
times_text n = if nat_le n 1 then codes "," else several_text n

unfoldable pub death_line : End → Note → Death → List ℕ
death_line e n d =
    codes "died: " ++ slot_text e n.slot ++ times_text d.times ++ codes " at record " ++ decimal n.number
    ++ codes ", " ++ n.text ++ then_text e n.slot d ++ codes "\n"

abbrev pub death_by : End → Death → Option Note → List ℕ
death_by e d None = []
death_by e d (Some n) = death_line e n d

unfoldable pub death_text : End → List Note → Death → List ℕ
death_text e ns d = death_by e d (slice_get ns d.note)

unfoldable pub deaths_text : End → List Note → List Death → List ℕ
deaths_text e ns ds = flat_map (death_text e ns) (take 8 ds) ++ left_out_text (codes "died: ") (length ds)
