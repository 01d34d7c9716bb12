-- What typed lines ask for (our own).
use Rattle.std.specs.Prelude.{ℕ, ◌+◌, ◌==◌, Bool, true, false, List, [], ◌∷◌, take, drop, position, Option, Some, None, codes, if◌then◌else◌}
use Rattle.std.specs.Str.{bytes_eq}
use Rattle.mx_text.specs.Fields.{fields, only, ◌>>=◌}
use Rattle.mx_boot.specs.Script.{count_field, only_count}
use Rattle.mx_app_look.specs.declared.point_request.PointRequest.TheVariants as point
use Rattle.mx_walk.specs.declared.destinations.PositionWord.{PositionWord}
use Rattle.mx_walk.specs.declared.destinations.PositionWord.TheVariants.{After, End}
use Rattle.mx_app_look.specs.declared.request.Request.{Request}
use Rattle.mx_app_look.specs.declared.request.Request.TheVariants as request
use Rattle.mx_app_look.specs.declared.verb.Verb.{Verb}
use Rattle.mx_app_look.specs.declared.verb.Verb.TheVariants as verb
use Rattle.mx_app_look.specs.PointRequests.{break_asked, watch_asked}
use Rattle.mx_app_look.specs.declared.query.Query.{Query}
use Rattle.mx_app_look.specs.Queries.{code_of_fields, memory_of_fields, registers_of_fields, stack_of_fields, variable_of_fields}
use Rattle.mx_app_look.specs.UntilRequests.{until_asked}
use Rattle.mx_app_look.specs.declared.until_request.UntilAsked.{UntilAsked}
use Rattle.mx_machine.specs.Service.{Service}
use Rattle.mx_app_look.specs.Verbs.{is_text, verb_of}

-- ---- positions

abbrev pub is_dot : ℕ → Bool
is_dot b = b == 46

-- K, or K and after the dot J
abbrev pub position_by_dot : Option ℕ → List ℕ → Option PositionWord
position_by_dot None word = do
  k ← count_field word
  Some (After k 0)
position_by_dot (Some i) word = do
  k ← count_field (take i word)
  j ← count_field (drop (i + 1) word)
  Some (After k j)

unfoldable pub position_of_word : List ℕ → Option PositionWord
position_of_word word = if bytes_eq word (codes "end") then Some End else position_by_dot (position is_dot word) word

-- ---- lines

abbrev pub count_or_one : List (List ℕ) → Option ℕ
count_or_one [] = Some 1
count_or_one (f ∷ fs) = only_count (f ∷ fs)

abbrev pub without_fields : List (List ℕ) → Request → Option Request
without_fields [] r = Some r
without_fields (f ∷ fs) r = None

-- what is asked for of a slot's process, if the fields say that
abbrev pub show : Option Query → Option Request
show shown = do
  s ← shown
  Some (request.Show s)

-- a search for what happens, on or back
abbrev pub until_of : UntilAsked → Request
until_of a = if a.is_back then request.UntilBack a.happening else request.Until a.happening

-- what a line asks for that begins with a verb and goes on with these fields; what ends a session asks for nothing else
abbrev pub request_by : List Service → Verb → List (List ℕ) → Option Request
request_by services verb.Forward fs = do
  n ← count_or_one fs
  Some (request.Forward n)
request_by services verb.Back fs = do
  n ← count_or_one fs
  Some (request.Back n)
request_by services verb.Step fs = do
  n ← count_or_one fs
  Some (request.Step n)
request_by services verb.StepBack fs = do
  n ← count_or_one fs
  Some (request.StepBack n)
request_by services verb.GoTo fs = do
  f ← only fs
  p ← position_of_word f
  Some (request.GoTo p)
request_by services verb.Break fs = do
  p ← break_asked services fs
  Some (request.Point p)
request_by services verb.Watch fs = do
  p ← watch_asked services fs
  Some (request.Point p)
request_by services verb.Points fs = without_fields fs (request.Point point.Show)
request_by services verb.Clear fs = without_fields fs (request.Point point.Clear)
request_by services verb.Continue fs = without_fields fs request.Continue
request_by services verb.Reverse fs = without_fields fs request.Reverse
request_by services verb.Until fs = do
  a ← until_asked services fs
  Some (until_of a)
request_by services verb.Where fs = without_fields fs request.Where
request_by services verb.Why fs = without_fields fs request.Why
request_by services verb.Processes fs = without_fields fs request.Processes
request_by services verb.Messages fs = without_fields fs request.Messages
request_by services verb.Registers fs = show (registers_of_fields services fs)
request_by services verb.Memory fs = show (memory_of_fields services fs)
request_by services verb.Listing fs = show (code_of_fields services fs)
request_by services verb.Stack fs = show (stack_of_fields services fs)
request_by services verb.Print fs = show (variable_of_fields services fs)
request_by services verb.Help fs = without_fields fs request.Help
request_by services verb.Quit fs = None
request_by services verb.Exit fs = None

abbrev pub request_of_fields : List Service → List (List ℕ) → Option Request
request_of_fields services [] = Some request.Nothing
request_of_fields services (f ∷ fs) = do
  v ← verb_of f
  request_by services v fs

-- WHAT A LINE ASKS FOR, text of 4,096 bytes at most, of a machine with these services
unfoldable pub request_of : List Service → List ℕ → Option Request
request_of services line = if is_text line then request_of_fields services (fields line) else None

-- ---- the end

abbrev pub is_quit : Option Verb → Bool
is_quit (Some verb.Quit) = true
is_quit (Some verb.Exit) = true
is_quit _ = false

abbrev pub ends_by : Option (List ℕ) → Bool
ends_by None = false
ends_by (Some word) = is_quit (verb_of word)

-- A LINE ENDS THE SESSION: it is `quit` or `exit`, or a front of one, and has nothing after it
unfoldable pub ends : List ℕ → Bool
ends line = if is_text line then ends_by (only (fields line)) else false
