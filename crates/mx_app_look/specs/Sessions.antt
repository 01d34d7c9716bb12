-- Sessions (our own).
use Rattle.std.specs.Prelude.{◌≡◌, ◌⊎◌, ◌^◌, ◌-◌, ℕ, Bool, true, false, List, [], ◌∷◌, ◌++◌, codes, length, Option, Some, None, if◌then◌else◌}
use Rattle.mx_app_look.specs.declared.request.Request.{Request}
use Rattle.mx_app_look.specs.Requests.{ends, request_of}
use Rattle.mx_app_look.specs.Verbs.{unknown_text}
use Rattle.mx_app_failure.specs.declared.failure.Failure.{Failure}
use Rattle.mx_app_step.specs.Asked.{Asked}
use Rattle.mx_app_step.specs.Config.{Config}
use Rattle.mx_app_step.specs.Course.{IsSaved, TellsSaved}
use Rattle.mx_app_step.specs.Failure.{IsUntyped, IsWanting}
use Rattle.mx_app_step.specs.Service.{Service}
use Rattle.mx_app_step.specs.Setup.{IsNotStarted, IsStart}
use Rattle.mx_machine.specs.Boot.{world_at_boot}
use Rattle.mx_machine.specs.declared.history.Record.{Record}
use Rattle.mx_machine.specs.World.{World}
use Rattle.mx_walk.specs.declared.positions.Position.{Position}
use Rattle.mx_walk.specs.declared.progress.Part.{Part}
use Rattle.mx_walk.specs.Parts.{HasGrown, walk_shown}
use Rattle.mx_walk.specs.Walks.{IsLast, Walk, world_here}
use Rattle.mx_walk.specs.Positions.{first}
use Rattle.mx_app_look.specs.declared.sight.Sight.{Sight}
use Rattle.mx_app_look.specs.Answers.{IsMade}
use Rattle.mx_app_look.specs.Places.{place_text, position_text}
use Rattle.mx_app_look.specs.Shows.{IsShown}

-- ---- one line

-- what a line that asks for this leaves in hand, and the answer: one that asks for nothing known changes nothing
abbrev pub IsAnsweredBy : Sight → List ℕ → Option Request → Sight → List ℕ → Type 0
IsAnsweredBy s line None u text = (u ≡ s) × (text ≡ unknown_text line)
IsAnsweredBy s line (Some r) u text = IsMade s r u text

abbrev pub IsAnswered : Sight → List ℕ → Sight → List ℕ → Type 0
IsAnswered s line u text = IsAnsweredBy s line (request_of (world_here s.walker).services line) u text

-- who asks prints the position before each line
abbrev pub prompt_text : Bool → Walk → List ℕ
prompt_text asks k = if asks then position_text k.here ++ codes "> " else []

-- ---- WHAT A SESSION TAKES of its input: lines, and at the end of the input None

abbrev pub is_nothing : List (Option (List ℕ)) → Bool
is_nothing [] = true
is_nothing (x ∷ xs) = false

-- it is over after a line that ends it, or at the end of the input; and takes nothing more
abbrev pub is_over : List (Option (List ℕ)) → Bool
is_over [] = false
is_over (None ∷ xs) = is_nothing xs
is_over (Some l ∷ xs) = if ends l then is_nothing xs else is_over xs

-- it is over, or it took as many lines as a number of 64 bits counts
abbrev pub IsWhole : List (Option (List ℕ)) → Type 0
IsWhole xs = (is_over xs ≡ true) ⊎ (length xs ≡ 2 ^ 64 - 1)

-- ---- THE SESSION: what it prints, and the progress that it shows

-- at the end of the input, so that what follows begins a line
abbrev pub end_text : Bool → List ℕ
end_text asks = if asks then codes "\n" else []

-- the answers, each followed by what asks for the next line; and the progress that is shown meanwhile
abbrev pub IsSession : Bool → Sight → List (Option (List ℕ)) → List ℕ → List Part → Type 0
IsSession asks s [] text ps = (text ≡ []) × (ps ≡ [])
IsSession asks s (None ∷ xs) text ps = (text ≡ end_text asks) × (ps ≡ [])
IsSession asks s (Some l ∷ xs) text ps =
    ((ends l ≡ true) × (text ≡ []) × (ps ≡ []))
    ⊎ ((ends l ≡ false) × ((u : Sight) × (answer : List ℕ) × (rest : List ℕ) × (now : List Part) × (later : List Part)
    × IsAnswered s l u answer × IsShown s l now × IsSession asks u xs rest later
    × (text ≡ (answer ++ prompt_text asks u.walker) ++ rest) × (ps ≡ now ++ later)))

-- with nothing to halt at
abbrev pub sight_at : Walk → Sight
sight_at k = record { walker = k; points = record { breakpoints = []; watches = [] } }

-- it begins with the first position of a history
abbrev pub begun_text : Bool → Walk → List ℕ
begun_text asks k = place_text k ++ prompt_text asks k

-- a walk at the first position of a history of these records, which begins at this world
pub record IsBegun (w : World) (xs : List Record) (k : Walk) : Type 0 where
  pub boot : k.boot ≡ w
  pub records : k.records ≡ xs
  pub here : k.here ≡ first
  pub last : IsLast w xs k.last

-- a session can't go on: no line can be typed, its answer can't be printed, or memory is out
abbrev pub IsCutOff : Failure → Type 0
IsCutOff f = IsUntyped f ⊎ IsWanting f

-- a session has failed for this, after this was shown: no machine was started, and nothing was; or one was, its first
-- walk was shown up to the last position, and then later ones, and it can't go on
abbrev pub HasFailed : List ℕ → List ℕ → List Asked → List Part → Failure → Type 0
HasFailed config log qs ps f =
    ((ps ≡ []) × IsNotStarted IsSaved TellsSaved config log qs f)
    ⊎ ((c : Config) × (vs : List Service) × (records : List Record) × (last : Position)
    × IsStart IsSaved config log qs c vs records
    × IsLast (world_at_boot c vs) records last × HasGrown (walk_shown records last) ps × IsCutOff f)
