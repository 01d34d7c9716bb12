-- What a line looks like that stands in the wrong file, and what takes it (our own).
use Rattle.std.specs.Prelude.{ℕ, ◌==◌, ◌||◌, ◌&&◌, ◌-◌, Bool, true, false, if◌then◌else◌, List, [], ◌∷◌, codes, length, is_some, slice_index, Option, Some, None}
use Rattle.std.specs.List.{list_any}
use Rattle.std.specs.Str.{bytes_eq}
use Rattle.mx_boot.specs.EventKinds.{event_kind_of}
use Rattle.mx_boot.specs.Items.{said_in}
use Rattle.mx_boot.specs.Script.{actor_field}
use Rattle.mx_app_explain.specs.Hints.{words_told}
use Rattle.mx_app_explain.specs.declared.line_looks.LineLooks.{LineLooks}
use Rattle.mx_app_explain.specs.declared.line_looks.LineLooks.TheVariants.{Config, Script, History, Debugger, Session, Rules, Printed, Source, Unknown}

abbrev pub is_config_word : List ℕ → Bool
is_config_word w =
    bytes_eq w (codes "cpus") || (bytes_eq w (codes "log") || (bytes_eq w (codes "others")
    || bytes_eq w (codes "service")))

abbrev pub is_debug_word : List ℕ → Bool
is_debug_word w =
    bytes_eq w (codes "break") || (bytes_eq w (codes "clear") || (bytes_eq w (codes "go")
    || (bytes_eq w (codes "regs") || (bytes_eq w (codes "mem") || bytes_eq w (codes "messages")))))

-- of `mx look` alone
abbrev pub is_session_word : List ℕ → Bool
is_session_word w =
    list_any (bytes_eq w) (codes "ps" ∷ codes "print" ∷ codes "list" ∷ codes "goto" ∷ codes "until" ∷ codes "watch"
    ∷ codes "stack" ∷ codes "points" ∷ [])

-- of what `mx step` prints
abbrev pub is_printed_word : List ℕ → Bool
is_printed_word w =
    list_any (bytes_eq w) (codes "taken" ∷ codes "stepped" ∷ codes "returned" ∷ codes "respawned" ∷ codes "refused"
    ∷ codes "done" ∷ [])

abbrev pub is_event_word : List ℕ → Bool
is_event_word w = is_some (event_kind_of w)

-- a directive, or a label's colon at the end
abbrev pub begins_statement : List ℕ → Bool
begins_statement w = (slice_index w 0 == 46) || (slice_index w (length w - 1) == 58)

-- an actor, and an event
abbrev pub is_record : List ℕ → List (List ℕ) → Bool
is_record w [] = false
is_record w (second ∷ ws) = is_some (actor_field w) && is_event_word second

abbrev pub looks_of_first : List ℕ → List (List ℕ) → LineLooks
looks_of_first w ws =
    if is_config_word w then Config else
    if bytes_eq w (codes "rules") then Rules else
    if is_event_word w then Script else
    if is_record w ws then History else
    if is_debug_word w then Debugger else
    if is_session_word w then Session else
    if is_printed_word w then Printed else
    if begins_statement w then Source else
    Unknown

abbrev pub looks_of_words : List (List ℕ) → LineLooks
looks_of_words [] = Unknown
looks_of_words (w ∷ ws) = looks_of_first w ws

-- WHAT A LINE LOOKS LIKE, up to a comment
abbrev pub looks_of_line : List ℕ → LineLooks
looks_of_line line = looks_of_words (said_in line)

abbrev pub is_debugger : LineLooks → Bool
is_debugger Debugger = true
is_debugger _ = false

abbrev pub is_debug_line : List ℕ → Bool
is_debug_line line = is_debugger (looks_of_line line)

abbrev pub taken_by : LineLooks → Option (List ℕ)
taken_by Config = Some (codes "this is a line of a configuration")
taken_by Script = Some (codes "this is a line of a script, which mx step takes")
taken_by History = Some (codes "this is a line of a history, which mx replay takes")
taken_by Debugger = Some (codes "this is a line of mx db")
taken_by Session = Some (codes "this is a line of mx look")
taken_by Rules = Some (codes "a history begins so, which mx replay takes, and a configuration may have it")
taken_by Printed = Some (codes "mx step prints this: --save LOG keeps its history")
taken_by Source = Some (codes "this is a line of a text for mx as")
taken_by Unknown = None

abbrev pub is_same : LineLooks → LineLooks → Bool
is_same Config Config = true
is_same Script Script = true
is_same History History = true
is_same Debugger Debugger = true
is_same Session Session = true
is_same Rules Rules = true
is_same Printed Printed = true
is_same Source Source = true
is_same Unknown Unknown = true
is_same _ _ = false

-- a configuration and a history may have the line with the rules, and a debugger's script has events too
abbrev pub looks_too : LineLooks → LineLooks → Bool
looks_too looks Config = is_same looks Rules
looks_too looks History = is_same looks Rules
looks_too looks Debugger = is_same looks Script
looks_too looks own = false

abbrev pub is_own : LineLooks → LineLooks → Bool
is_own looks own = is_same looks own || looks_too looks own

abbrev pub words_if : Option (List ℕ) → List ℕ
words_if None = []
words_if (Some words) = words_told words

-- what is added if it isn't of the file that it stands in
abbrev pub hint_at : List ℕ → LineLooks → List ℕ
hint_at line own = if is_own (looks_of_line line) own then [] else words_if (taken_by (looks_of_line line))
