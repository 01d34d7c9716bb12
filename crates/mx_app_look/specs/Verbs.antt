-- The words that say what a typed line asks for (our own).
use Rattle.std.specs.Prelude.{ℕ, ◌==◌, ◌&&◌, Bool, List, [], ◌∷◌, ◌++◌, Option, Some, None, codes, count_by, filter, find, if◌then◌else◌, drop, length, nat_eq, nat_le, nat_lt, replicate}
use Rattle.std.specs.List.{flat_map, list_any, starts_with}
use Rattle.std.specs.Str.{bytes_eq, is_utf8}
use Rattle.mx_text.specs.Fields.{fields}
use Rattle.mx_app_look.specs.declared.verb.Verb.{Verb}
use Rattle.mx_app_look.specs.declared.verb.Verb.TheVariants.{Forward, Back, Step, StepBack, GoTo, Break, Watch, Points, Clear, Continue, Reverse, Until, Where, Why, Processes, Messages, Registers, Memory, Listing, Stack, Print, Help, Quit, Exit}

abbrev pub verb_word : Verb → List ℕ
verb_word Forward = codes "forward"
verb_word Back = codes "back"
verb_word Step = codes "step"
verb_word StepBack = codes "stepback"
verb_word GoTo = codes "goto"
verb_word Break = codes "break"
verb_word Watch = codes "watch"
verb_word Points = codes "points"
verb_word Clear = codes "clear"
verb_word Continue = codes "continue"
verb_word Reverse = codes "reverse"
verb_word Until = codes "until"
verb_word Where = codes "where"
verb_word Why = codes "why"
verb_word Processes = codes "ps"
verb_word Messages = codes "messages"
verb_word Registers = codes "regs"
verb_word Memory = codes "mem"
verb_word Listing = codes "list"
verb_word Stack = codes "stack"
verb_word Print = codes "print"
verb_word Help = codes "help"
verb_word Quit = codes "quit"
verb_word Exit = codes "exit"

-- how a line about it is written
abbrev pub form : Verb → List ℕ
form Forward = codes "forward [N]"
form Back = codes "back [N]"
form Step = codes "step [N]"
form StepBack = codes "stepback [N]"
form GoTo = codes "goto K, goto K.J, goto end"
form Break = codes "break SLOT ADDRESS"
form Watch = codes "watch SLOT ADDRESS N"
form Points = codes "points"
form Clear = codes "clear"
form Continue = codes "continue"
form Reverse = codes "reverse"
form Until = codes "until [back] death SLOT, message FROM TO, error [SLOT] or SLOT TYPE"
form Where = codes "where"
form Why = codes "why"
form Processes = codes "ps"
form Messages = codes "messages"
form Registers = codes "regs [SLOT]"
form Memory = codes "mem SLOT ADDRESS N"
form Listing = codes "list [SLOT [ADDRESS]]"
form Stack = codes "stack [SLOT [N]]"
form Print = codes "print SLOT NAME"
form Help = codes "help"
form Quit = codes "quit"
form Exit = codes "exit"

-- what it does
abbrev pub meaning : Verb → List ℕ
meaning Forward = codes "on by N records, or one"
meaning Back = codes "back by N records, or one"
meaning Step = codes "on by N events, or one: a step, or what a record does besides"
meaning StepBack = codes "back by N events, or one"
meaning GoTo = codes "after K records; and J steps of the next; the last position"
meaning Break = codes "a breakpoint of the slot's process"
meaning Watch = codes "watches N bytes of its memory, 1 to 16"
meaning Points = codes "what is set"
meaning Clear = codes "takes all breakpoints and watches away"
meaning Continue = codes "on to the next breakpoint or change of watched bytes"
meaning Reverse = codes "back to the last breakpoint or change of watched bytes"
meaning Until =
    codes "on, or back, to a death, a message, a trap or a call that ends with an\n"
    ++ codes "                            error, or a kernel call of this type, as TIMES or 0x601"
meaning Where = codes "the position again"
meaning Why = codes "what the record before did; the command mx why says who waits for ever"
meaning Processes = codes "the report"
meaning Messages = codes "what was delivered"
meaning Registers = codes "registers of the slot's process"
meaning Memory = codes "N bytes of its memory"
meaning Listing = codes "its code, from the address or from EIP on"
meaning Stack = codes "N dwords of its stack, or eight"
meaning Print = codes "its variable of that name"
meaning Help = codes "this"
meaning Quit = codes "the end"
meaning Exit = codes "the end"

-- all, in the order in which help has them
abbrev pub verbs : List Verb
verbs =
    Forward ∷ Back ∷ Step ∷ StepBack ∷ GoTo ∷ Break ∷ Watch ∷ Points ∷ Clear
    ∷ Continue ∷ Reverse ∷ Until ∷ Where ∷ Why ∷ Processes ∷ Messages ∷ Registers
    ∷ Memory ∷ Listing ∷ Stack ∷ Print ∷ Help ∷ Quit ∷ Exit ∷ []

-- a word is a front of the verb's
abbrev pub begins_verb : List ℕ → Verb → Bool
begins_verb word v = starts_with nat_eq (verb_word v) word

-- the verb whose word it is; else the only one of whose word it is a front
abbrev pub verb_by : Option Verb → List ℕ → Option Verb
verb_by (Some v) word = Some v
verb_by None word = if count_by (begins_verb word) verbs == 1 then find (begins_verb word) verbs else None

-- THE VERB that a word is, or that it abbreviates
unfoldable pub verb_of : List ℕ → Option Verb
verb_of word = verb_by (find (λ v. bytes_eq word (verb_word v)) verbs) word

-- ---- what is printed if a line asks for nothing known

-- words, the first after this, the others after commas
abbrev pub names_after : List ℕ → List Verb → List ℕ
names_after between [] = []
names_after between (v ∷ vs) = between ++ verb_word v ++ names_after (codes ", ") vs

-- the verbs of whose words the word is a front; or that there is none
abbrev pub unnamed_text : List ℕ → List ℕ
unnamed_text word =
    if list_any (begins_verb word) verbs then names_after (codes ": ") (filter (begins_verb word) verbs)
    else codes ": no command " ++ word ++ codes "; help"

abbrev pub form_by : Option Verb → List ℕ → List ℕ
form_by (Some v) word = codes ": " ++ form v
form_by None word = unnamed_text word

-- how a line with this first word is written
abbrev pub form_text : List ℕ → List ℕ
form_text word = form_by (verb_of word) word

abbrev pub first_form : List (List ℕ) → List ℕ
first_form [] = []
first_form (f ∷ fs) = form_text f

-- text of 4,096 bytes at most
abbrev pub is_text : List ℕ → Bool
is_text line = nat_le (length line) 4096 && is_utf8 line

-- what the line should be
abbrev pub wanted_text : List ℕ → List ℕ
wanted_text line =
    if is_text line then first_form (fields line) else codes ": a line is text of at most 4096 bytes"

unfoldable pub unknown_text : List ℕ → List ℕ
unknown_text line = codes "refused 73 BadRecord" ++ wanted_text line ++ codes "\n"

-- ---- HELP: a line for each verb, the meanings from one column on, and then some notes

abbrev pub column : List ℕ
column = replicate 28 32

abbrev pub gap_after : List ℕ → List ℕ
gap_after said = if nat_lt (length said) 28 then drop (length said) column else codes "\n" ++ column

abbrev pub help_line : Verb → List ℕ
help_line v = form v ++ gap_after (form v) ++ meaning v ++ codes "\n"

unfoldable pub help_text : List ℕ
help_text =
    flat_map help_line verbs
    ++ codes "A record is one event; back N is N steps of a process, and then its return.\n"
    ++ codes "A command may be shortened, as f or stepb. SLOT is a number, or the name of its\n"
    ++ codes "service; without it, it is the process on the processor whose record is next.\n"
    ++ codes "ADDRESS is a number, decimal or 0x.., or a symbol of the slot's program, as count\n"
    ++ codes "or top+4.\n"
