-- What is done of the words of the command line, and what is answered (our own).
use Rattle.std.specs.Prelude.{◌≡◌, ◌⊎◌, ◌++◌, ◌||◌, ◌&&◌, not, ℕ, Bool, true, false, List, [], codes, Option, Some, None, Result, Ok, Err, MatchResult, String, option_map, string_bytes}
use Rattle.std.specs.declared.alloc.Global.{Global}
use Rattle.std.specs.declared.io.ErrorKind.{ErrorKind}
use Rattle.std.specs.declared.io.ErrorKind.TheVariants as kinds
use Rattle.clap.specs.Words.{kind_of, subcommand_of}
use Rattle.clap.specs.declared.error.Error.{Error}
use Rattle.clap.specs.declared.error.kind.ErrorKind.{ErrorKind as WordsErrorKind}
use Rattle.clap.specs.declared.error.kind.ErrorKind.TheVariants as words
use Rattle.mx_app_command.specs.declared.command_line.CommandLine.{CommandLine}
use Rattle.mx_app_explain.specs.Explaining.{explained}
use Rattle.mx_app_command.specs.Mistakes.{IsMistake, mistake_given}
use Rattle.mx_app_command.specs.declared.command_line.Mistake.{Mistake}
use Rattle.mx_app_command.specs.declared.command_line.Mistake.TheVariants as mistakes
use Rattle.mx_app_command.specs.Words.{Asks, AsksForForce, AsksForSilence, AsksForSums, AsksToExplain, mx_grammar}
use Rattle.mx_app_failure.specs.declared.failure.Failure.{Failure as Kind}
use Rattle.mx_app_failure.specs.declared.failure.Failure.TheVariants.{NotText, NoMemory}
use Rattle.mx_app_failure.specs.Failure.{IsWanting}
use Rattle.mx_app.specs.Deeds.{Deeds, IsAlone}
use Rattle.mx_app.specs.Requests.{with_status}
use Rattle.mx_app.specs.Summing.{PerformsLine, line_failure_line, line_failure_status}
use Rattle.mx_app.specs.declared.summing.LineFailure.{LineFailure}
use Rattle.mx_app.specs.declared.summing.LineFailure.TheVariants.{Request, Sums}
use Rattle.mx_app_explain.specs.SumsFaults.{fault_explained}
use Rattle.mx_walk.specs.declared.progress.Part.{Part}
use Rattle.mx_app.specs.declared.performing.Done.{Done}
use Rattle.mx_app.specs.declared.complaint.Complaint.{Complaint}
use Rattle.mx_app.specs.declared.complaint.Complaint.TheVariants.{Mistaken, TicksAndEvents, LiveWithCourse, NotLive, NoFault, NoPart, Failed, Explained, Unexplained}

-- why they can't be had
abbrev pub words_failure_of : ErrorKind → Kind
words_failure_of kinds.OutOfMemory = NoMemory
words_failure_of k = NotText

-- a mistake in the words is 2
abbrev pub complaint_status : Complaint → ℕ
complaint_status (Mistaken e) = 2
complaint_status TicksAndEvents = 2
complaint_status LiveWithCourse = 2
complaint_status NotLive = 2
complaint_status NoFault = 2
complaint_status NoPart = 2
complaint_status (Failed f) = line_failure_status f
complaint_status (Explained f s) = line_failure_status f
complaint_status (Unexplained f) = line_failure_status f

-- what standard error gets of `turns` with both `--ticks` and `--events`, in the form that clap's own texts have
abbrev pub both_text : List ℕ
both_text =
    codes "error: the argument '--ticks <T>' cannot be used with '--events <EVENTS>'\n\n"
    ++ codes "Usage: mx turns [OPTIONS] <CONFIG> <LOG>\n\nFor more information, try '--help'.\n"

-- the same of `turns --live` with a course of its own
abbrev pub course_text : List ℕ
course_text =
    codes "error: the argument '--live' cannot be used with '--ticks <T>', '--events <EVENTS>' or '--turns <N>'\n\n"
    ++ codes "Usage: mx turns [OPTIONS] <CONFIG> <LOG>\n\nFor more information, try '--help'.\n"

-- and of an option of `--live` without it
abbrev pub not_live_text : List ℕ
not_live_text =
    codes "error: the arguments '--hertz <H>' and '--raw' need '--live'\n\n"
    ++ codes "Usage: mx turns [OPTIONS] <CONFIG> <LOG>\n\nFor more information, try '--help'.\n"

-- and of an option of `--fault` without it, at `page`
abbrev pub no_fault_text : List ℕ
no_fault_text =
    codes "error: the arguments '--turns <N>' and '--jobs <J>' need '--fault <FAULT>'\n\n"
    ++ codes "Usage: mx page [OPTIONS] <CONFIG> <LOG>\n\nFor more information, try '--help'.\n"

-- and of a word that names no part, at `explore`
abbrev pub no_part_text : List ℕ
no_part_text =
    codes "error: invalid value for '--part <I/N>': wanted two numbers, the first below the second\n\n"
    ++ codes "Usage: mx explore [OPTIONS] --departures <K> <CONFIG>\n\nFor more information, try '--help'.\n"

-- what standard error gets: of a mistake what clap says, which isn't pinned here; of a failure its line, and the line
-- that explains it, or that there is no memory for this line
abbrev pub complaint_text : Complaint → Option (List ℕ)
complaint_text (Mistaken e) = None
complaint_text TicksAndEvents = Some both_text
complaint_text LiveWithCourse = Some course_text
complaint_text NotLive = Some not_live_text
complaint_text NoFault = Some no_fault_text
complaint_text NoPart = Some no_part_text
complaint_text (Failed f) = Some (line_failure_line f ++ codes "\n")
complaint_text (Explained f s) = Some (line_failure_line f ++ codes "\n" ++ string_bytes s ++ codes "\n")
complaint_text (Unexplained f) = Some (line_failure_line f ++ codes "\nmx: memory: wanted more of it\n")

-- ---- words that ask for nothing

-- help was printed, or memory or output is wanting
abbrev pub IsHelp : Result Done Complaint → Type 0
IsHelp r =
    MatchResult r (λ done. done ≡ with_status 0)
    (λ complaint. (f : Kind) × IsWanting f × (complaint ≡ Failed (Request f)))

-- what comes of an error, by its kind: help that was asked for is printed, and nothing of a lack of memory or a mistake
abbrev pub ExplainsKind : WordsErrorKind → Error → (List ℕ → Type 0) → Result Done Complaint → Type 0
ExplainsKind words.OutOfMemory e Prints r = Prints [] × (r ≡ Err (Failed (Request NoMemory)))
ExplainsKind words.DisplayHelp e Prints r = IsHelp r
ExplainsKind words.DisplayVersion e Prints r = IsHelp r
ExplainsKind k e Prints r = Prints [] × (r ≡ Err (Mistaken e))

abbrev pub Explains : Error → (List ℕ → Type 0) → Result Done Complaint → Type 0
Explains e Prints r = ExplainsKind (kind_of e) e Prints r

-- what comes of a mistake: what its error says; or the complaint that says which words exclude each other, and nothing
-- is printed
abbrev pub AnswersMistake : Mistake → (List ℕ → Type 0) → Result Done Complaint → Type 0
AnswersMistake (mistakes.Grammar e) Prints r = Explains e Prints r
AnswersMistake mistakes.TicksAndEvents Prints r = Prints [] × (r ≡ Err TicksAndEvents)
AnswersMistake mistakes.LiveWithCourse Prints r = Prints [] × (r ≡ Err LiveWithCourse)
AnswersMistake mistakes.NotLive Prints r = Prints [] × (r ≡ Err NotLive)
AnswersMistake mistakes.NoFault Prints r = Prints [] × (r ≡ Err NoFault)
AnswersMistake mistakes.NoPart Prints r = Prints [] × (r ≡ Err NoPart)

-- ---- all words

-- a failure is explained if the words ask for it, or if standard error is a terminal; not if they ask for no
-- explanation
abbrev pub explains : CommandLine → Bool → Bool
explains line shows = (line.explains || shows) && not line.silent

-- there is a name if the file of sums is at fault
abbrev pub word_or_nothing : Option (List ℕ) → List ℕ
word_or_nothing None = []
word_or_nothing (Some name) = name

-- what explains it: a request's failure by the request, and a fault of the file of sums by its name
abbrev pub explained_line : CommandLine → LineFailure → List ℕ
explained_line line (Request f) = explained line.request f
explained_line line (Sums f) = fault_explained (word_or_nothing (option_map (λ s. s.now) line.sums)) f

-- a failure without more; or, if it is to be explained, with the line that explains it, unless there was no memory for
-- this line
abbrev pub IsComplaintOf : CommandLine → Bool → LineFailure → Complaint → Type 0
IsComplaintOf line shows f c =
    ((explains line shows ≡ false) × (c ≡ Failed f))
    ⊎ ((explains line shows ≡ true) × (c ≡ Unexplained f))
    ⊎ ((s : String Global) × (explains line shows ≡ true) × (c ≡ Explained f s)
    × (string_bytes s ≡ explained_line line f))

-- what comes of a request that is done, or of its failure
abbrev pub IsAnswered : CommandLine → Bool → Result Done LineFailure → Result Done Complaint → Type 0
IsAnswered line shows (Ok done) r = r ≡ Ok done
IsAnswered line shows (Err f) r = (c : Complaint) × (r ≡ Err c) × IsComplaintOf line shows f c

-- WHAT IS DONE OF WORDS: what the request does that they ask for; or, if something is wrong with them, nothing is asked
-- for, written, typed, heard, told or shown, and the mistake is answered
abbrev pub IsPerformed : (Part → Type 0) → List (List ℕ) → Bool → Bool → Deeds → (List ℕ → Type 0)
    → Result Done Complaint → Type 0
IsPerformed WasShown texts asks shows did Prints r =
    ((line : CommandLine) × (d : Result Done LineFailure) × Asks line.request (subcommand_of mx_grammar texts)
    × AsksToExplain line.explains (subcommand_of mx_grammar texts)
    × AsksForSilence line.silent (subcommand_of mx_grammar texts)
    × AsksForSums (option_map (λ s. s.now) line.sums) (subcommand_of mx_grammar texts)
    × AsksForForce line.force (subcommand_of mx_grammar texts)
    × (mistake_given (subcommand_of mx_grammar texts) ≡ None)
    × PerformsLine WasShown line asks did Prints d × IsAnswered line shows d r)
    ⊎ ((m : Mistake) × IsMistake texts m × (did.asked ≡ []) × (did.written ≡ []) × (did.typed ≡ []) × IsAlone did
    × (did.shown ≡ []) × AnswersMistake m Prints r)
