-- What a reader at a terminal gets in addition to a command's text (our own).
use Rattle.std.specs.Prelude.{◌==◌, ◌&&◌, ◌||◌, ◌-◌, ℕ, Bool, true, false, not, if◌then◌else◌, List, [], ◌++◌, codes, Option, Some, None, slice_get}
use Rattle.mx_app.specs.declared.ending.Terminals.{Terminals}
use Rattle.mx_app.specs.declared.ending.PrintedText.{PrintedText}
use Rattle.mx_app.specs.declared.ending.PrintedText.TheVariants.{Symbols, Report, Other}
use Rattle.mx_app.specs.declared.ending.DrivenEnding.{DrivenEnding}
use Rattle.mx_app.specs.declared.ending.DrivenEnding.TheVariants.{Interrupted, Turns, Run}
use Rattle.mx_app.specs.declared.ending.Note.{Note}
use Rattle.mx_app.specs.declared.ending.Note.TheVariants.{Nothing, NoSymbols, Ended}
use Rattle.mx_app_run.specs.declared.run_by_threads.RunEnding.TheVariants as runs
use Rattle.mx_turns.specs.declared.turns.Ending.TheVariants as turns
use Rattle.mx_turns.specs.Endings.{ending_word}

-- the last byte that was taken, after this many of these bytes
abbrev pub last_taken : Option ℕ → List ℕ → ℕ → Option ℕ
last_taken before bytes count = if count == 0 then before else slice_get bytes (count - 1)

-- standard output, by the last byte that it got: a text that ends within a line gets the line's end
abbrev pub text_end : Terminals → Option ℕ → List ℕ
text_end terminals None = []
text_end terminals (Some byte) = if terminals.out && not (byte == 10) then codes "\n" else []

-- the word for how turns or a run ended
abbrev pub driven_word : DrivenEnding → List ℕ
driven_word (Turns ending) = ending_word ending
driven_word (Run runs.Rest) = ending_word turns.Rest
driven_word (Run runs.Full) = ending_word turns.Full
driven_word (Run runs.Stopped) = codes "stopped"
driven_word Interrupted = codes "interrupted: LOG has what was done until then"

-- the report of a run that was stopped, or whose history is full
abbrev pub is_cut_short : PrintedText → Bool
is_cut_short (Report (Run runs.Stopped)) = true
is_cut_short (Report (Run runs.Full)) = true
is_cut_short (Report (Turns turns.Full)) = true
is_cut_short (Report Interrupted) = true
is_cut_short printed = false

-- what a reader is helped with, by what was printed, and by the last byte that standard output got: that there are no
-- symbols, or how turns or a run ended
abbrev pub help : PrintedText → Option ℕ → Note
help Symbols None = NoSymbols
help Symbols (Some byte) = Nothing
help (Report ending) last = Ended ending
help Other last = Nothing

-- standard error, if it is a terminal; if it isn't, only that a run was stopped, or that its history is full
abbrev pub note : Terminals → PrintedText → Option ℕ → Note
note terminals printed last = if terminals.err || is_cut_short printed then help printed last else Nothing

-- THE LINE of a note
abbrev pub note_text : Note → List ℕ
note_text Nothing = []
note_text NoSymbols = codes "mx: no symbols\n"
note_text (Ended ending) = codes "mx: " ++ driven_word ending ++ codes "\n"
