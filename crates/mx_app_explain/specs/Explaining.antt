-- The second line of a failure: what it is about, and what was wanted (our own).
use Rattle.std.specs.List.{ends_with}
use Rattle.std.specs.Prelude.{◌++◌, ◌==◌, nat_eq, ℕ, Bool, false, if◌then◌else◌, List, [], codes, length, Option, Some, None, option_map, slice_index, string_bytes, take}
use Rattle.std.specs.Path.{rfind_below}
use Rattle.std.specs.Str.{bytes_eq}
use Rattle.mx_text.specs.declared.error.BootError.{BootError}
use Rattle.mx_text.specs.declared.error.BootError.TheVariants as lines
use Rattle.mx_app_command.specs.Files.{FileWord, file_written, files_read, writes_several, written_kind}
use Rattle.mx_app_command.specs.declared.command_line.CommandRequest.{CommandRequest}
use Rattle.mx_aout.specs.declared.program.FileError.{FileError}
use Rattle.mx_app_failure.specs.declared.failure.About.{About}
use Rattle.mx_app_failure.specs.declared.failure.Access.{Access}
use Rattle.mx_app_failure.specs.declared.failure.Access.TheVariants as access
use Rattle.mx_app_failure.specs.declared.failure.Looks.{Looks}
use Rattle.mx_app_failure.specs.declared.failure.Looks.TheVariants as looks
use Rattle.mx_app_failure.specs.declared.failure.About.TheVariants as about
use Rattle.mx_app_failure.specs.declared.failure.FileFailure.{FileFailure}
use Rattle.mx_app_failure.specs.declared.failure.FileProblem.{FileProblem}
use Rattle.mx_app_failure.specs.declared.failure.FileProblem.TheVariants.{Refused, Faulty, Misstated, Unread, NotUtf8, IsProgram, Unwritten, OverRead, OverProgram, OtherKind}
use Rattle.mx_app_failure.specs.declared.failure.OutputProblem.{OutputProblem}
use Rattle.mx_app_failure.specs.declared.failure.OutputProblem.TheVariants.{ReaderEnded, NoRoom, Other}
use Rattle.mx_app_failure.specs.declared.failure.Failure.{Failure as Kind}
use Rattle.mx_app_failure.specs.declared.failure.Failure.TheVariants.{Of, NotText, Input, Output, NoMemory}
use Rattle.mx_app_explain.specs.Details.{config_detail, detail_told, wanted_told}
use Rattle.mx_app_explain.specs.Hints.{folder_told, words_told}
use Rattle.mx_app_explain.specs.RecordLines.{record_detail, record_wanted}
use Rattle.mx_app_explain.specs.TextAdvice.{advice_told, advised, words_at}
use Rattle.mx_app_explain.specs.Wanted.{kind_said, kind_wanted, problem_wanted, refusal_wanted}
use Rattle.mx_app_explain.specs.declared.explaining.Explanation.{Explanation}
use Rattle.mx_app_explain.specs.declared.explaining.Said.{Said}
use Rattle.mx_app_explain.specs.declared.explaining.Said.TheVariants as saids
use Rattle.mx_app_explain.specs.declared.subject.Subject.{Subject}
use Rattle.mx_app_explain.specs.declared.subject.Subject.TheVariants as subjects

-- ---- what a failure is about

-- a word of the command line as its help has it, and its text
abbrev pub word_told : List ℕ → List ℕ → List ℕ
word_told label name = label ++ codes " " ++ name

abbrev pub service_told : List ℕ → List ℕ
service_told name = codes "a service's program " ++ name

abbrev pub unknown_told : List ℕ
unknown_told = codes "a file"

abbrev pub input_told : List ℕ
input_told = codes "standard input"

abbrev pub output_told : List ℕ
output_told = codes "standard output"

abbrev pub memory_told : List ℕ
memory_told = codes "memory"

abbrev pub subject_told : Subject → List ℕ
subject_told (subjects.Word label name) = word_told label.now name.now
subject_told (subjects.Service name) = service_told name.now
subject_told subjects.Unknown = unknown_told
subject_told subjects.Input = input_told
subject_told subjects.Output = output_told
subject_told subjects.Memory = memory_told

-- the file that a word names, if the request has it
abbrev pub word_subject : Option FileWord → List ℕ
word_subject None = unknown_told
word_subject (Some w) = word_told w.label w.name

-- a file, by what it is to the command
abbrev pub file_subject : CommandRequest → About → List ℕ
file_subject r about.Program = word_subject (Some (files_read r).first)
file_subject r about.Source = word_subject (Some (files_read r).first)
file_subject r about.Config = word_subject (Some (files_read r).first)
file_subject r about.Course = word_subject (files_read r).course
file_subject r about.Fault = word_subject (files_read r).further
file_subject r about.Written = word_subject (file_written r)
file_subject r (about.Service name) = service_told (string_bytes name)

abbrev pub subject_of : CommandRequest → Kind → List ℕ
subject_of r (Of f) = file_subject r f.about
subject_of r NotText = word_subject (Some (files_read r).first)
subject_of r Input = input_told
subject_of r (Output p) = output_told
subject_of r NoMemory = memory_told

-- ---- what was wanted

abbrev pub lines_wanted : CommandRequest → About → BootError → List ℕ
lines_wanted r a (lines.BadLine n) =
    codes "an item: cpus 1 to 8, others 1 to 4, log 1 to 1048576, rules 1 or 2, or service NAME FILE traps "
    ++ codes "T send S calls C level L best B quantum Q restarts R, with T, S, C hexadecimal without 0x, L 0 "
    ++ codes "to 14, B 0 to L, Q 1 to 65535, R 0 to 1048575, NAME at most 8 bytes and no register; a line "
    ++ codes "feed alone at the end, no byte order mark; and at least one service"
lines_wanted r a (lines.TwiceNamed n) =
    codes "each item once, and a name of its own for each service"
lines_wanted r a (lines.TooMany n) = codes "at most 32 services"
lines_wanted r a (lines.BadRecord n) = record_wanted r a
lines_wanted r a lines.NoMemory = codes "more of it"

abbrev pub read_wanted : Access → List ℕ
read_wanted access.Missing = codes "a file that can be read: it isn't there"
read_wanted access.Forbidden = codes "a file that can be read: there is no right to"
read_wanted access.Folder = codes "a file that can be read: it is a folder"
read_wanted a = codes "a file that can be read"

abbrev pub write_wanted : Access → List ℕ
write_wanted access.Missing = codes "a file that can be written: its folder isn't there"
write_wanted access.Forbidden = codes "a file that can be written: there is no right to"
write_wanted access.Folder = codes "a file that can be written: it is a folder"
write_wanted access.NoRoom = codes "a file that can be written: there is no room"
write_wanted access.Other = codes "a file that can be written"

abbrev pub program_wanted : FileError → Looks → List ℕ
program_wanted e looks.Text = codes "an a.out file; this is a text: mx as FILE OTHER.out"
program_wanted e looks.Elf =
    codes "an a.out file; this is an ELF file: examples/c/Makefile makes a.out files of C"
program_wanted e looks.Other = refusal_wanted e

abbrev pub file_wanted : CommandRequest → About → FileProblem → List ℕ
file_wanted r a (Refused e l) = program_wanted e l
file_wanted r a (Faulty f) = problem_wanted f.problem
file_wanted r a (Misstated e) = lines_wanted r a e
file_wanted r a (Unread why) = read_wanted why
file_wanted r a NotUtf8 = codes "a text in UTF-8, and not in UTF-16 or another encoding"
file_wanted r a IsProgram = codes "a text in UTF-8; it is a program"
file_wanted r a (Unwritten why) = write_wanted why
file_wanted r a OverRead = codes "another file than the one that is read"
file_wanted r a OverProgram = codes "another file than a service's program"
file_wanted r a OtherKind = kind_wanted (written_kind r)

-- ---- the word at fault

-- what is wrong with a file that is there; of several files it is the first
abbrev pub other_said : CommandRequest → List ℕ
other_said r = if writes_several r then codes "a file NAME1, NAME2 .. is there and is no history" else kind_said (written_kind r)

-- of a file that would be written over it is said first that it is there
abbrev pub file_label : CommandRequest → FileProblem → List ℕ
file_label r OtherKind = other_said r ++ codes "; "
file_label r p = []

-- the folder in a file's name: what is before its last stroke
abbrev pub folder_of : List ℕ → Option (List ℕ)
folder_of name = option_map (λ n. take n name) (rfind_below 47 name (length name))

abbrev pub folder_or_made : Option (List ℕ) → List ℕ
folder_or_made None =
    words_told (codes "mx as makes it of a text, and make of C if programs in the Makefile has its name")
folder_or_made (Some folder) = folder_told folder

-- a file's name that is a dash, as that of standard input elsewhere
abbrev pub is_dash : Option FileWord → Bool
is_dash None = false
is_dash (Some w) = bytes_eq w.name (codes "-")

-- the word of the command line that names a file which is read
abbrev pub word_read : CommandRequest → About → Option FileWord
word_read r about.Course = (files_read r).course
word_read r about.Fault = (files_read r).further
word_read r about.Written = None
word_read r (about.Service name) = None
word_read r a = Some (files_read r).first

-- where a service's program is sought: its configuration's folder is none of this, and a tilde is no home; else what
-- makes one
abbrev pub place_told : List ℕ → CommandRequest → List ℕ
place_told name r =
    if slice_index name 0 == 126 then words_told (codes "~ is no home in CONFIG: write the whole name, from /")
    else folder_or_made (folder_of (files_read r).first.name)

-- what is added of a file that isn't there
abbrev pub missing_hint : CommandRequest → About → List ℕ
missing_hint r (about.Service name) = place_told (string_bytes name) r
missing_hint r a =
    if is_dash (word_read r a) then words_told (codes "standard input has the name /dev/stdin") else []

abbrev pub plain_hint : CommandRequest → About → FileProblem → List ℕ
plain_hint r a (Unread access.Missing) = missing_hint r a
plain_hint r a p = []

abbrev pub plain_detail : CommandRequest → About → FileProblem → List ℕ
plain_detail r a p = wanted_told (file_label r p) (file_wanted r a p) [] (plain_hint r a p)

-- the words of the line at fault of a text for the assembler
abbrev pub faulty_words : FileProblem → Option (List ℕ) → List (List ℕ)
faulty_words (Faulty f) (Some text) = words_at text f.line
faulty_words p text = []

-- of a text for the assembler that is C, by its file's name; else this
abbrev pub is_c : List ℕ → Bool
is_c name = ends_with nat_eq name (codes ".c")

abbrev pub source_told : List ℕ → List ℕ → List ℕ
source_told name told =
    if is_c name
    then wanted_told [] (codes "a text for the assembler; this is C: make compiles it, with the Makefile of examples/c "
    ++ codes "or of mx new NAME --c") [] []
    else told

-- what was wanted of the line at fault of a text, if that is known
abbrev pub line_detail : CommandRequest → About → FileProblem → Option (List ℕ) → Option (List ℕ)
line_detail r a (Misstated (lines.BadLine n)) (Some text) = config_detail text n
line_detail r a (Misstated (lines.BadRecord n)) (Some text) = record_detail r a text n
line_detail r a (Faulty f) (Some text) =
    Some (source_told (files_read r).first.name (advice_told (advised f.problem (words_at text f.line))))
line_detail r a p text = None

-- that, or else what was wanted of no line that is known
abbrev pub detail_or : List ℕ → Option (List ℕ) → List ℕ
detail_or plain None = plain
detail_or plain (Some detail) = detail

abbrev pub text_of : FileFailure → Option (List ℕ)
text_of f = option_map (λ t. t.items) f.text

abbrev pub file_said : CommandRequest → FileFailure → List ℕ
file_said r f = detail_or (plain_detail r f.about f.problem) (line_detail r f.about f.problem (text_of f))

abbrev pub output_said : OutputProblem → List ℕ
output_said ReaderEnded = codes "its reader has ended"
output_said NoRoom = codes "wanted room for what is printed"
output_said Other = codes "wanted an output that can be written"

-- what is said of what a failure is about
abbrev pub said_of : CommandRequest → Kind → List ℕ
said_of r (Of f) = file_said r f
said_of r NotText = codes "wanted UTF-8"
said_of r Input = codes "wanted an input that can be read"
said_of r (Output p) = output_said p
said_of r NoMemory = codes "wanted more of it"

-- ---- the line, without its end

abbrev pub said_line : List ℕ → List ℕ → List ℕ
said_line subject said = codes "mx: " ++ subject ++ codes ": " ++ said

abbrev pub said_told : Said → List ℕ
said_told (saids.Detail d) = detail_told d
said_told (saids.Words words) = words.now

abbrev pub explanation_told : Explanation → List ℕ
explanation_told e = said_line (subject_told e.subject) (said_told e.said)

-- WHAT EXPLAINS A FAILURE, by the request: its words name the files
abbrev pub explained : CommandRequest → Kind → List ℕ
explained r f = said_line (subject_of r f) (said_of r f)
