-- Why the words of a command line ask for nothing (our own).
use Rattle.std.specs.Prelude.{◌≡◌, ◌&&◌, ◌||◌, if◌then◌else◌, not, Bool, is_none, is_some, codes, List, [], Option, Some, None}
use Rattle.std.specs.Str.{bytes_eq}
use Rattle.clap.specs.Words.{HasKind, Row, Text, fault_of, first_of, kind_of, subcommand_of}
use Rattle.clap.specs.declared.error.kind.ErrorKind.TheVariants.{OutOfMemory}
use Rattle.mx_app_command.specs.declared.command_line.Mistake.{Mistake}
use Rattle.mx_app_command.specs.declared.command_line.Mistake.TheVariants.{Grammar, TicksAndEvents, LiveWithCourse, NotLive, NoFault, NoPart}
use Rattle.mx_app_command.specs.Parts.{part_asked}
use Rattle.mx_app_command.specs.Words.{is_on, mx_grammar}

-- these are the words of `turns` with both `--ticks` and `--events`
abbrev pub has_both : Text → List Row → Bool
has_both name rows =
    bytes_eq name (codes "turns") && (is_some (first_of (codes "T") rows) && is_some (first_of (codes "EVENTS") rows))

abbrev pub is_there : Text → List Row → Bool
is_there id rows = is_some (first_of id rows)

-- those of `turns --live` with `--ticks`, `--events` or `--turns`
abbrev pub has_course : Text → List Row → Bool
has_course name rows =
    bytes_eq name (codes "turns")
    && (is_on (codes "live") rows
    && (is_there (codes "T") rows || (is_there (codes "EVENTS") rows || is_there (codes "N") rows)))

-- those of `turns` with `--hertz` or `--raw`, and without `--live`
abbrev pub lacks_live : Text → List Row → Bool
lacks_live name rows =
    bytes_eq name (codes "turns")
    && (not (is_on (codes "live") rows)
    && (is_there (codes "H") rows || is_on (codes "raw") rows))

-- those of `page` with `--turns` or `--jobs`, and without `--fault`
abbrev pub lacks_fault : Text → List Row → Bool
lacks_fault name rows =
    bytes_eq name (codes "page")
    && (not (is_there (codes "FAULT") rows) && (is_there (codes "N") rows || is_there (codes "J") rows))

-- those of `explore` with a word that names no part
abbrev pub lacks_part : Text → List Row → Bool
lacks_part name rows = bytes_eq name (codes "explore") && is_none (part_asked (first_of (codes "I/N") rows))

-- what is wrong with the words of a subcommand that the grammar takes
abbrev pub mistake_in : Text → List Row → Option Mistake
mistake_in name rows =
    if has_both name rows then Some TicksAndEvents
    else if has_course name rows then Some LiveWithCourse
    else if lacks_live name rows then Some NotLive
    else if lacks_fault name rows then Some NoFault
    else if lacks_part name rows then Some NoPart
    else None

-- what is wrong with those of the subcommand that is met, if one is
abbrev pub mistake_given : Option (Text × List Row) → Option Mistake
mistake_given (Some found) = mistake_in found.0 found.1
mistake_given None = None

-- WHAT IS WRONG WITH WORDS: what the grammar finds at fault; or nothing is, and they exclude each other
abbrev pub IsMistake : List Text → Mistake → Type 0
IsMistake words (Grammar e) = HasKind (fault_of mx_grammar words) e
IsMistake words m = (fault_of mx_grammar words ≡ []) × (mistake_given (subcommand_of mx_grammar words) ≡ Some m)

-- memory is out
abbrev pub IsOutOfMemory : Mistake → Type 0
IsOutOfMemory (Grammar e) = kind_of e ≡ OutOfMemory
IsOutOfMemory m = ⊥
