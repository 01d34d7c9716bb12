-- What the payload of a packet asks for ("Debugging with GDB", "Packets", "General Query Packets").
use Rattle.std.specs.Prelude.{ℕ, ◌==◌, ◌||◌, if◌then◌else◌, Bool, List, [], ◌∷◌, ◌++◌, Option, Some, None, codes, length, unwrap_or, Result, Ok, Err}
use Rattle.std.specs.Str.{bytes_eq}
use Rattle.hex.specs.Hex.{decode_of}
use Rattle.hex.specs.declared.error.FromHexError.{FromHexError}
use Rattle.mx_text.specs.Fields.{◌>>=◌}
use Rattle.mx_rsp.specs.declared.request.Point.{Point}
use Rattle.mx_rsp.specs.declared.request.Point.TheVariants.{Break, Watch}
use Rattle.mx_rsp.specs.declared.request.Request.{Request}
use Rattle.mx_rsp.specs.declared.request.Request.TheVariants as request
use Rattle.mx_rsp.specs.declared.words.Word.{Word}
use Rattle.mx_rsp.specs.declared.words.Word.TheVariants.{IsAttached}
use Rattle.mx_rsp.specs.declared.words.Verb.{Verb}
use Rattle.mx_rsp.specs.declared.words.Verb.TheVariants as verb
use Rattle.mx_rsp.specs.Fields.{after, cut, number, two_numbers, who_of}
use Rattle.mx_rsp.specs.Moves.{resume_of}
use Rattle.mx_rsp.specs.Words.{verb_of, verb_text, word_of}

-- a feature ends at a semicolon, and the first one begins after a colon
abbrev pub ends_feature : ℕ → Bool
ends_feature b = (b == 58) || (b == 59)

-- the first bytes of a feature and those that follow have a feature of this name
abbrev pub has_feature : List ℕ → List ℕ → List ℕ → Bool
has_feature name front [] = bytes_eq front name
has_feature name front (b ∷ text) =
    if ends_feature b then bytes_eq front name || has_feature name [] text else has_feature name (front ++ b ∷ []) text

-- gdb names processes
abbrev pub names_processes : List ℕ → Bool
names_processes text = has_feature (codes "multiprocess+") [] text

-- a process's number, which is left out where it is clear
abbrev pub process_of : List ℕ → Option (Option ℕ)
process_of text = if length text == 0 then Some None else do
  n ← number text
  Some (Some n)

-- a part of a process's file
abbrev pub file_of : List ℕ → Option Request
file_of text = do
  parts ← cut 58 text
  p ← process_of parts.0
  r ← two_numbers parts.1
  Some (request.File p r.0 r.1)

abbrev pub point_of : Point → List ℕ → Option Request
point_of p text = do
  r ← two_numbers text
  Some (request.Insert p r.0 r.1)

abbrev pub unpoint_of : Point → List ℕ → Option Request
unpoint_of p text = do
  r ← two_numbers text
  Some (request.Remove p r.0 r.1)

-- what a verb and its arguments ask for, if these are as they have to be
abbrev pub request_by : Verb → List ℕ → Option Request
request_by verb.Supported text = Some (request.Supported (names_processes text))
request_by verb.AttachedTo text = Some (request.Plain IsAttached)
request_by verb.ThreadText text = do
  w ← who_of text
  Some (request.ThreadText w)
request_by verb.Description text = do
  r ← two_numbers text
  Some (request.Description r.0 r.1)
request_by verb.File text = file_of text
request_by verb.Resume text = do
  r ← resume_of text
  Some (request.Go r)
request_by verb.ForReading text = do
  w ← who_of text
  Some (request.ForReading w)
request_by verb.ForGoing text = do
  w ← who_of text
  Some (request.ForGoing w)
request_by verb.IsAlive text = do
  w ← who_of text
  Some (request.IsAlive w)
request_by verb.Register text = do
  n ← number text
  Some (request.Register n)
request_by verb.Memory text = do
  r ← two_numbers text
  Some (request.Memory r.0 r.1)
request_by verb.BreakSoft text = point_of Break text
request_by verb.BreakHard text = point_of Break text
request_by verb.Watch text = point_of Watch text
request_by verb.UnbreakSoft text = unpoint_of Break text
request_by verb.UnbreakHard text = unpoint_of Break text
request_by verb.Unwatch text = unpoint_of Watch text
request_by verb.DetachFrom text = do
  n ← number text
  Some (request.DetachFrom n)
request_by verb.WriteMemory text = Some request.Write
request_by verb.WriteBytes text = Some request.Write
request_by verb.WriteRegisters text = Some request.Write
request_by verb.WriteRegister text = Some request.Write

abbrev pub after_verb : Option Verb → List ℕ → Request
after_verb None text = request.Unknown
after_verb (Some v) text = unwrap_or (do
  rest ← after (verb_text v) text
  request_by v rest) request.Malformed

-- a command for the stub itself, in hexadecimal
abbrev pub command_of : Result (List ℕ) FromHexError → Request
command_of (Ok bytes) = request.Console bytes
command_of (Err e) = request.Malformed

abbrev pub by_command : Option (List ℕ) → List ℕ → Request
by_command None text = after_verb (verb_of text) text
by_command (Some digits) text = command_of (decode_of digits)

abbrev pub by_word : Option Word → List ℕ → Request
by_word (Some w) text = request.Plain w
by_word None text = by_command (after (codes "qRcmd,") text) text

-- WHAT A PAYLOAD ASKS FOR
unfoldable pub request_of : List ℕ → Request
request_of text = by_word (word_of text) text
