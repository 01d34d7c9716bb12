-- The words of the texts of a picture (our own).
use Rattle.std.specs.Prelude.{ℕ, ◌-◌, ◌==◌, if◌then◌else◌, List, [], ◌∷◌, ◌++◌, codes, Option, Some, None, length, slice_get}
use Rattle.std.specs.Fmt.{decimal, signed_decimal}
use Rattle.std.specs.Int.{w32, cast_signed}
use Rattle.mx_machine.specs.declared.events.Refusal.{Refusal}
use Rattle.mx_machine.specs.Refusals.{code_of_refusal, name_of_refusal}
use Rattle.mx_print_report.specs.Numbers.{two_digits}
use Rattle.mx_print_report.specs.Words.{doing_text, named}
use Rattle.mx_look.specs.declared.transition.Transition.{Transition}
use Rattle.mx_look.specs.Trace.{call_name, name_or}
use Rattle.mx_look.specs.KernelCalls.{request_name}
use Rattle.mx_app_draw.specs.declared.scene_values.Scene.{Scene}
use Rattle.mx_app_draw.specs.declared.scene_values.Standing.{Standing}
use Rattle.mx_app_draw.specs.declared.values.Deed.{Deed}
use Rattle.mx_app_draw.specs.declared.values.Deed.TheVariants as deed
use Rattle.mx_app_draw.specs.declared.values.Manner.{Manner}
use Rattle.mx_app_draw.specs.declared.values.Manner.TheVariants as manner
use Rattle.mx_app_draw.specs.declared.values.Item.{Item}
use Rattle.mx_app_draw.specs.declared.values.Item.TheVariants as item
use Rattle.mx_app_draw.specs.declared.values.Text.{Text}
use Rattle.mx_app_draw.specs.declared.values.Text.TheVariants as text

-- how many there are of something
unfoldable pub counted : ℕ → List ℕ → List ℕ
counted n word = decimal n ++ codes " " ++ word ++ (if n == 1 then [] else codes "s")

-- ---- the title

abbrev pub span_by : Option Transition → Option Transition → List ℕ
span_by (Some x) (Some y) = codes "Records " ++ decimal x.number ++ codes " to " ++ decimal y.number
span_by _ _ = codes "No record"

unfoldable pub span_text : List Transition → List ℕ
span_text xs = span_by (slice_get xs 0) (slice_get xs (length xs - 1))

unfoldable pub title_text : Scene → List ℕ
title_text v =
    span_text v.transitions.items ++ codes " of " ++ decimal v.total ++ codes ", "
    ++ counted v.services (codes "service") ++ codes ", " ++ counted v.processors (codes "processor")

-- ---- who, and what it does

unfoldable pub who_text : Standing → List ℕ
who_text a = named a.name.bytes a.endpoint

unfoldable pub standing_text : Standing → List ℕ
standing_text a = who_text a ++ codes " " ++ doing_text a.doing

-- ---- what it did

unfoldable pub deed_word : Deed → List ℕ
deed_word deed.Spent = codes "spent"
deed_word deed.Early = codes "early"
deed_word (deed.Fault v) = codes "fault " ++ decimal v
deed_word (deed.Call n) = name_or (codes "trap") (call_name n)
deed_word (deed.Kernel rules kind) = name_or (codes "type") (request_name rules kind)

-- with a glyph if it went wrong, in brackets if it wasn't made
unfoldable pub deed_text : Deed → Manner → List ℕ
deed_text d manner.Plain = deed_word d
deed_text d manner.Wrong = deed_word d ++ codes "!"
deed_text d manner.Unmade = codes "(" ++ deed_word d ++ codes ")"

-- ---- the record that is refused

abbrev pub refused_by : Option (ℕ × Refusal) → List ℕ
refused_by None = []
refused_by (Some p) =
    codes "line " ++ decimal p.0 ++ codes ": refused " ++ decimal (code_of_refusal p.1) ++ codes " "
    ++ name_of_refusal p.1

unfoldable pub refused_text : Scene → List ℕ
refused_text v = refused_by v.refused

-- ---- the legend

abbrev pub key_text : Item → List ℕ
key_text item.Out = codes "on a processor"
key_text item.Doomed = codes "killed there"
key_text item.Ready = codes "ready"
key_text item.Sending = codes "sending"
key_text item.Calling = codes "calling"
key_text item.Awaiting = codes "awaiting"
key_text item.Receiving = codes "receiving"
key_text item.Message = codes "message"
key_text item.Notification = codes "notification"
key_text item.Pending = codes "kept pending"
key_text item.Tick = codes "tick, uptime"
key_text item.Line = codes "interrupt line"
key_text item.Death = codes "death"
key_text item.Birth = codes "respawn"
key_text item.Wrong = codes "error result"
key_text item.Unmade = codes "killed, not made"

-- THE WORDS OF A TEXT
unfoldable pub text_words : Scene → Text → List ℕ
text_words v text.Title = title_text v
text_words v text.Outside = codes "outside"
text_words v text.Console = codes "console"
text_words v (text.Number n) = decimal n
text_words v (text.Outcome r) = signed_decimal (cast_signed w32 r)
text_words v (text.Who a) = who_text a
text_words v (text.Standing a) = standing_text a
text_words v (text.Bytes n) = counted n (codes "byte")
text_words v (text.Deed d m) = deed_text d m
text_words v text.Killed = codes "kill"
text_words v (text.Character b) = b ∷ []
text_words v (text.Hexadecimal b) = two_digits b
text_words v text.Refused = refused_text v
text_words v (text.Key i) = key_text i
