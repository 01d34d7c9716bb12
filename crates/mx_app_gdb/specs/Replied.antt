-- What each request is answered, and what the stub has in hand after it (our own).
use Rattle.std.specs.Prelude.{◌≡◌, ℕ, Bool, true, false, is_none, is_some, if◌then◌else◌, ◌&&◌, ◌||◌}
use Rattle.std.specs.Prelude.{List, [], ◌++◌, codes, map, option_map, slice_set, Option, Some, None}
use Rattle.std.specs.List.{list_any, range_with_len}
use Rattle.hex.specs.Hex.{encode_lower}
use Rattle.mx_exec.specs.declared.image.Image.{Image}
use Rattle.mx_machine.specs.World.{World}
use Rattle.mx_print_answers.specs.Slots.{image_in}
use Rattle.mx_rsp.specs.declared.fields.Which.{Which}
use Rattle.mx_rsp.specs.declared.fields.Which.TheVariants as which
use Rattle.mx_rsp.specs.declared.moves.Action.{Action}
use Rattle.mx_rsp.specs.declared.moves.Action.TheVariants as action
use Rattle.mx_rsp.specs.declared.moves.Resume.{Resume}
use Rattle.mx_rsp.specs.declared.request.Point.{Point}
use Rattle.mx_rsp.specs.declared.request.Request.{Request}
use Rattle.mx_rsp.specs.declared.request.Request.TheVariants as request
use Rattle.mx_rsp.specs.declared.words.Word.{Word}
use Rattle.mx_rsp.specs.declared.words.Word.TheVariants as word
use Rattle.mx_rsp.specs.Replies.{features_text, part_text, stop_text}
use Rattle.mx_walk.specs.declared.positions.Position.{Position}
use Rattle.mx_walk.specs.Walks.{Walk, world_here}
use Rattle.mx_app_look.specs.declared.points.Points.{Points}
use Rattle.mx_app_look.specs.declared.sight.Sight.{Sight}
use Rattle.mx_app_look.specs.Changes.{as_seen, seen_in}
use Rattle.mx_app_look.specs.Requests.{ends, request_of as line_of}
use Rattle.mx_app_look.specs.Sessions.{IsAnswered}
use Rattle.mx_app_gdb.specs.declared.halts.Halted.{Halted}
use Rattle.mx_app_gdb.specs.declared.halts.Halted.TheVariants.{There}
use Rattle.mx_app_gdb.specs.declared.halts.Halts.{Halts}
use Rattle.mx_app_gdb.specs.declared.ranges.Range.{Range}
use Rattle.mx_app_gdb.specs.declared.replying.After.{After}
use Rattle.mx_app_gdb.specs.declared.replying.After.TheVariants.{More, NoAcks, Over}
use Rattle.mx_app_gdb.specs.declared.replying.Reply.{Reply}
use Rattle.mx_app_gdb.specs.declared.replying.Way.{Way}
use Rattle.mx_app_gdb.specs.declared.replying.Way.TheVariants.{Back, On, Step, StepBack}
use Rattle.mx_app_gdb.specs.declared.stub.Stub.{Stub}
use Rattle.mx_app_gdb.specs.declared.threads.Threads.{Threads}
use Rattle.mx_app_gdb.specs.Console.{for_gdb_text, is_for_gdb}
use Rattle.mx_app_gdb.specs.Moves.{Halt, IsGoneBack, IsGoneOn, IsStepped, IsSteppedBack, at}
use Rattle.mx_app_gdb.specs.Points.{counted_points, inserted, removed}
use Rattle.mx_app_gdb.specs.Replies.{current_text, done_text, file_text, memory_text, register_text}
use Rattle.mx_app_gdb.specs.Replies.{registers_text, state_text, threads_text}
use Rattle.mx_app_gdb.specs.Stops.{slot_halted, stop_at}
use Rattle.mx_app_gdb.specs.Threads.{goes_by, is_seen, named_slot, read_by}

-- ---- what is asked of the position where the walker is

abbrev pub world_of_stub : Stub → World
world_of_stub s = world_here s.sight.walker

-- the process that is read
abbrev pub image_read : Stub → Option Image
image_read s = image_in (world_of_stub s) s.threads.reads

abbrev pub files_of : Stub → List (List ℕ)
files_of s = map (λ f. f.items) s.files.items

abbrev pub target_text : List ℕ
target_text =
    codes "<?xml version=\"1.0\"?><!DOCTYPE target SYSTEM \"gdb-target.dtd\">"
    ++ codes "<target version=\"1.0\"><architecture>i386</architecture><osabi>none</osabi></target>"

-- THE REPLY to what goes nowhere: a function of what is in hand
abbrev pub word_reply : Stub → Word → List ℕ
word_reply s word.WhyHalted = stop_text (stop_at (world_of_stub s) s.threads (There s.threads.reads))
word_reply s word.Registers = registers_text (image_read s)
word_reply s word.NoAcks = done_text true
word_reply s word.Threads = threads_text s.threads
word_reply s word.MoreThreads = codes "l"
word_reply s word.Current = current_text s.threads
word_reply s word.IsAttached = codes "1"
word_reply s word.Actions = codes "vCont;c;C;s;S;r"
word_reply s word.Detach = done_text true
word_reply s w = []

abbrev pub here_reply : Stub → Request → List ℕ
here_reply s (request.ThreadText w) = state_text (world_of_stub s) s.threads w
here_reply s (request.Description o n) = part_text target_text o n
here_reply s (request.File p o n) = file_text (files_of s) s.threads p o n
here_reply s (request.IsAlive w) = done_text (is_some (read_by s.threads w))
here_reply s (request.Register n) = register_text (image_read s) n
here_reply s (request.Memory a n) = memory_text (image_read s) a n
here_reply s request.Write = done_text false
here_reply s request.Malformed = done_text false
here_reply s r = []

-- ---- moves

-- what a move of a slot's process halts at: points and faults of its own, or of all that gdb has
pub record AreHalts (s : Stub) (slot : ℕ) (others : Bool) (h : Halts) : Type 0 where
  pub threads : h.counted.threads ≡ s.threads
  pub only : h.counted.only ≡ (if others then None else Some slot)
  pub points : h.points ≡ counted_points s.sight.points h.counted
  pub seen : map as_seen h.seen.items ≡ map (seen_in (world_of_stub s)) h.points.watches
  pub mover : h.mover ≡ slot

-- where it led; the process of the halt is read from then on
abbrev pub moved_to : Stub → Position → Halted → Stub
moved_to s p why = record s {
  sight = record s.sight { walker = at s.sight.walker p };
  threads = record s.threads { reads = slot_halted why };
}

-- where a way leads
abbrev pub IsGone : Way → Walk → Halts → Halt → Type 0
IsGone On k h r = IsGoneOn k h r
IsGone (Step s g) k h r = IsStepped k h s g r
IsGone Back k h r = IsGoneBack k h r
IsGone (StepBack s) k h r = IsSteppedBack k h s r

-- it is answered with the stop
abbrev pub IsMovedBy : Way → Halts → Stub → Stub → List ℕ → Type 0
IsMovedBy way h s u text =
    (p : Position) × (why : Halted) × IsGone way s.sight.walker h (p, Some why) × (u ≡ moved_to s p why)
    × (text ≡ stop_text (stop_at (world_of_stub u) s.threads why))

-- A MOVE of a slot's process
abbrev pub IsMoved : Way → Stub → ℕ → Bool → Stub → List ℕ → Type 0
IsMoved way s mover others u text = (h : Halts) × AreHalts s mover others h × IsMovedBy way h s u text

abbrev pub range_of : Action → Range
range_of (action.StepWithin a b) = record { first = a; end = b }
range_of _ = record { first = 0; end = 0 }

abbrev pub IsGoneBy : Action → Stub → ℕ → Bool → Stub → List ℕ → Type 0
IsGoneBy action.Continue s slot others u text = IsMoved On s slot true u text
IsGoneBy a s slot others u text = IsMoved (Step slot (range_of a)) s slot others u text

abbrev pub IsResumed : Stub → Resume → Option ℕ → Stub → List ℕ → Type 0
IsResumed s r None u text = (u ≡ s) × (text ≡ done_text false)
IsResumed s r (Some slot) u text = IsGoneBy r.first.action s slot r.others u text

-- back, by a step or to the last halt
abbrev pub IsReversed : Bool → Stub → Stub → List ℕ → Type 0
IsReversed true s u text = IsMoved (StepBack (goes_by s.threads)) s (goes_by s.threads) false u text
IsReversed false s u text = IsMoved Back s (goes_by s.threads) true u text

-- ---- processes

-- where gdb wants one process alone, it isn't named
abbrev pub with_names : Stub → Bool → Stub
with_names s names = record s { threads = record s.threads { names = names && is_none s.threads.only } }

abbrev pub reading : Stub → Option ℕ → Stub
reading s None = s
reading s (Some slot) = record s { threads = record s.threads { reads = slot } }

-- any one and all are the one that is read
abbrev pub going_of : Threads → Which → Option ℕ
going_of t (which.One n) = named_slot t n
going_of t _ = None

abbrev pub going : Stub → Which → Stub
going s w =
    if is_some (read_by s.threads w) then record s { threads = record s.threads { goes = going_of s.threads w } }
    else s

abbrev pub left_by : Threads → Option ℕ → Threads
left_by t None = t
left_by t (Some slot) = record t { gone = slice_set t.gone slot true }

-- without a process that gdb has left
abbrev pub left : Stub → ℕ → Stub
left s n = record s { threads = left_by s.threads (named_slot s.threads n) }

abbrev pub has_any : Threads → Bool
has_any t = list_any (is_seen t) (range_with_len 0 32)

-- ---- commands

-- gdb has its own, or it is answered as in a session
abbrev pub IsToldIf : Bool → Sight → List ℕ → Sight → List ℕ → Type 0
IsToldIf true s line u text = (u ≡ s) × (text ≡ for_gdb_text)
IsToldIf false s line u text = IsAnswered s line u text

abbrev pub IsToldBy : Sight → List ℕ → Sight → List ℕ → Type 0
IsToldBy s line u text =
    IsToldIf (ends line || is_for_gdb (line_of (world_here s.walker).services line)) s line u text

abbrev pub IsConsoled : Stub → List ℕ → Stub → List ℕ → Type 0
IsConsoled s line u text = (u ≡ record s { sight = u.sight }) × IsToldBy s.sight line u.sight text

-- ---- EACH REQUEST: what is in hand after it, its reply, if it has one, and what comes after that

abbrev pub after_word : Word → After
after_word word.NoAcks = NoAcks
after_word word.Detach = Over
after_word word.End = Over
after_word w = More

abbrev pub reply_to_word : Stub → Word → Option (List ℕ)
reply_to_word s word.End = None
reply_to_word s w = Some (word_reply s w)

abbrev pub text_of : Reply → Option (List ℕ)
text_of r = option_map (λ v. v.items) r.text

abbrev pub Says : Stub → List ℕ → Stub → Option (List ℕ) → After → Type 0
Says s text u reply next = (u ≡ s) × (reply ≡ Some text) × (next ≡ More)

abbrev pub SaysMoved : (Stub → List ℕ → Type 0) → Stub → Option (List ℕ) → After → Type 0
SaysMoved Is u reply next = (text : List ℕ) × Is u text × (reply ≡ Some text) × (next ≡ More)

abbrev pub IsRepliedToWord : Stub → Word → Stub → Option (List ℕ) → After → Type 0
IsRepliedToWord s word.StepBack u reply next = SaysMoved (IsReversed true s) u reply next
IsRepliedToWord s word.ContinueBack u reply next = SaysMoved (IsReversed false s) u reply next
IsRepliedToWord s w u reply next = (u ≡ s) × (reply ≡ reply_to_word s w) × (next ≡ after_word w)

-- one that sets a point, or takes one away
abbrev pub IsInserted : Stub → Bool × Points → Stub → Option (List ℕ) → After → Type 0
IsInserted s r u reply next = Says (record s { sight = record s.sight { points = r.1 } }) (done_text r.0) u reply next

abbrev pub without_point : Stub → Point → ℕ → ℕ → Stub
without_point s p a n =
    record s { sight = record s.sight { points = removed s.sight.points s.threads.reads p a n } }

abbrev pub IsDetached : Stub → Stub → Option (List ℕ) → After → Type 0
IsDetached l u reply next =
    (u ≡ l) × (reply ≡ Some (done_text true)) × (next ≡ (if has_any l.threads then More else Over))

abbrev pub IsConsoleReply : Stub → List ℕ → Stub → Option (List ℕ) → After → Type 0
IsConsoleReply s line u reply next =
    (text : List ℕ) × IsConsoled s line u text × (reply ≡ Some (encode_lower text)) × (next ≡ More)

abbrev pub IsReplied : Stub → Request → Stub → Option (List ℕ) → After → Type 0
IsReplied s (request.Plain w) u reply next = IsRepliedToWord s w u reply next
IsReplied s (request.Go r) u reply next = SaysMoved (IsResumed s r (read_by s.threads r.first.who)) u reply next
IsReplied s (request.Console line) u reply next = IsConsoleReply s line u reply next
IsReplied s (request.Supported names) u reply next =
    Says (with_names s names) (features_text (with_names s names).threads.names) u reply next
IsReplied s (request.ForReading w) u reply next =
    Says (reading s (read_by s.threads w)) (done_text (is_some (read_by s.threads w))) u reply next
IsReplied s (request.ForGoing w) u reply next =
    Says (going s w) (done_text (is_some (read_by s.threads w))) u reply next
IsReplied s (request.Insert p a n) u reply next =
    IsInserted s (inserted s.sight.walker s.sight.points s.threads.reads p a n) u reply next
IsReplied s (request.Remove p a n) u reply next = Says (without_point s p a n) (done_text true) u reply next
IsReplied s (request.DetachFrom n) u reply next = IsDetached (left s n) u reply next
IsReplied s r u reply next = Says s (here_reply s r) u reply next
