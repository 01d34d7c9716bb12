-- No request changes the history.
use Rattle.std.proofs.Common.{◌≡◌, ◌||◌, ◌++◌, ℕ, Bool, true, false, cond, List, Option, Some, None, is_some, refl, subst, sym}
use Rattle.mx_rsp.specs.declared.fields.Which.{Which}
use Rattle.mx_rsp.specs.declared.moves.Action.{Action}
use Rattle.mx_rsp.specs.declared.moves.Action.TheVariants as action
use Rattle.mx_rsp.specs.declared.moves.Resume.{Resume}
use Rattle.mx_rsp.specs.declared.request.Request.{Request}
use Rattle.mx_rsp.specs.declared.request.Request.TheVariants as request
use Rattle.mx_rsp.specs.declared.words.Word.{Word}
use Rattle.mx_rsp.specs.declared.words.Word.TheVariants as word
use Rattle.mx_app_look.specs.declared.request.Request.{Request as Line}
use Rattle.mx_app_look.specs.declared.request.Request.TheVariants as line
use Rattle.mx_app_look.specs.declared.sight.Sight.{Sight}
use Rattle.mx_app_look.specs.Answers.{IsMade, after}
use Rattle.mx_app_look.specs.declared.happening.Happening.{Happening}
use Rattle.mx_app_look.specs.Requests.{ends, request_of as line_of}
use Rattle.mx_app_look.specs.Seeking.{IsGoneBack, IsGoneBy as IsSearchedBy, IsGoneOn, IsGoneUntilBackBy, IsHalted, has_points, point_made}
use Rattle.mx_app_look.specs.Sessions.{IsAnsweredBy}
use Rattle.mx_app_look.specs.Until.{has_slots, type_note}
use Rattle.mx_walk.specs.declared.positions.Position.{Position}
use Rattle.mx_walk.specs.Walks.{world_here}
use Rattle.mx_app_gdb.specs.declared.replying.After.{After}
use Rattle.mx_app_gdb.specs.declared.replying.Way.{Way}
use Rattle.mx_app_gdb.specs.declared.replying.Way.TheVariants.{Back, On, Step, StepBack}
use Rattle.mx_app_gdb.specs.declared.stub.Stub.{Stub}
use Rattle.mx_app_gdb.specs.Console.{is_for_gdb}
use Rattle.mx_app_gdb.specs.Laws.{IsSameHistory}
use Rattle.mx_app_gdb.specs.Points.{inserted}
use Rattle.mx_app_gdb.specs.Replied.{IsGoneBy, IsMoved, IsReplied, IsRepliedToWord, IsResumed, IsReversed, IsToldIf, going, going_of, left, moved_to, range_of, reading, with_names, without_point}
use Rattle.mx_app_gdb.specs.Threads.{goes_by, read_by}

by_is : (s u v : Stub) → u ≡ v → IsSameHistory s v → IsSameHistory s u
by_is s u v e same = subst (λ (x : Stub). IsSameHistory s x) (sym e) same

-- ---- moves

moved_stays : (way : Way) (s : Stub) (slot : ℕ) (others : Bool) (u : Stub) (text : List ℕ) → IsMoved way s slot others u text → IsSameHistory s u
moved_stays way s slot others u text (h, halts, (p, why, gone, e, t)) = by_is s u (moved_to s p why) e refl

gone_stays : (a : Action) (s : Stub) (slot : ℕ) (others : Bool) (u : Stub) (text : List ℕ) → IsGoneBy a s slot others u text → IsSameHistory s u
gone_stays action.Continue s slot others u text m = moved_stays On s slot true u text m
gone_stays action.Step s slot others u text m = moved_stays (Step slot (range_of action.Step)) s slot others u text m
gone_stays (action.StepWithin x y) s slot others u text m = moved_stays (Step slot (range_of (action.StepWithin x y))) s slot others u text m

resumed_stays : (s : Stub) (r : Resume) (o : Option ℕ) (u : Stub) (text : List ℕ) → IsResumed s r o u text → IsSameHistory s u
resumed_stays s r None u text (e, t) = by_is s u s e refl
resumed_stays s r (Some slot) u text m = gone_stays r.first.action s slot r.others u text m

reversed_stays : (b : Bool) (s u : Stub) (text : List ℕ) → IsReversed b s u text → IsSameHistory s u
reversed_stays true s u text m = moved_stays (StepBack (goes_by s.threads)) s (goes_by s.threads) false u text m
reversed_stays false s u text m = moved_stays Back s (goes_by s.threads) true u text m

-- ---- commands

abbrev IsSameWalk : Sight → Sight → Type 0
IsSameWalk s u = u.walker ≡ record s.walker { here = u.walker.here }

sight_by : (s u v : Sight) → u ≡ v → IsSameWalk s v → IsSameWalk s u
sight_by s u v e same = subst (λ (x : Sight). IsSameWalk s x) (sym e) same

halted_stays : (s : Sight) (h : Position × List ℕ) (u : Sight) (text : List ℕ) → IsHalted s h u text → IsSameWalk s u
halted_stays s h u text (e, t) = sight_by s u (record s { walker = record s.walker { here = h.0 } }) e refl

searched_stays : (b : Bool) (IsGone : Sight → Sight → List ℕ → Type 0) (s u : Sight) (text : List ℕ) → (IsGone s u text → IsSameWalk s u) → IsSearchedBy b IsGone s u text → IsSameWalk s u
searched_stays true IsGone s u text f a = f a
searched_stays false IsGone s u text f (e, t) = sight_by s u s e refl

happened_stays : (b : Bool) (s : Sight) (h : Happening) (u : Sight) (text : List ℕ) → IsGoneUntilBackBy b s h u text → IsSameWalk s u
happened_stays true s h u text (at, last, halted) = halted_stays s (at.0, type_note s.walker h ++ at.1) u text halted
happened_stays false s h u text (e, t) = sight_by s u s e refl

made_stays : (s : Sight) (r : Line) (u : Sight) (text : List ℕ) → IsMade s r u text → IsSameWalk s u
made_stays s (line.Point p) u text (e, t) = sight_by s u (record s { points = (point_made s p).1 }) e refl
made_stays s line.Continue u text said = searched_stays (has_points s.points) IsGoneOn s u text (λ a. halted_stays s a.0 u text a.2) said
made_stays s line.Reverse u text said = searched_stays (has_points s.points) IsGoneBack s u text (λ a. halted_stays s a.0 u text a.2) said
made_stays s (line.UntilBack h) u text said = happened_stays (has_slots s.walker h) s h u text said
made_stays s line.Nothing u text (e, t) = sight_by s u (record s { walker = after s.walker line.Nothing }) e refl
made_stays s (line.Forward n) u text (e, t) = sight_by s u (record s { walker = after s.walker (line.Forward n) }) e refl
made_stays s (line.Back n) u text (e, t) = sight_by s u (record s { walker = after s.walker (line.Back n) }) e refl
made_stays s (line.Step n) u text (e, t) = sight_by s u (record s { walker = after s.walker (line.Step n) }) e refl
made_stays s (line.StepBack n) u text (e, t) = sight_by s u (record s { walker = after s.walker (line.StepBack n) }) e refl
made_stays s (line.GoTo p) u text (e, t) = sight_by s u (record s { walker = after s.walker (line.GoTo p) }) e refl
made_stays s (line.Until h) u text (e, t) = sight_by s u (record s { walker = after s.walker (line.Until h) }) e refl
made_stays s line.Where u text (e, t) = sight_by s u (record s { walker = after s.walker line.Where }) e refl
made_stays s line.Why u text (e, t) = sight_by s u (record s { walker = after s.walker line.Why }) e refl
made_stays s line.Processes u text (e, t) = sight_by s u (record s { walker = after s.walker line.Processes }) e refl
made_stays s line.Messages u text (e, t) = sight_by s u (record s { walker = after s.walker line.Messages }) e refl
made_stays s (line.Show q) u text (e, t) = sight_by s u (record s { walker = after s.walker (line.Show q) }) e refl
made_stays s line.Help u text (e, t) = sight_by s u (record s { walker = after s.walker line.Help }) e refl

answered_stays : (s : Sight) (typed : List ℕ) (o : Option Line) (u : Sight) (text : List ℕ) → IsAnsweredBy s typed o u text → IsSameWalk s u
answered_stays s typed None u text (e, t) = sight_by s u s e refl
answered_stays s typed (Some r) u text said = made_stays s r u text said

told_stays : (b : Bool) (s : Sight) (typed : List ℕ) (u : Sight) (text : List ℕ) → IsToldIf b s typed u text → IsSameWalk s u
told_stays true s typed u text (e, t) = sight_by s u s e refl
told_stays false s typed u text said = answered_stays s typed (line_of (world_here s.walker).services typed) u text said

-- ---- processes

reading_stays : (s : Stub) (o : Option ℕ) → IsSameHistory s (reading s o)
reading_stays s None = refl
reading_stays s (Some slot) = refl

either_stays : (s : Stub) (b : Bool) (x y : Stub) → IsSameHistory s x → IsSameHistory s y → IsSameHistory s (cond b x y)
either_stays s true x y one other = one
either_stays s false x y one other = other

going_stays : (s : Stub) (w : Which) → IsSameHistory s (going s w)
going_stays s w = either_stays s (is_some (read_by s.threads w)) (record s { threads = record s.threads { goes = going_of s.threads w } }) s refl refl

-- ---- words

said_stays : (s : Stub) (w : Word) (u : Stub) (reply : Option (List ℕ)) (next : After) → IsRepliedToWord s w u reply next → IsSameHistory s u
said_stays s word.StepBack u reply next (text, moved, said, last) = reversed_stays true s u text moved
said_stays s word.ContinueBack u reply next (text, moved, said, last) = reversed_stays false s u text moved
said_stays s word.WhyHalted u reply next (e, said, last) = by_is s u s e refl
said_stays s word.Registers u reply next (e, said, last) = by_is s u s e refl
said_stays s word.NoAcks u reply next (e, said, last) = by_is s u s e refl
said_stays s word.Threads u reply next (e, said, last) = by_is s u s e refl
said_stays s word.MoreThreads u reply next (e, said, last) = by_is s u s e refl
said_stays s word.Current u reply next (e, said, last) = by_is s u s e refl
said_stays s word.IsAttached u reply next (e, said, last) = by_is s u s e refl
said_stays s word.Actions u reply next (e, said, last) = by_is s u s e refl
said_stays s word.Detach u reply next (e, said, last) = by_is s u s e refl
said_stays s word.End u reply next (e, said, last) = by_is s u s e refl

pub replied_stays : (s u : Stub) (r : Request) (reply : Option (List ℕ)) (next : After) → IsReplied s r u reply next → IsSameHistory s u
replied_stays s u (request.Plain w) reply next said = said_stays s w u reply next said
replied_stays s u (request.Go r) reply next (text, moved, said, last) = resumed_stays s r (read_by s.threads r.first.who) u text moved
replied_stays s u (request.Console typed) reply next (text, (e, told), said, last) = told_stays (ends typed || is_for_gdb (line_of (world_here s.sight.walker).services typed)) s.sight typed u.sight text told
replied_stays s u (request.Supported b) reply next (e, said, last) = by_is s u (with_names s b) e refl
replied_stays s u (request.ForReading w) reply next (e, said, last) = by_is s u (reading s (read_by s.threads w)) e (reading_stays s (read_by s.threads w))
replied_stays s u (request.ForGoing w) reply next (e, said, last) = by_is s u (going s w) e (going_stays s w)
replied_stays s u (request.Insert p a n) reply next (e, said, last) =
    by_is s u (record s { sight = record s.sight { points = (inserted s.sight.walker s.sight.points s.threads.reads p a n).1 } }) e refl
replied_stays s u (request.Remove p a n) reply next (e, said, last) = by_is s u (without_point s p a n) e refl
replied_stays s u (request.DetachFrom n) reply next (e, said, last) = by_is s u (left s n) e refl
replied_stays s u (request.ThreadText w) reply next (e, said, last) = by_is s u s e refl
replied_stays s u (request.Description o n) reply next (e, said, last) = by_is s u s e refl
replied_stays s u (request.File p o n) reply next (e, said, last) = by_is s u s e refl
replied_stays s u (request.IsAlive w) reply next (e, said, last) = by_is s u s e refl
replied_stays s u (request.Register n) reply next (e, said, last) = by_is s u s e refl
replied_stays s u (request.Memory a n) reply next (e, said, last) = by_is s u s e refl
replied_stays s u request.Write reply next (e, said, last) = by_is s u s e refl
replied_stays s u request.Malformed reply next (e, said, last) = by_is s u s e refl
replied_stays s u request.Unknown reply next (e, said, last) = by_is s u s e refl
