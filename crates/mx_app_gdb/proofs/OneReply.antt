-- A request has one reply, and leaves one thing in hand: checkpoints don't matter, nor where names are kept.
use Rattle.std.proofs.Common.{◌≡◌, ◌∙◌, ◌||◌, ℕ, Bool, true, false, List, Option, Some, None, Vec, Global, [], is_some, map, cond, refl, ap, ap₂, sym, subst}
use Rattle.hex.specs.Hex.{encode_lower}
use Rattle.mx_rsp.specs.Replies.{stop_text}
use Rattle.mx_rsp.specs.declared.fields.Which.{Which}
use Rattle.mx_rsp.specs.declared.moves.Action.{Action}
use Rattle.mx_rsp.specs.declared.moves.Action.TheVariants as action
use Rattle.mx_rsp.specs.declared.moves.Resume.{Resume}
use Rattle.mx_rsp.specs.declared.request.Request.{Request}
use Rattle.mx_rsp.specs.declared.request.Request.TheVariants as request
use Rattle.mx_rsp.specs.declared.words.Word.{Word}
use Rattle.mx_rsp.specs.declared.words.Word.TheVariants as word
use Rattle.mx_walk.specs.Positions.{IsPosition}
use Rattle.mx_walk.specs.Walks.{world_here}
use Rattle.mx_app_look.specs.declared.points.Points.{Points}
use Rattle.mx_app_look.specs.declared.request.Request.{Request as Line}
use Rattle.mx_app_look.specs.declared.request.Request.TheVariants as line
use Rattle.mx_app_look.specs.declared.sight.Sight.{Sight}
use Rattle.mx_app_look.specs.Changes.{as_seen, seen_in}
use Rattle.mx_app_look.specs.Places.{place_text}
use Rattle.mx_app_look.specs.Requests.{ends, request_of as line_of}
use Rattle.mx_app_look.specs.Sessions.{IsAnsweredBy}
use Rattle.mx_app_gdb.specs.declared.halts.Halts.{Halts}
use Rattle.mx_app_gdb.specs.declared.replying.After.{After}
use Rattle.mx_app_gdb.specs.declared.replying.Way.{Way}
use Rattle.mx_app_gdb.specs.declared.replying.Way.TheVariants.{Back, On, Step, StepBack}
use Rattle.mx_app_gdb.specs.declared.stub.Stub.{Stub}
use Rattle.mx_app_gdb.specs.declared.threads.Counted.{Counted}
use Rattle.mx_app_gdb.specs.declared.threads.Threads.{Threads}
use Rattle.mx_app_gdb.specs.Console.{for_gdb_text, is_for_gdb}
use Rattle.mx_app_gdb.specs.Moves.{Halt}
use Rattle.mx_app_gdb.specs.Points.{counted_points}
use Rattle.mx_app_gdb.specs.Replied.{AreHalts, IsConsoled, IsGone, IsGoneBy, IsMoved, IsReplied, IsRepliedToWord, IsResumed, IsReversed, IsToldIf, files_of, going, going_of, moved_to, range_of, reading, world_of_stub}
use Rattle.mx_app_gdb.specs.Replies.{file_text}
use Rattle.mx_app_gdb.specs.Stops.{stop_at}
use Rattle.mx_app_gdb.specs.Threads.{goes_by, read_by}
use Rattle.mx_app_gdb.proofs.OneHalt.{one_gone, way_same}
use Rattle.mx_app_gdb.proofs.Passed.{bare, unmarked}

-- ---- the same stub without checkpoints, with its names in another vector

abbrev pub Files : Type 0
Files = Vec (Vec ℕ Global) Global

abbrev pub plain : Files → Stub → Stub
plain fs s = record s { sight = bare s.sight; files = fs }

-- ---- moves

-- where a halt leads, and what is said there
abbrev led : Stub → Halt → Stub
led z (p, Some why) = moved_to z p why
led z (p, None) = z

abbrev said_of : Stub → Stub → Halt → List ℕ
said_of z u (p, Some why) = stop_text (stop_at (world_of_stub u) z.threads why)
said_of z u (p, None) = []

module _ (fs : Files) where
  moved_plain : (way : Way) (s : Stub) (slot : ℕ) (others : Bool) (u : Stub) (text : List ℕ) → IsMoved way s slot others u text → IsMoved way (plain fs s) slot others (plain fs u) text
  moved_plain way s slot others u text (h, halts, (p, why, gone, e, t)) = (
    h,
    record { threads = halts.threads; only = halts.only; points = halts.points; seen = halts.seen; mover = halts.mover },
    (p, why, way_same s.sight.walker h h.seen refl way (p, Some why) gone, ap (plain fs) e, t),
  )

module _ (z : Stub) (ready : IsPosition z.sight.walker.records z.sight.walker.last) where
  module _ (slot : ℕ) (others : Bool) (h g : Halts) (a : AreHalts z slot others h) (b : AreHalts z slot others g) where
    same_counted : h.counted ≡ g.counted
    same_counted = ap₂ (λ (t : Threads) (o : Option ℕ). let c : Counted = record { threads = t; only = o } in c) (a.threads ∙ sym b.threads) (a.only ∙ sym b.only)

    same_points : h.points ≡ g.points
    same_points = a.points ∙ ap (λ (c : Counted). counted_points z.sight.points c) same_counted ∙ sym b.points

    same_seen : map as_seen h.seen.items ≡ map as_seen g.seen.items
    same_seen = a.seen ∙ ap (λ (x : Points). map (seen_in (world_of_stub z)) x.watches) same_points ∙ sym b.seen

    same_halts : h ≡ record g { seen = h.seen }
    same_halts =
        ap (λ (c : Counted). let x : Halts = record { points = h.points; seen = h.seen; counted = c; mover = h.mover } in x) same_counted
        ∙ ap (λ (s : Points). let x : Halts = record { points = s; seen = h.seen; counted = g.counted; mover = h.mover } in x) same_points
        ∙ ap (λ (m : ℕ). let x : Halts = record { points = g.points; seen = h.seen; counted = g.counted; mover = m } in x) (a.mover ∙ sym b.mover)

    same_gone : (way : Way) (r t : Halt) → IsGone way z.sight.walker h r → IsGone way z.sight.walker g t → r ≡ t
    same_gone way r t x y =
        let k = z.sight.walker in
        one_gone (unmarked k) g ready way r t
        (way_same k g h.seen same_seen way r (subst (λ (i : Halts). IsGone way k i r) same_halts x)) (way_same k g g.seen refl way t y)

  one_moved : (way : Way) (slot : ℕ) (others : Bool) (u w : Stub) (t r : List ℕ) → IsMoved way z slot others u t → IsMoved way z slot others w r → (u ≡ w) × (t ≡ r)
  one_moved way slot others u w t r (h, are, (p, why, go, e, text)) (g, be, (q, also, gone, i, too)) =
      let same = same_gone slot others h g are be way (p, Some why) (q, Some also) go gone in
      let both : u ≡ w = e ∙ ap (λ (x : Halt). led z x) same ∙ sym i in
      (both, text ∙ ap₂ (λ (y : Stub) (x : Halt). said_of z y x) both same ∙ sym too)

  one_gone_by : (a : Action) (slot : ℕ) (others : Bool) (u w : Stub) (t r : List ℕ) → IsGoneBy a z slot others u t → IsGoneBy a z slot others w r → (u ≡ w) × (t ≡ r)
  one_gone_by action.Continue slot others u w t r a b = one_moved On slot true u w t r a b
  one_gone_by action.Step slot others u w t r a b = one_moved (Step slot (range_of action.Step)) slot others u w t r a b
  one_gone_by (action.StepWithin x y) slot others u w t r a b = one_moved (Step slot (range_of (action.StepWithin x y))) slot others u w t r a b

  one_resumed : (q : Resume) (o : Option ℕ) (u w : Stub) (t r : List ℕ) → IsResumed z q o u t → IsResumed z q o w r → (u ≡ w) × (t ≡ r)
  one_resumed q None u w t r a b = (a.0 ∙ sym b.0, a.1 ∙ sym b.1)
  one_resumed q (Some slot) u w t r a b = one_gone_by q.first.action slot q.others u w t r a b

  one_reversed : (c : Bool) (u w : Stub) (t r : List ℕ) → IsReversed c z u t → IsReversed c z w r → (u ≡ w) × (t ≡ r)
  one_reversed true u w t r a b = one_moved (StepBack (goes_by z.threads)) (goes_by z.threads) false u w t r a b
  one_reversed false u w t r a b = one_moved Back (goes_by z.threads) true u w t r a b

module _ (fs : Files) where
  gone_plain : (a : Action) (s : Stub) (slot : ℕ) (others : Bool) (u : Stub) (t : List ℕ) → IsGoneBy a s slot others u t → IsGoneBy a (plain fs s) slot others (plain fs u) t
  gone_plain action.Continue s slot others u t m = moved_plain fs On s slot true u t m
  gone_plain action.Step s slot others u t m = moved_plain fs (Step slot (range_of action.Step)) s slot others u t m
  gone_plain (action.StepWithin x y) s slot others u t m = moved_plain fs (Step slot (range_of (action.StepWithin x y))) s slot others u t m

  resumed_plain : (s : Stub) (q : Resume) (o : Option ℕ) (u : Stub) (t : List ℕ) → IsResumed s q o u t → IsResumed (plain fs s) q o (plain fs u) t
  resumed_plain s q None u t m = (ap (plain fs) m.0, m.1)
  resumed_plain s q (Some slot) u t m = gone_plain q.first.action s slot q.others u t m

  reversed_plain : (c : Bool) (s u : Stub) (t : List ℕ) → IsReversed c s u t → IsReversed c (plain fs s) (plain fs u) t
  reversed_plain true s u t m = moved_plain fs (StepBack (goes_by s.threads)) s (goes_by s.threads) false u t m
  reversed_plain false s u t m = moved_plain fs Back s (goes_by s.threads) true u t m

-- ---- commands

abbrev Told : Option Line → Bool → Sight → List ℕ → Sight → List ℕ → Type 0
Told q true s typed u text = (u ≡ s) × (text ≡ for_gdb_text)
Told q false s typed u text = IsAnsweredBy s typed q u text

-- what a line asks for where one is
abbrev asked : Sight → List ℕ → Option Line
asked s typed = line_of (world_here s.walker).services typed

as_told : (b : Bool) (s : Sight) (typed : List ℕ) (u : Sight) (text : List ℕ) → IsToldIf b s typed u text → Told (asked s typed) b s typed u text
as_told true s typed u text t = t
as_told false s typed u text t = t

of_told : (b : Bool) (s : Sight) (typed : List ℕ) (u : Sight) (text : List ℕ) → Told (asked s typed) b s typed u text → IsToldIf b s typed u text
of_told true s typed u text t = t
of_told false s typed u text t = t

told_plain : (q : Option Line) (s : Sight) (typed : List ℕ) (u : Sight) (text : List ℕ) → Told q (is_for_gdb q) s typed u text → Told q (is_for_gdb q) (bare s) typed (bare u) text
unfolding place_text
told_plain None s typed u text a = (ap bare a.0, a.1)
told_plain (Some line.Nothing) s typed u text a = (ap bare a.0, a.1)
told_plain (Some (line.Forward n)) s typed u text a = (ap bare a.0, a.1)
told_plain (Some (line.Back n)) s typed u text a = (ap bare a.0, a.1)
told_plain (Some (line.Step n)) s typed u text a = (ap bare a.0, a.1)
told_plain (Some (line.StepBack n)) s typed u text a = (ap bare a.0, a.1)
told_plain (Some (line.GoTo p)) s typed u text a = (ap bare a.0, a.1)
told_plain (Some (line.Point p)) s typed u text a = (ap bare a.0, a.1)
told_plain (Some line.Continue) s typed u text a = (ap bare a.0, a.1)
told_plain (Some line.Reverse) s typed u text a = (ap bare a.0, a.1)
told_plain (Some (line.Until h)) s typed u text a = (ap bare a.0, a.1)
told_plain (Some (line.UntilBack h)) s typed u text a = (ap bare a.0, a.1)
told_plain (Some line.Where) s typed u text a = (ap bare a.0, a.1)
told_plain (Some line.Why) s typed u text a = (ap bare a.0, a.1)
told_plain (Some line.Processes) s typed u text a = (ap bare a.0, a.1)
told_plain (Some line.Messages) s typed u text a = (ap bare a.0, a.1)
told_plain (Some (line.Show p)) s typed u text a = (ap bare a.0, a.1)
told_plain (Some line.Help) s typed u text a = (ap bare a.0, a.1)

told_plain_if : (e : Bool) (q : Option Line) (s : Sight) (typed : List ℕ) (u : Sight) (text : List ℕ)
    → Told q (e || is_for_gdb q) s typed u text → Told q (e || is_for_gdb q) (bare s) typed (bare u) text
told_plain_if true q s typed u text a = (ap bare a.0, a.1)
told_plain_if false q s typed u text a = told_plain q s typed u text a

one_told : (q : Option Line) (s : Sight) (typed : List ℕ) (u w : Sight) (t r : List ℕ) → Told q (is_for_gdb q) s typed u t → Told q (is_for_gdb q) s typed w r → (u ≡ w) × (t ≡ r)
one_told None s typed u w t r a b = (a.0 ∙ sym b.0, a.1 ∙ sym b.1)
one_told (Some line.Nothing) s typed u w t r a b = (a.0 ∙ sym b.0, a.1 ∙ sym b.1)
one_told (Some (line.Forward n)) s typed u w t r a b = (a.0 ∙ sym b.0, a.1 ∙ sym b.1)
one_told (Some (line.Back n)) s typed u w t r a b = (a.0 ∙ sym b.0, a.1 ∙ sym b.1)
one_told (Some (line.Step n)) s typed u w t r a b = (a.0 ∙ sym b.0, a.1 ∙ sym b.1)
one_told (Some (line.StepBack n)) s typed u w t r a b = (a.0 ∙ sym b.0, a.1 ∙ sym b.1)
one_told (Some (line.GoTo p)) s typed u w t r a b = (a.0 ∙ sym b.0, a.1 ∙ sym b.1)
one_told (Some (line.Point p)) s typed u w t r a b = (a.0 ∙ sym b.0, a.1 ∙ sym b.1)
one_told (Some line.Continue) s typed u w t r a b = (a.0 ∙ sym b.0, a.1 ∙ sym b.1)
one_told (Some line.Reverse) s typed u w t r a b = (a.0 ∙ sym b.0, a.1 ∙ sym b.1)
one_told (Some (line.Until h)) s typed u w t r a b = (a.0 ∙ sym b.0, a.1 ∙ sym b.1)
one_told (Some (line.UntilBack h)) s typed u w t r a b = (a.0 ∙ sym b.0, a.1 ∙ sym b.1)
one_told (Some line.Where) s typed u w t r a b = (a.0 ∙ sym b.0, a.1 ∙ sym b.1)
one_told (Some line.Why) s typed u w t r a b = (a.0 ∙ sym b.0, a.1 ∙ sym b.1)
one_told (Some line.Processes) s typed u w t r a b = (a.0 ∙ sym b.0, a.1 ∙ sym b.1)
one_told (Some line.Messages) s typed u w t r a b = (a.0 ∙ sym b.0, a.1 ∙ sym b.1)
one_told (Some (line.Show p)) s typed u w t r a b = (a.0 ∙ sym b.0, a.1 ∙ sym b.1)
one_told (Some line.Help) s typed u w t r a b = (a.0 ∙ sym b.0, a.1 ∙ sym b.1)

one_told_if : (e : Bool) (q : Option Line) (s : Sight) (typed : List ℕ) (u w : Sight) (t r : List ℕ)
    → Told q (e || is_for_gdb q) s typed u t → Told q (e || is_for_gdb q) s typed w r → (u ≡ w) × (t ≡ r)
one_told_if true q s typed u w t r a b = (a.0 ∙ sym b.0, a.1 ∙ sym b.1)
one_told_if false q s typed u w t r a b = one_told q s typed u w t r a b

module _ (fs : Files) where
  consoled_plain : (s : Stub) (typed : List ℕ) (u : Stub) (t : List ℕ) → IsConsoled s typed u t → IsConsoled (plain fs s) typed (plain fs u) t
  consoled_plain s typed u t (e, told) =
      let q = asked s.sight typed in
      let b = ends typed || is_for_gdb q in
      (ap (plain fs) e, of_told b (bare s.sight) typed (bare u.sight) t (told_plain_if (ends typed) q s.sight typed u.sight t (as_told b s.sight typed u.sight t told)))

one_consoled : (z : Stub) (typed : List ℕ) (u w : Stub) (t r : List ℕ) → IsConsoled z typed u t → IsConsoled z typed w r → (u ≡ w) × (t ≡ r)
one_consoled z typed u w t r (e, told) (i, too) =
    let q = asked z.sight typed in
    let b = ends typed || is_for_gdb q in
    let both = one_told_if (ends typed) q z.sight typed u.sight w.sight t r (as_told b z.sight typed u.sight t told) (as_told b z.sight typed w.sight r too) in
    (e ∙ ap (λ (x : Sight). let y : Stub = record z { sight = x } in y) both.0 ∙ sym i, both.1)

-- ---- processes

module _ (fs : Files) where
  reading_plain : (s : Stub) (o : Option ℕ) → plain fs (reading s o) ≡ reading (plain fs s) o
  reading_plain s None = refl
  reading_plain s (Some slot) = refl

  either_plain : (b : Bool) (x y : Stub) → plain fs (cond b x y) ≡ cond b (plain fs x) (plain fs y)
  either_plain true x y = refl
  either_plain false x y = refl

  going_plain : (s : Stub) (w : Which) → plain fs (going s w) ≡ going (plain fs s) w
  going_plain s w = either_plain (is_some (read_by s.threads w)) (record s { threads = record s.threads { goes = going_of s.threads w } }) s

  -- ---- EACH REQUEST

  word_plain : (s : Stub) (w : Word) (u : Stub) (reply : Option (List ℕ)) (next : After) → IsRepliedToWord s w u reply next → IsRepliedToWord (plain fs s) w (plain fs u) reply next
  word_plain s word.StepBack u reply next (text, moved, said, last) = (text, reversed_plain fs true s u text moved, said, last)
  word_plain s word.ContinueBack u reply next (text, moved, said, last) = (text, reversed_plain fs false s u text moved, said, last)
  word_plain s word.WhyHalted u reply next (e, said, last) = (ap (plain fs) e, said, last)
  word_plain s word.Registers u reply next (e, said, last) = (ap (plain fs) e, said, last)
  word_plain s word.NoAcks u reply next (e, said, last) = (ap (plain fs) e, said, last)
  word_plain s word.Threads u reply next (e, said, last) = (ap (plain fs) e, said, last)
  word_plain s word.MoreThreads u reply next (e, said, last) = (ap (plain fs) e, said, last)
  word_plain s word.Current u reply next (e, said, last) = (ap (plain fs) e, said, last)
  word_plain s word.IsAttached u reply next (e, said, last) = (ap (plain fs) e, said, last)
  word_plain s word.Actions u reply next (e, said, last) = (ap (plain fs) e, said, last)
  word_plain s word.Detach u reply next (e, said, last) = (ap (plain fs) e, said, last)
  word_plain s word.End u reply next (e, said, last) = (ap (plain fs) e, said, last)

  pub replied_plain : (s u : Stub) (q : Request) (reply : Option (List ℕ)) (next : After) → files_of s ≡ map (λ (f : Vec ℕ Global). f.items) fs.items → IsReplied s q u reply next
      → IsReplied (plain fs s) q (plain fs u) reply next
  replied_plain s u (request.Plain w) reply next names said = word_plain s w u reply next said
  replied_plain s u (request.Go r) reply next names (text, moved, said, last) = (text, resumed_plain fs s r (read_by s.threads r.first.who) u text moved, said, last)
  replied_plain s u (request.Console typed) reply next names (text, told, said, last) = (text, consoled_plain fs s typed u text told, said, last)
  replied_plain s u (request.Supported b) reply next names (e, said, last) = (ap (plain fs) e, said, last)
  replied_plain s u (request.ForReading w) reply next names (e, said, last) = (ap (plain fs) e ∙ reading_plain s (read_by s.threads w), said, last)
  replied_plain s u (request.ForGoing w) reply next names (e, said, last) = (ap (plain fs) e ∙ going_plain s w, said, last)
  replied_plain s u (request.Insert p a n) reply next names (e, said, last) = (ap (plain fs) e, said, last)
  replied_plain s u (request.Remove p a n) reply next names (e, said, last) = (ap (plain fs) e, said, last)
  replied_plain s u (request.DetachFrom n) reply next names (e, said, last) = (ap (plain fs) e, said, last)
  replied_plain s u (request.ThreadText w) reply next names (e, said, last) = (ap (plain fs) e, said, last)
  replied_plain s u (request.Description o n) reply next names (e, said, last) = (ap (plain fs) e, said, last)
  replied_plain s u (request.File p o n) reply next names (e, said, last) =
      (ap (plain fs) e, said ∙ ap (λ (ns : List (List ℕ)). Some (file_text ns s.threads p o n)) names, last)
  replied_plain s u (request.IsAlive w) reply next names (e, said, last) = (ap (plain fs) e, said, last)
  replied_plain s u (request.Register n) reply next names (e, said, last) = (ap (plain fs) e, said, last)
  replied_plain s u (request.Memory a n) reply next names (e, said, last) = (ap (plain fs) e, said, last)
  replied_plain s u request.Write reply next names (e, said, last) = (ap (plain fs) e, said, last)
  replied_plain s u request.Malformed reply next names (e, said, last) = (ap (plain fs) e, said, last)
  replied_plain s u request.Unknown reply next names (e, said, last) = (ap (plain fs) e, said, last)

module _ (z : Stub) (ready : IsPosition z.sight.walker.records z.sight.walker.last) (u w : Stub) (a b : Option (List ℕ)) (n m : After) where
  abbrev Alike : Type 0
  Alike = (u ≡ w) × (a ≡ b) × (n ≡ m)

  by_text : (x : Stub) (t : Option (List ℕ)) (f : After) → (u ≡ x) × (a ≡ t) × (n ≡ f) → (w ≡ x) × (b ≡ t) × (m ≡ f) → Alike
  by_text x t f one other = (one.0 ∙ sym other.0, one.1 ∙ sym other.1, one.2 ∙ sym other.2)

  by_move : (f : After) (g : List ℕ → Option (List ℕ)) (t r : List ℕ) → (u ≡ w) × (t ≡ r) → a ≡ g t → b ≡ g r → n ≡ f → m ≡ f → Alike
  by_move f g t r both said too last also = (both.0, said ∙ ap g both.1 ∙ sym too, last ∙ sym also)

  one_word : (q : Word) → IsRepliedToWord z q u a n → IsRepliedToWord z q w b m → Alike
  one_word word.StepBack (t, moved, said, last) (r, also, too, end) = by_move _ (λ x. Some x) t r (one_reversed z ready true u w t r moved also) said too last end
  one_word word.ContinueBack (t, moved, said, last) (r, also, too, end) = by_move _ (λ x. Some x) t r (one_reversed z ready false u w t r moved also) said too last end
  one_word word.WhyHalted one other = by_text _ _ _ one other
  one_word word.Registers one other = by_text _ _ _ one other
  one_word word.NoAcks one other = by_text _ _ _ one other
  one_word word.Threads one other = by_text _ _ _ one other
  one_word word.MoreThreads one other = by_text _ _ _ one other
  one_word word.Current one other = by_text _ _ _ one other
  one_word word.IsAttached one other = by_text _ _ _ one other
  one_word word.Actions one other = by_text _ _ _ one other
  one_word word.Detach one other = by_text _ _ _ one other
  one_word word.End one other = by_text _ _ _ one other

  pub one_reply : (q : Request) → IsReplied z q u a n → IsReplied z q w b m → Alike
  one_reply (request.Plain q) one other = one_word q one other
  one_reply (request.Go r) (t, moved, said, last) (x, also, too, end) =
      by_move _ (λ y. Some y) t x (one_resumed z ready r (read_by z.threads r.first.who) u w t x moved also) said too last end
  one_reply (request.Console typed) (t, told, said, last) (x, also, too, end) =
      by_move _ (λ y. Some (encode_lower y)) t x (one_consoled z typed u w t x told also) said too last end
  one_reply (request.Supported c) one other = by_text _ _ _ one other
  one_reply (request.ForReading c) one other = by_text _ _ _ one other
  one_reply (request.ForGoing c) one other = by_text _ _ _ one other
  one_reply (request.Insert p i c) one other = by_text _ _ _ one other
  one_reply (request.Remove p i c) one other = by_text _ _ _ one other
  one_reply (request.DetachFrom c) one other = by_text _ _ _ one other
  one_reply (request.ThreadText c) one other = by_text _ _ _ one other
  one_reply (request.Description o c) one other = by_text _ _ _ one other
  one_reply (request.File p o c) one other = by_text _ _ _ one other
  one_reply (request.IsAlive c) one other = by_text _ _ _ one other
  one_reply (request.Register c) one other = by_text _ _ _ one other
  one_reply (request.Memory i c) one other = by_text _ _ _ one other
  one_reply request.Write one other = by_text _ _ _ one other
  one_reply request.Malformed one other = by_text _ _ _ one other
  one_reply request.Unknown one other = by_text _ _ _ one other
