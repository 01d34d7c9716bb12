-- A talk has one text.
use Rattle.std.proofs.Common.{◌≡◌, ◌∙◌, ◌^◌, ◌-◌, ◌++◌, ℕ, suc, Bool, true, false, List, [], ◌∷◌, codes, Option, Some, None, Vec, Global, map, refl, ap, ap₂, sym, subst}
use Rattle.mx_machine.specs.declared.history.Record.{Record}
use Rattle.mx_machine.specs.World.{World}
use Rattle.mx_rsp.specs.declared.fields.Which.{Which}
use Rattle.mx_rsp.specs.declared.hearing.Heard.{Heard}
use Rattle.mx_rsp.specs.declared.hearing.Heard.TheVariants.{Again, Nothing, Packet, TooLong, Wrong}
use Rattle.mx_rsp.specs.declared.moves.Action.{Action}
use Rattle.mx_rsp.specs.declared.moves.Action.TheVariants as action
use Rattle.mx_rsp.specs.declared.moves.Resume.{Resume}
use Rattle.mx_rsp.specs.declared.request.Request.{Request}
use Rattle.mx_rsp.specs.declared.request.Request.TheVariants as request
use Rattle.mx_rsp.specs.declared.words.Word.{Word}
use Rattle.mx_rsp.specs.declared.words.Word.TheVariants as word
use Rattle.mx_rsp.specs.Hearing.{heard_of, reading_after}
use Rattle.mx_rsp.specs.Requests.{request_of}
use Rattle.mx_walk.specs.Positions.{IsPosition}
use Rattle.mx_walk.specs.Walks.{Walk}
use Rattle.mx_walk.proofs.Naming.{last_is_unique}
use Rattle.mx_app_look.specs.declared.sight.Sight.{Sight}
use Rattle.mx_app_look.specs.Sessions.{IsBegun}
use Rattle.mx_app_step.specs.Config.{Config}
use Rattle.mx_app_gdb.specs.declared.replying.After.{After}
use Rattle.mx_app_gdb.specs.declared.replying.After.TheVariants.{More, NoAcks, Over}
use Rattle.mx_app_gdb.specs.declared.replying.Way.{Way}
use Rattle.mx_app_gdb.specs.declared.replying.Way.TheVariants.{Back, On, Step, StepBack}
use Rattle.mx_app_gdb.specs.declared.stub.Stub.{Stub}
use Rattle.mx_app_gdb.specs.declared.talking.Talk.{Talk}
use Rattle.mx_app_gdb.specs.declared.threads.Threads.{Threads}
use Rattle.mx_app_gdb.specs.Replied.{IsGoneBy, IsMoved, IsReplied, IsRepliedToWord, IsResumed, IsReversed, files_of, going, going_of, range_of, reading}
use Rattle.mx_app_gdb.specs.Talks.{IsAnswered, IsByteHeard, IsHeardAs, IsLeft, IsTalk, IsTalkBegun, IsTalkOf, if_acks, last_of, read_to, reply_text}
use Rattle.mx_app_gdb.specs.Threads.{goes_by, read_by}
use Rattle.mx_app_gdb.proofs.OneReply.{Files, one_reply, plain, replied_plain}
use Rattle.mx_app_gdb.proofs.Remaining.{replied_stays}
use Rattle.std.specs.Prelude.{is_some, if◌then◌else◌}
use Rattle.mx_app_gdb.proofs.Passed.{bare, same_walk, unmarked}

-- ---- no request changes the files

files_by : (s u v : Stub) → u ≡ v → v.files ≡ s.files → u.files ≡ s.files
files_by s u v e same = ap (λ (x : Stub). x.files) e ∙ same

moved_files : (way : Way) (s : Stub) (slot : ℕ) (others : Bool) (u : Stub) (t : List ℕ) → IsMoved way s slot others u t → u.files ≡ s.files
moved_files way s slot others u t (h, halts, (p, why, gone, e, said)) = ap (λ (x : Stub). x.files) e

gone_files : (a : Action) (s : Stub) (slot : ℕ) (others : Bool) (u : Stub) (t : List ℕ) → IsGoneBy a s slot others u t → u.files ≡ s.files
gone_files action.Continue s slot others u t m = moved_files On s slot true u t m
gone_files action.Step s slot others u t m = moved_files (Step slot (range_of action.Step)) s slot others u t m
gone_files (action.StepWithin x y) s slot others u t m = moved_files (Step slot (range_of (action.StepWithin x y))) s slot others u t m

resumed_files : (s : Stub) (q : Resume) (o : Option ℕ) (u : Stub) (t : List ℕ) → IsResumed s q o u t → u.files ≡ s.files
resumed_files s q None u t m = ap (λ (x : Stub). x.files) m.0
resumed_files s q (Some slot) u t m = gone_files q.first.action s slot q.others u t m

reversed_files : (c : Bool) (s u : Stub) (t : List ℕ) → IsReversed c s u t → u.files ≡ s.files
reversed_files true s u t m = moved_files (StepBack (goes_by s.threads)) s (goes_by s.threads) false u t m
reversed_files false s u t m = moved_files Back s (goes_by s.threads) true u t m

reading_files : (s : Stub) (o : Option ℕ) → (let u = reading s o in u.files ≡ s.files)
reading_files s None = refl
reading_files s (Some slot) = refl

either_files : (s : Stub) (b : Bool) (x y : Stub) → x.files ≡ s.files → y.files ≡ s.files → (let u : Stub = (if b then x else y) in u.files ≡ s.files)
either_files s true x y one other = one
either_files s false x y one other = other

going_files : (s : Stub) (w : Which) → (let u = going s w in u.files ≡ s.files)
going_files s w = either_files s (is_some (read_by s.threads w)) (record s { threads = record s.threads { goes = going_of s.threads w } }) s refl refl

word_files : (s : Stub) (w : Word) (u : Stub) (reply : Option (List ℕ)) (next : After) → IsRepliedToWord s w u reply next → u.files ≡ s.files
word_files s word.StepBack u reply next (text, moved, said, last) = reversed_files true s u text moved
word_files s word.ContinueBack u reply next (text, moved, said, last) = reversed_files false s u text moved
word_files s word.WhyHalted u reply next h = ap (λ (x : Stub). x.files) h.0
word_files s word.Registers u reply next h = ap (λ (x : Stub). x.files) h.0
word_files s word.NoAcks u reply next h = ap (λ (x : Stub). x.files) h.0
word_files s word.Threads u reply next h = ap (λ (x : Stub). x.files) h.0
word_files s word.MoreThreads u reply next h = ap (λ (x : Stub). x.files) h.0
word_files s word.Current u reply next h = ap (λ (x : Stub). x.files) h.0
word_files s word.IsAttached u reply next h = ap (λ (x : Stub). x.files) h.0
word_files s word.Actions u reply next h = ap (λ (x : Stub). x.files) h.0
word_files s word.Detach u reply next h = ap (λ (x : Stub). x.files) h.0
word_files s word.End u reply next h = ap (λ (x : Stub). x.files) h.0

replied_files : (s u : Stub) (q : Request) (reply : Option (List ℕ)) (next : After) → IsReplied s q u reply next → u.files ≡ s.files
replied_files s u (request.Plain w) reply next said = word_files s w u reply next said
replied_files s u (request.Go r) reply next (text, moved, said, last) = resumed_files s r (read_by s.threads r.first.who) u text moved
replied_files s u (request.Console typed) reply next (text, told, said, last) = ap (λ (x : Stub). x.files) told.0
replied_files s u (request.Supported b) reply next h = ap (λ (x : Stub). x.files) h.0
replied_files s u (request.ForReading w) reply next h = ap (λ (x : Stub). x.files) h.0 ∙ reading_files s (read_by s.threads w)
replied_files s u (request.ForGoing w) reply next h = ap (λ (x : Stub). x.files) h.0 ∙ going_files s w
replied_files s u (request.Insert p a n) reply next h = ap (λ (x : Stub). x.files) h.0
replied_files s u (request.Remove p a n) reply next h = ap (λ (x : Stub). x.files) h.0
replied_files s u (request.DetachFrom n) reply next h = ap (λ (x : Stub). x.files) h.0
replied_files s u (request.ThreadText w) reply next h = ap (λ (x : Stub). x.files) h.0
replied_files s u (request.Description o n) reply next h = ap (λ (x : Stub). x.files) h.0
replied_files s u (request.File p o n) reply next h = ap (λ (x : Stub). x.files) h.0
replied_files s u (request.IsAlive w) reply next h = ap (λ (x : Stub). x.files) h.0
replied_files s u (request.Register n) reply next h = ap (λ (x : Stub). x.files) h.0
replied_files s u (request.Memory a n) reply next h = ap (λ (x : Stub). x.files) h.0
replied_files s u request.Write reply next h = ap (λ (x : Stub). x.files) h.0
replied_files s u request.Malformed reply next h = ap (λ (x : Stub). x.files) h.0
replied_files s u request.Unknown reply next h = ap (λ (x : Stub). x.files) h.0

-- ---- two talks that have the same in hand, but for checkpoints

abbrev names : Files → List (List ℕ)
names fs = map (λ (f : Vec ℕ Global). f.items) fs.items

record AreSame (fs : Files) (t u : Talk) : Type 0 where
  stub : plain fs t.stub ≡ plain fs u.stub
  one : files_of t.stub ≡ names fs
  other : files_of u.stub ≡ names fs
  ready : IsPosition t.stub.sight.walker.records t.stub.sight.walker.last
  reader : t.reader ≡ u.reader
  acks : t.acks ≡ u.acks
  last : t.last.items ≡ u.last.items

abbrev AreBoth : Files → Option Talk → Option Talk → Type 0
AreBoth fs None None = Unit {0}
AreBoth fs (Some t) (Some u) = AreSame fs t u
AreBoth fs None (Some u) = ⊥
AreBoth fs (Some t) None = ⊥

module _ (fs : Files) where
  both_are : (o p x y : Option Talk) → o ≡ x → p ≡ y → AreBoth fs x y → AreBoth fs o p
  both_are o p x y e i h = subst (λ z. AreBoth fs z p) (sym e) (subst (λ z. AreBoth fs x z) (sym i) h)

  module _ (t u : Talk) (same : AreSame fs t u) where
    module _ (s v : Stub) (a b : Option (List ℕ)) (stub : plain fs s ≡ plain fs v) (one : files_of s ≡ names fs) (other : files_of v ≡ names fs)
        (ready : IsPosition s.sight.walker.records s.sight.walker.last) (said : a ≡ b) where
      both_left : (n : After) (o p : Option Talk) → IsLeft t s a n o → IsLeft u v b n p → AreBoth fs o p
      both_left Over o p e i = both_are o p None None e i tt
      both_left More o p (x, e, its, reader, acks, last) (y, i, too, r, c, l) = both_are o p (Some x) (Some y) e i (record {
        stub = ap (plain fs) its ∙ stub ∙ sym (ap (plain fs) too);
        one = ap files_of its ∙ one;
        other = ap files_of too ∙ other;
        ready = subst (λ (z : Stub). IsPosition z.sight.walker.records z.sight.walker.last) (sym its) ready;
        reader = reader ∙ same.reader ∙ sym r;
        acks = acks ∙ same.acks ∙ sym c;
        last = last ∙ ap₂ (λ (z : List ℕ) (w : Option (List ℕ)). last_of z w) same.last said ∙ sym l;
      })
      both_left NoAcks o p (x, e, its, reader, acks, last) (y, i, too, r, c, l) = both_are o p (Some x) (Some y) e i (record {
        stub = ap (plain fs) its ∙ stub ∙ sym (ap (plain fs) too);
        one = ap files_of its ∙ one;
        other = ap files_of too ∙ other;
        ready = subst (λ (z : Stub). IsPosition z.sight.walker.records z.sight.walker.last) (sym its) ready;
        reader = reader ∙ same.reader ∙ sym r;
        acks = acks ∙ sym c;
        last = last ∙ ap₂ (λ (z : List ℕ) (w : Option (List ℕ)). last_of z w) same.last said ∙ sym l;
      })

    one_answer : (payload : List ℕ) (o p : Option Talk) (a b : List ℕ) → IsAnswered t payload o a → IsAnswered u payload p b → (a ≡ b) × AreBoth fs o p
    one_answer payload o p a b (s, reply, next, said, left, is) (v, answer, after, also, rest, too) =
        let q = request_of payload in
        let mine = replied_plain fs t.stub s q reply next same.one said in
        let others = replied_plain fs u.stub v q answer after same.other also in
        let alike = one_reply (plain fs t.stub) same.ready (plain fs s) (plain fs v) reply answer next after q mine
        (subst (λ (z : Stub). IsReplied z q (plain fs v) answer after) (sym same.stub) others) in
        let ready = subst (λ (k : Walk). IsPosition k.records k.last) (sym (replied_stays t.stub s q reply next said)) same.ready in (
          is ∙ ap₂ (λ (c : Bool) (r : Option (List ℕ)). if_acks c (codes "+") ++ reply_text r) same.acks alike.1 ∙ sym too,
          both_left s v reply answer alike.0 (ap names (replied_files t.stub s q reply next said) ∙ same.one) (ap names (replied_files u.stub v q answer after also) ∙ same.other)
              ready alike.1 next o p left (subst (λ (n : After). IsLeft u v answer n p) (sym alike.2) rest),
        )

    one_heard : (x : Heard) (o p : Option Talk) (a b : List ℕ) → IsHeardAs t x o a → IsHeardAs u x p b → (a ≡ b) × AreBoth fs o p
    one_heard Nothing o p a b (e, is) (i, too) = (is ∙ sym too, both_are o p (Some t) (Some u) e i same)
    one_heard Again o p a b (e, is) (i, too) = (is ∙ ap₂ (λ (c : Bool) (l : List ℕ). if_acks c l) same.acks same.last ∙ sym too, both_are o p (Some t) (Some u) e i same)
    one_heard Wrong o p a b (e, is) (i, too) = (is ∙ ap (λ (c : Bool). if_acks c (codes "-")) same.acks ∙ sym too, both_are o p (Some t) (Some u) e i same)
    one_heard TooLong o p a b one other = one_answer [] o p a b one other
    one_heard (Packet x) o p a b one other = one_answer x o p a b one other

  read_same : (t u : Talk) (b : ℕ) → AreSame fs t u → AreSame fs (read_to t b) (read_to u b)
  read_same t u b same = record {
    stub = same.stub;
    one = same.one;
    other = same.other;
    ready = same.ready;
    reader = ap (λ (r : List ℕ). reading_after r b) same.reader;
    acks = same.acks;
    last = same.last;
  }

  one_byte : (t u : Talk) → AreSame fs t u → (c : ℕ) (o p : Option Talk) (a b : List ℕ) → IsByteHeard t c o a → IsByteHeard u c p b → (a ≡ b) × AreBoth fs o p
  one_byte t u same c o p a b one other =
      one_heard (read_to t c) (read_to u c) (read_same t u c same) (heard_of t.reader c) o p a b one
      (subst (λ (x : Heard). IsHeardAs (read_to u c) x p b) (sym (ap (λ (r : List ℕ). heard_of r c) same.reader)) other)

  one_text : (n : ℕ) (o p : Option Talk) → AreBoth fs o p → (xs : List (Option (List ℕ))) (a b : List ℕ) → IsTalkOf n o xs a → IsTalkOf n p xs b → a ≡ b
  one_text n None None same xs a b one other = one.1 ∙ sym other.1
  one_text n None (Some u) same xs a b one other = absurd same
  one_text n (Some t) None same xs a b one other = absurd same
  one_text n (Some t) (Some u) same [] a b one other = one.1 ∙ sym other.1
  one_text n (Some t) (Some u) same (None ∷ xs) a b one other = one.1 ∙ sym other.1
  one_text n (Some t) (Some u) same (Some l ∷ xs) a b (m, c, o, now, rest, count, is, heard, more, text) (k, d, p, said, end, counts, too, hears, goes, whole) =
      let fewer : k ≡ m = let e : suc m ≡ suc k = sym count ∙ counts in cc in
      let byte : d ≡ c = let e : c ∷ [] ≡ d ∷ [] = sym is ∙ too in cc in
      let first = one_byte t u same c o p now said heard (subst (λ (x : ℕ). IsByteHeard u x p said) byte hears) in
      let later = one_text m o p first.1 xs rest end more (subst (λ (x : ℕ). IsTalkOf x p xs end) fewer goes) in
      text ∙ ap₂ (λ (x : List ℕ) (y : List ℕ). x ++ y) first.0 later ∙ sym whole

-- ---- two that begin alike

module _ (boot : World) (records : List Record) (c : Config) (only : Option ℕ) (j k : Walk) (t u : Talk) (h : IsBegun boot records j) (g : IsBegun boot records k)
    (a : IsTalkBegun c j only t) (b : IsTalkBegun c k only u) where
  walks : unmarked j ≡ unmarked k
  walks = same_walk j k (h.boot ∙ sym g.boot) (h.records ∙ sym g.records) (h.here ∙ sym g.here) (last_is_unique boot records j.last k.last h.last g.last)

  sights : bare t.stub.sight ≡ bare u.stub.sight
  sights =
      ap bare a.sight
      ∙ ap (λ (w : Walk). let s : Sight = record { walker = w; points = record { breakpoints = []; watches = [] } } in s) walks
      ∙ sym (ap bare b.sight)

  ready : IsPosition t.stub.sight.walker.records t.stub.sight.walker.last
  ready =
      subst (λ (s : Sight). IsPosition s.walker.records s.walker.last) (sym a.sight)
      (subst (λ (xs : List Record). IsPosition xs j.last) (sym h.records) h.last.position)

  both_begun : AreSame t.stub.files t u
  both_begun = record {
    stub = ap₂ (λ (s : Sight) (x : Threads). let y : Stub = record { sight = s; files = t.stub.files; threads = x } in y) sights (a.threads ∙ sym b.threads);
    one = refl;
    other = b.files ∙ sym a.files;
    ready = ready;
    reader = a.reader ∙ sym b.reader;
    acks = a.acks ∙ sym b.acks;
    last = a.last ∙ sym b.last;
  }

  pub texts_are_one : (typed : List (Option (List ℕ))) (x y : List ℕ) → IsTalk t typed x → IsTalk u typed y → x ≡ y
  texts_are_one typed x y one other = one_text t.stub.files (2 ^ 64 - 1) (Some t) (Some u) both_begun typed x y one other
