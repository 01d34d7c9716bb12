-- Parts of a session, one after another.
use Rattle.std.proofs.Common.{◌≡◌, ◌∙◌, ◌+◌, ◌-◌, ◌^◌, ◌++◌, ◌∷◌, [], ℕ, Bool, true, false, List, Option, Some, None, Result, Ok, Err, MatchResult, inl, inr, length, refl, ap, sym, subst, append_assoc, arith}
use Rattle.std.specs.Prelude.{is_none}
use Rattle.std.specs.Io.KnownBytes.{Appends}
use Rattle.std.proofs.KnownBytes.{Appends-nil, Appends-trans}
use Rattle.mx_machine.specs.declared.events.Event.{Event}
use Rattle.mx_machine.specs.Machine.{MachineState, world_of}
use Rattle.mx_machine.specs.World.{World}
use Rattle.mx_turns.specs.Made.{HasMade}
use Rattle.mx_turns.proofs.MadeLemmas.{none_made, then_made}
use Rattle.mx_app_failure.specs.declared.failure.Failure.{Failure}
use Rattle.mx_app_failure.specs.Failure.{IsWanting, PrintsFront}
use Rattle.mx_app_live.specs.declared.outside.Heard.{Heard}
use Rattle.mx_app_live.specs.declared.outside.Note.{Note}
use Rattle.mx_app_live.specs.declared.session.SessionEnding.{SessionEnding}
use Rattle.mx_app_live.specs.declared.session.SessionEnding.TheVariants.{Stopped}
use Rattle.mx_spool.specs.Written.{console_of}
use Rattle.mx_app_live.specs.Session.{AreRounds, IsRound, IsSession, IsUnshown, Part, Seat, going_on, hearing, is_full, seat_after_turns, telling, then_part, turns_at}
use Rattle.mx_spool.proofs.WrittenLemmas.{then_none, written_more}
use Rattle.mx_app_live.proofs.WrittenLemmas.{hearing_backs}

pub nil_after : {A : Type 0} (xs : List A) → xs ++ [] ≡ xs
nil_after [] = refl
nil_after (x ∷ xs) = ap (λ l. x ∷ l) (nil_after xs)

abbrev part : List (ℕ × Event) → List Note → Seat → Option SessionEnding → Part
part made told after ending = record { made = made; told = told; after = after; ending = ending }

same_part : (p q : Part) → p.made ≡ q.made → p.told ≡ q.told → p.after ≡ q.after → p.ending ≡ q.ending → p ≡ q
same_part p q made told after ending =
    ap (λ m. part m p.told p.after p.ending) made
    ∙ ap (λ t. part q.made t p.after p.ending) told
    ∙ ap (λ x. part q.made q.told x p.ending) after
    ∙ ap (λ e. part q.made q.told q.after e) ending

pub parts_assoc : (a b c : Part) → then_part (then_part a b) c ≡ then_part a (then_part b c)
parts_assoc a b c =
    same_part (then_part (then_part a b) c) (then_part a (then_part b c)) (append_assoc a.made b.made c.made) (append_assoc a.told b.told c.told) refl refl

-- a part that doesn't end the session, after and before nothing
one_part : (x : Seat) (b : Part) → b.ending ≡ None → then_part (telling x []) b ≡ then_part b (telling b.after [])
one_part x b none =
    same_part (then_part (telling x []) b) (then_part b (telling b.after [])) (sym (nil_after b.made)) (sym (nil_after b.told)) refl none

round_at : (k : Bool) (x y : Seat) (h : Heard) (b : Part) → x ≡ y → IsRound k x h b → IsRound k y h b
round_at k x y h b same r = subst (λ z. IsRound k z h b) same r

-- one round more
pub rounds_more : (k : Bool) (hs : List Heard) (x : Seat) (h : Heard) (a b : Part) → AreRounds k x hs a → IsRound k a.after h b → b.ending ≡ None
    → AreRounds k x (hs ++ h ∷ []) (then_part a b)
rounds_more k [] x h a b rounds round none =
    (b, telling b.after [], round_at k a.after x h b (ap (λ (p : Part). p.after) rounds) round, none, refl, ap (λ p. then_part p b) rounds ∙ one_part x b none)
rounds_more k (g ∷ gs) x h a b rounds round none =
    let first = rounds.0 in
    let rest = rounds.1 in
    let at = round_at k a.after rest.after h b (ap (λ (p : Part). p.after) rounds.5) round in
    (first, then_part rest b, rounds.2, rounds.3, rounds_more k gs first.after h rest b rounds.4 at none, ap (λ p. then_part p b) rounds.5 ∙ parts_assoc first rest b)

-- ---- what is told

going_told : (k : Bool) (x : Seat) (b : Bool) → is_full (turns_at x).ending ≡ b → (going_on k x).told ≡ []
going_told k x true is = rw is refl
going_told k x false is = rw is refl

more_told : (before now after more : List Note) → after ≡ before ++ now → more ≡ [] → after ≡ before ++ (now ++ more)
more_told before now after more e none = e ∙ ap (λ (l : List Note). before ++ l) (sym (nil_after now) ∙ ap (λ (l : List Note). now ++ l) (sym none))

then_told : (before now after last more : List Note) → after ≡ before ++ now → last ≡ after ++ more → last ≡ before ++ (now ++ more)
then_told before now after last more e f = f ∙ ap (λ (l : List Note). l ++ more) e ∙ append_assoc before now more

-- ---- a session so far

-- So many rounds are made, none of which ended the session.
pub record SoFar (k : Bool) (first : Seat) (m n : MachineState) (x : Seat) (count : ℕ) (asked asks : List Heard) (told tells : List Note) (screen shows : Option (List ℕ)) : Type 0 where
  pub hs : List Heard
  pub part : Part
  pub answers : asks ≡ asked ++ hs
  pub notes : tells ≡ told ++ part.told
  pub made : HasMade m part.made n
  pub rounds : AreRounds k first hs part
  pub seat : x ≡ part.after
  pub shown : Appends screen shows (console_of (world_of m) part.made)
  pub counted : length hs ≡ count

-- what a session promises
abbrev pub Held : Bool → Seat → MachineState → MachineState → Seat → List Heard → List Heard → List Note → List Note → Option (List ℕ) → Option (List ℕ) → Result SessionEnding Failure → Type 0
Held k first m n x asked asks told tells screen shows r =
    (hs : List Heard) × (p : Part) × (asks ≡ asked ++ hs) × (tells ≡ told ++ p.told) × HasMade m p.made n
    × MatchResult r (λ e. IsSession k first hs p e × (x ≡ p.after) × Appends screen shows (console_of (world_of m) p.made))
    (λ f. IsWanting f × IsUnshown k first hs p × PrintsFront (λ t. Appends screen shows t) (console_of (world_of m) p.made))

pub none_so_far : (k : Bool) (x : Seat) (m : MachineState) (asked : List Heard) (told : List Note) (screen : Option (List ℕ)) → SoFar k x m m x 0 asked asked told told screen screen
none_so_far k x m asked told screen = record {
  hs = [];
  part = telling x [];
  answers = sym (nil_after asked);
  notes = sym (nil_after told);
  made = none_made m;
  rounds = refl;
  seat = refl;
  shown = Appends-nil screen;
  counted = refl;
}

one_longer : (hs : List Heard) (h : Heard) → length (hs ++ h ∷ []) ≡ length hs + 1
one_longer [] h = refl
one_longer (g ∷ gs) h = let e = one_longer gs h in omega (arith, e)

module _ (k : Bool) (first : Seat) (m n : MachineState) (x : Seat) (count : ℕ) (asked asks : List Heard) (told tells : List Note) (screen shows : Option (List ℕ)) (so : SoFar k first m n x count asked asks told tells screen shows) where
  -- it goes on
  abbrev gone : Part
  gone = going_on k so.part.after

  made_on : (p : MachineState) → HasMade n (going_on k x).made p → HasMade m (so.part.made ++ gone.made) p
  made_on p h = then_made m n p so.part.made gone.made so.made (subst (λ (z : Seat). HasMade n (going_on k z).made p) so.seat h)

  told_on : tells ≡ told ++ (so.part.told ++ gone.told)
  told_on = more_told told so.part.told tells gone.told so.notes (going_told k so.part.after (is_full (turns_at so.part.after).ending) refl)

  -- what more is written from here on is shown after what was shown
  more_shown : (xs : List (ℕ × Event)) (text : List ℕ) (after : Option (List ℕ)) → console_of (world_of n) xs ≡ text → Appends shows after text → Appends screen after (console_of (world_of m) (so.part.made ++ xs))
  more_shown xs text after is h =
      subst (Appends screen after)
      (ap (λ (l : List ℕ). console_of (world_of m) so.part.made ++ l) (sym is ∙ ap (λ (w : World). console_of w xs) so.made.world) ∙ sym (written_more so.part.made xs (world_of m)))
      (Appends-trans _ _ _ (console_of (world_of m) so.part.made) text so.shown h)

  shown_on : (after : Option (List ℕ)) → Appends shows after (console_of (world_of n) (going_on k x).made) → Appends screen after (console_of (world_of m) (so.part.made ++ gone.made))
  shown_on after h = more_shown gone.made (console_of (world_of n) (going_on k x).made) after (ap (λ (z : Seat). console_of (world_of n) (going_on k z).made) (sym so.seat)) h

  -- it ended the session
  pub ended_going : (p : MachineState) (y : Seat) (o : Option SessionEnding) (e : SessionEnding) (after : Option (List ℕ)) → HasMade n (going_on k x).made p → y ≡ (going_on k x).after → o ≡ (going_on k x).ending
      → Appends shows after (console_of (world_of n) (going_on k x).made) → o ≡ Some e → Held k first m p y asked asks told tells screen after (Ok e)
  ended_going p y o e after made seat ending shown is = (
    so.hs,
    then_part so.part gone,
    so.answers,
    told_on,
    made_on p made,
    (
      inl (so.part, so.rounds, ap (λ (z : Seat). (going_on k z).ending) (sym so.seat) ∙ sym ending ∙ is, refl),
      seat ∙ ap (λ (z : Seat). (going_on k z).after) so.seat,
      shown_on after shown,
    ),
  )

  -- the screen took no more than a front
  pub unshown_going : (p : MachineState) (y : Seat) (f : Failure) (after : Option (List ℕ)) → HasMade n (turns_at x).made p → IsWanting f
      → PrintsFront (λ t. Appends shows after t) (console_of (world_of n) (turns_at x).made) → Held k first m p y asked asks told tells screen after (Err f)
  unshown_going p y f after made wanting front =
      let last : Part = record { made = (turns_at so.part.after).made; told = []; after = seat_after_turns so.part.after; ending = None } in
      let more : console_of (world_of m) (so.part.made ++ last.made) ≡ console_of (world_of m) so.part.made ++ (front.0 ++ front.1) =
      written_more so.part.made last.made (world_of m)
      ∙ ap (λ (l : List ℕ). console_of (world_of m) so.part.made ++ l)
      (ap (λ (w : World). console_of w last.made) (sym so.made.world) ∙ ap (λ (z : Seat). console_of (world_of n) (turns_at z).made) (sym so.seat) ∙ front.2) in (
        so.hs,
        then_part so.part last,
        so.answers,
        more_told told so.part.told tells [] so.notes refl,
        then_made m n p so.part.made last.made so.made (subst (λ (z : Seat). HasMade n (turns_at z).made p) so.seat made),
        (
          wanting,
          (so.part, so.rounds, refl),
          (
            console_of (world_of m) so.part.made ++ front.0,
            front.1,
            more ∙ sym (append_assoc (console_of (world_of m) so.part.made) front.0 front.1),
            Appends-trans _ _ _ (console_of (world_of m) so.part.made) front.0 so.shown front.3,
          ),
        ),
      )

  -- and what was heard is done: a round
  abbrev round_of : Heard → Part
  round_of h = then_part gone (hearing gone.after h)

  is_round : (h : Heard) → (going_on k x).ending ≡ None → IsRound k so.part.after h (round_of h)
  is_round h none = (ap is_none (ap (λ (z : Seat). (going_on k z).ending) (sym so.seat) ∙ none), refl)

  made_round : (p q : MachineState) (y : Seat) (h : Heard) → HasMade n (going_on k x).made p → y ≡ (going_on k x).after → HasMade p (hearing y h).made q → HasMade m (so.part.made ++ (round_of h).made) q
  made_round p q y h made seat done =
      subst (λ (l : List (ℕ × Event)). HasMade m l q) (append_assoc so.part.made gone.made (hearing gone.after h).made)
      (then_made m p q (so.part.made ++ gone.made) (hearing gone.after h).made (made_on p made) (subst (λ (z : Seat). HasMade p (hearing z h).made q) (seat ∙ ap (λ (z : Seat). (going_on k z).after) so.seat) done))

  told_round : (y : Seat) (h : Heard) (now : List Note) → y ≡ (going_on k x).after → now ≡ tells ++ (hearing y h).told → now ≡ told ++ (so.part.told ++ (round_of h).told)
  told_round y h now seat e =
      then_told told (so.part.told ++ gone.told) tells now (hearing gone.after h).told told_on (e ∙ ap (λ (z : Seat). tells ++ (hearing z h).told) (seat ∙ ap (λ (z : Seat). (going_on k z).after) so.seat))
      ∙ ap (λ (l : List Note). told ++ l) (append_assoc so.part.told gone.told (hearing gone.after h).told)

  shown_round : (h : Heard) (after : Option (List ℕ)) → Appends shows after (console_of (world_of n) (going_on k x).made) → Appends screen after (console_of (world_of m) (so.part.made ++ (round_of h).made))
  shown_round h after shown =
      subst (Appends screen after)
      (sym (then_none (so.part.made ++ gone.made) (hearing gone.after h).made (world_of m) (hearing_backs gone.after h))
      ∙ ap (console_of (world_of m)) (append_assoc so.part.made gone.made (hearing gone.after h).made))
      (shown_on after shown)

  seat_round : (y z : Seat) (h : Heard) → y ≡ (going_on k x).after → z ≡ (hearing y h).after → z ≡ (round_of h).after
  seat_round y z h seat e = e ∙ ap (λ (u : Seat). (hearing u h).after) (seat ∙ ap (λ (u : Seat). (going_on k u).after) so.seat)

  ending_round : (y : Seat) (h : Heard) (o : Option SessionEnding) → y ≡ (going_on k x).after → o ≡ (hearing y h).ending → (round_of h).ending ≡ o
  ending_round y h o seat e = ap (λ (u : Seat). (hearing u h).ending) (sym (seat ∙ ap (λ (u : Seat). (going_on k u).after) so.seat)) ∙ sym e

  -- it ended the session
  pub ended_hearing : (p q : MachineState) (y z : Seat) (h : Heard) (o : Option SessionEnding) (e : SessionEnding) (after : Option (List ℕ)) (heard-now : List Heard) (told-now : List Note)
      → HasMade n (going_on k x).made p → y ≡ (going_on k x).after → (going_on k x).ending ≡ None → Appends shows after (console_of (world_of n) (going_on k x).made) → heard-now ≡ asks ++ h ∷ []
      → HasMade p (hearing y h).made q → z ≡ (hearing y h).after → o ≡ (hearing y h).ending → told-now ≡ tells ++ (hearing y h).told → o ≡ Some e
      → Held k first m q z asked heard-now told told-now screen after (Ok e)
  ended_hearing p q y z h o e after heard-now told-now made seat none shown answered done leads ending tells-more is = (
    so.hs ++ h ∷ [],
    then_part so.part (round_of h),
    answered ∙ ap (λ (l : List Heard). l ++ h ∷ []) so.answers ∙ append_assoc asked so.hs (h ∷ []),
    told_round y h told-now seat tells-more,
    made_round p q y h made seat done,
    (
      inr (inl (so.hs, h, so.part, round_of h, refl, so.rounds, is_round h none, ending_round y h o seat ending ∙ is, refl)),
      seat_round y z h seat leads,
      shown_round h after shown,
    ),
  )

  -- it didn't
  pub one_more : (p q : MachineState) (y z : Seat) (h : Heard) (o : Option SessionEnding) (after : Option (List ℕ)) (heard-now : List Heard) (told-now : List Note)
      → HasMade n (going_on k x).made p → y ≡ (going_on k x).after → (going_on k x).ending ≡ None → Appends shows after (console_of (world_of n) (going_on k x).made) → heard-now ≡ asks ++ h ∷ []
      → HasMade p (hearing y h).made q → z ≡ (hearing y h).after → o ≡ (hearing y h).ending → told-now ≡ tells ++ (hearing y h).told → o ≡ None
      → SoFar k first m q z (count + 1) asked heard-now told told-now screen after
  one_more p q y z h o after heard-now told-now made seat none shown answered done leads ending tells-more is = record {
    hs = so.hs ++ h ∷ [];
    part = then_part so.part (round_of h);
    answers = answered ∙ ap (λ (l : List Heard). l ++ h ∷ []) so.answers ∙ append_assoc asked so.hs (h ∷ []);
    notes = told_round y h told-now seat tells-more;
    made = made_round p q y h made seat done;
    rounds = rounds_more k so.hs first h so.part (round_of h) so.rounds (is_round h none) (ending_round y h o seat ending ∙ is);
    seat = seat_round y z h seat leads;
    shown = shown_round h after shown;
    counted = one_longer so.hs h ∙ ap (λ (c : ℕ). c + 1) so.counted;
  }

  -- so many rounds are made that it stops
  pub stopped : count ≡ 2 ^ 64 - 1 → Held k first m n x asked asks told tells screen shows (Ok Stopped)
  stopped last = (so.hs, so.part, so.answers, so.notes, so.made, (inr (inr (so.rounds, so.counted ∙ last, refl)), so.seat, so.shown))
