-- A machine that goes on: turns, what they wrote, and the next byte.
use Rattle.std.proofs.Common.{◌≡◌, ◌∙◌, ℕ, ◌++◌, ◌≤◌, Bool, true, false, cond, List, length, Option, Some, None, refl, ap, sym, subst}
use Rattle.mx_app_failure.specs.Failure.{PrintsFront}
use Rattle.mx_machine.specs.Machine.{MachineState, world_of}
use Rattle.mx_machine.specs.World.{World}
use Rattle.mx_turns.specs.Made.{HasMade, HasOffered}
use Rattle.mx_turns.specs.Turns.{world_after}
use Rattle.mx_turns.proofs.MadeLemmas.{then_made}
use Rattle.mx_typist.specs.Typing.{Typing, typing_after_look}
use Rattle.mx_app_live.specs.declared.outside.Heard.{Heard}
use Rattle.mx_app_live.specs.declared.session.Session.{Session as Known}
use Rattle.mx_app_live.specs.declared.session.SessionEnding.{SessionEnding}
use Rattle.mx_app_live.specs.declared.session.SessionEnding.TheVariants.{Full, Rest}
use Rattle.mx_keyboard.specs.Keyboard.{seen_of}
use Rattle.mx_spool.specs.Written.{console_of, grown}
use Rattle.mx_app_live.specs.Session.{Seat, ending_if, going_on, hearing, is_full, is_over, raised_at, round_turns, seat_after_raise, seat_after_turns, seat_of, turns_at, waiting}
use Rattle.mx_spool.proofs.WrittenLemmas.{count_stays, grown_is_written}
use Rattle.mx_app_live.proofs.WrittenLemmas.{going_written, hearing_backs, raised_backs, round_backs}

abbrev written_at : World → ℕ
written_at w = w.table.devices.console.count

-- the turns of a round, by how many bytes wait
pub round_made : (m n : MachineState) (s : Known) (some : ℕ) → some ≡ waiting s.typist → HasMade m (round_turns some (world_of m)).made n → HasMade m (turns_at (seat_of (world_of m) s)).made n
round_made m n s some is h = subst (λ (k : ℕ). HasMade m (round_turns k (world_of m)).made n) is h

pub round_full : (m : MachineState) (s : Known) (some : ℕ) (b t : Bool) → some ≡ waiting s.typist → b ≡ is_full (round_turns some (world_of m)).ending → b ≡ t → is_full (turns_at (seat_of (world_of m) s)).ending ≡ t
round_full m s some b t is h by = ap (λ (k : ℕ). is_full (round_turns k (world_of m)).ending) (sym is) ∙ sym h ∙ by

module _ (k : Bool) (m n : MachineState) (s : Known) (turned : HasMade m (turns_at (seat_of (world_of m) s)).made n) where
  abbrev pub seat : Seat
  seat = seat_of (world_of m) s

  after_turns : seat_of (world_of n) s ≡ seat_after_turns seat
  after_turns = ap (λ (w : World). seat_of w s) turned.world

  -- what the console has more is what they wrote
  pub turns_written : (shown : ℕ) → length (world_of m).cpus ≤ 8 → shown ≡ written_at (world_of m) → grown shown (world_of n).table.devices.console ≡ console_of (world_of m) (turns_at seat).made
  turns_written shown few is =
      ap (λ (v : ℕ). grown v (world_of n).table.devices.console) is
      ∙ ap (λ (w : World). grown (written_at (world_of m)) w.table.devices.console) turned.world
      ∙ grown_is_written (turns_at seat).made (world_of m) (round_backs (waiting s.typist) (world_of m) few)

  pub all_written : (shown : ℕ) → length (world_of m).cpus ≤ 8 → shown ≡ written_at (world_of m) → grown shown (world_of n).table.devices.console ≡ console_of (world_of m) (going_on k seat).made
  all_written shown few is = turns_written shown few is ∙ sym (going_written k seat (is_full (turns_at seat).ending) refl)

  pub front_written : (Prints : List ℕ → Type 0) (shown : ℕ) → length (world_of m).cpus ≤ 8 → shown ≡ written_at (world_of m) → PrintsFront Prints (grown shown (world_of n).table.devices.console)
      → PrintsFront Prints (console_of (world_of m) (turns_at seat).made)
  front_written Prints shown few is h = subst (λ (t : List ℕ). PrintsFront Prints t) (turns_written shown few is) h

  -- what is promised of it
  abbrev pub Goes : MachineState → Seat → Option SessionEnding → Type 0
  Goes p y o = HasMade m (going_on k seat).made p × (y ≡ (going_on k seat).after) × (o ≡ (going_on k seat).ending)

  -- the turns filled the history
  pub filled_going : is_full (turns_at seat).ending ≡ true → Goes n (seat_of (world_of n) s) (Some Full)
  filled_going is = rw is (turned, after_turns, refl)

  module _ (p : MachineState) (full : Bool) (typing : Typing) (free : is_full (turns_at seat).ending ≡ false) (raised : HasOffered n (raised_at (seat_of (world_of n) s)) full p)
      (looked : typing ≡ typing_after_look (seen_of (world_of n).table s.typist.flight) s.typist) where
    abbrev pub onward : Seat
    onward = record (seat_of (world_of p) s) { typing = typing }

    made_on : HasMade m ((turns_at seat).made ++ (raised_at (seat_after_turns seat)).made) p
    made_on = then_made m n p (turns_at seat).made (raised_at (seat_after_turns seat)).made turned (subst (λ (z : Seat). HasMade n (raised_at z).made p) after_turns raised.made)

    after_raise : onward ≡ seat_after_raise (seat_after_turns seat)
    after_raise =
        ap (λ (w : World). let z : Seat = record (seat_of w s) { typing = typing } in z) raised.made.world
        ∙ ap (λ (t : Typing). let z : Seat = record (seat_of (world_after (world_of n) (raised_at (seat_of (world_of n) s))) s) { typing = t } in z) looked
        ∙ ap seat_after_raise after_turns

    ends : (b over : Bool) → full ≡ b → is_over k onward ≡ over → (going_on k seat).ending ≡ cond b (Some Full) (cond over (Some Rest) None)
    ends b over is so =
        rw free
        (ap (λ (f : Bool). cond f (Some Full) (ending_if (is_over k (seat_after_raise (seat_after_turns seat))) Rest)) (ap (λ (z : Seat). (raised_at z).full) (sym after_turns) ∙ raised.full ∙ is)
        ∙ ap (λ (o : Bool). cond b (Some Full) (ending_if o Rest)) (ap (is_over k) (sym after_raise) ∙ so))

    goes_on : (b over : Bool) (o : Option SessionEnding) → full ≡ b → is_over k onward ≡ over → o ≡ cond b (Some Full) (cond over (Some Rest) None) → Goes p onward o
    goes_on b over o is so e = (rw free made_on, rw free after_raise, e ∙ sym (ends b over is so))

    pub full_going : full ≡ true → Goes p onward (Some Full)
    full_going is = goes_on true (is_over k onward) (Some Full) is refl refl

    pub over_going : full ≡ false → is_over k onward ≡ true → Goes p onward (Some Rest)
    over_going is so = goes_on false true (Some Rest) is so refl

    pub on_going : full ≡ false → is_over k onward ≡ false → Goes p onward None
    on_going is so = goes_on false false None is so refl

    -- the byte that is raised writes nothing
    pub count_on : (v : ℕ) → v ≡ written_at (world_of n) → v ≡ written_at (world_of p)
    count_on v is =
        is ∙ sym (ap written_at raised.made.world ∙ count_stays (raised_at (seat_of (world_of n) s)).made (world_of n) (raised_backs (seat_of (world_of n) s)))

-- nor does what is done of what was heard
pub heard_on : (p q : MachineState) (y : Seat) (h : Heard) (u v : ℕ) → HasMade p (hearing y h).made q → u ≡ written_at (world_of p) → v ≡ u → v ≡ written_at (world_of q)
heard_on p q y h u v made is same = same ∙ is ∙ sym (ap written_at made.world ∙ count_stays (hearing y h).made (world_of p) (hearing_backs y h))
