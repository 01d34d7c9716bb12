-- WHO IS SAID TO WAIT FOR EVER does so (our own): no events by which nobody is killed make one go on.
use Rattle.std.specs.Prelude.{◌≡◌, ℕ, Bool, true, false, List, [], ◌∷◌, ◌++◌, Some}
use Rattle.mx_machine.specs.Agrees.{IsBoot}
use Rattle.mx_machine.specs.History.{BootAndHistory, events_of_history, replay}
use Rattle.mx_machine.specs.Machine.{AreSound}
use Rattle.mx_machine.specs.Move.{move, moves}
use Rattle.mx_machine.specs.Proc.declared.process.DeathCause.TheVariants.{Kill}
use Rattle.mx_machine.specs.Proc.declared.process.State.{State}
use Rattle.mx_machine.specs.Proc.declared.process.State.TheVariants.{Doomed, Down}
use Rattle.mx_machine.specs.Proc.TableState.{process_at}
use Rattle.mx_machine.specs.World.{World}
use Rattle.mx_machine.specs.declared.events.Event.{Event}
use Rattle.mx_machine.specs.declared.history.Record.{Record}
use Rattle.mx_why.specs.declared.verdicts.Verdict.{Verdict}
use Rattle.mx_why.specs.Seats.{doing_in}
use Rattle.mx_why.specs.Seeing.{end_of}
use Rattle.mx_why.specs.Verdicts.{is_never, verdict}

-- killed: it is dead of it, or dies as it comes back from its processor
abbrev pub is_killed : State → Bool
is_killed Doomed = true
is_killed (Down Kill) = true
is_killed _ = false

-- from one world to the next nobody is killed, from outside or by a kernel call
abbrev pub NobodyIsKilled : World → World → Type 0
NobodyIsKilled w u =
    (s : ℕ) → is_killed (process_at u.table s).state ≡ true → is_killed (process_at w.table s).state ≡ true

-- nor by any of these events, of which some may be refused
abbrev pub AreNoKills : World → List (ℕ × Event) → Type 0
AreNoKills w [] = Unit {0}
AreNoKills w (x ∷ xs) = NobodyIsKilled w (move w x.0 x.1).1 × AreNoKills (move w x.0 x.1).1 xs

-- WHAT IS SAID OF A SLOT after the events of a history: if it is that its process never goes on, then after any
-- more events without a kill it does what it did, and waits for whom it waited
abbrev pub StaysWaiting : World → List (ℕ × Event) → ℕ → Verdict → List (ℕ × Event) → Type 0
StaysWaiting boot history s said more =
    let w = (moves boot history).1 in
    IsBoot boot → AreSound boot history → AreSound w more → AreNoKills w more
    → verdict (end_of w) s ≡ Some said → is_never said ≡ true
    → doing_in (end_of (moves w more).1) s ≡ doing_in (end_of w) s

-- THE SAME OF A KERNEL, of which nothing is asked: it is said after some of its records, and the others come later
abbrev pub KernelStaysWaiting : BootAndHistory → List Record → List Record → ℕ → Verdict → Type 0
KernelStaysWaiting k before later s said =
    let w = replay (record k { history = before }) in
    k.history ≡ before ++ later → AreNoKills w (events_of_history later)
    → verdict (end_of w) s ≡ Some said → is_never said ≡ true
    → doing_in (end_of (replay k)) s ≡ doing_in (end_of w) s
