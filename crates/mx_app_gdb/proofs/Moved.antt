-- Moves by what gdb asks for.
use Rattle.std.proofs.Common.{◌≡◌, ◌≢◌, ℕ, Bool, true, false, List, Option, Some, not, refl, subst, sym}
use Rattle.mx_rsp.specs.declared.moves.Action.{Action}
use Rattle.mx_rsp.specs.declared.moves.Action.TheVariants as action
use Rattle.mx_rsp.specs.declared.moves.Resume.{Resume}
use Rattle.mx_rsp.specs.declared.fields.Which.{Which}
use Rattle.mx_rsp.specs.declared.request.Point.{Point}
use Rattle.mx_rsp.specs.declared.request.Request.{Request}
use Rattle.mx_rsp.specs.declared.request.Request.TheVariants as request
use Rattle.mx_rsp.specs.declared.words.Word.{Word}
use Rattle.mx_rsp.specs.Moves.{continues}
use Rattle.mx_app_gdb.specs.declared.halts.Halts.{Halts}
use Rattle.mx_app_gdb.specs.declared.ranges.Range.{Range}
use Rattle.mx_app_gdb.specs.declared.replying.After.{After}
use Rattle.mx_app_gdb.specs.declared.replying.Way.{Way}
use Rattle.mx_app_gdb.specs.declared.replying.Way.TheVariants.{Back, On, Step, StepBack}
use Rattle.mx_app_gdb.specs.declared.stub.Stub.{Stub}
use Rattle.mx_app_gdb.specs.Replied.{AreHalts, IsGoneBy, IsMoved, IsMovedBy, IsReplied, IsResumed, IsReversed, Says, SaysMoved, here_reply, range_of}
use Rattle.mx_app_gdb.specs.Threads.{goes_by}

-- what a reply says, by what moves do
pub says_by : (Is Was : Stub → List ℕ → Type 0) → ((u : Stub) (text : List ℕ) → Is u text → Was u text)
    → (u : Stub) (reply : Option (List ℕ)) (next : After) → SaysMoved Is u reply next → SaysMoved Was u reply next
says_by Is Was f u reply next said = (said.0, f u said.0 said.1, said.2, said.3)

-- ---- back

pub back_by_step : (b : Bool) (s : Stub) (slot : ℕ) (h : Halts) (way : Way) → b ≡ true → slot ≡ goes_by s.threads → AreHalts s slot (not b) h
    → way ≡ StepBack slot → (u : Stub) (text : List ℕ) → IsMovedBy way h s u text → IsReversed b s u text
back_by_step true s slot h way is e halts way-is u text moved =
    subst (λ (n : ℕ). IsMoved (StepBack n) s n false u text) e (h, halts, subst (λ (y : Way). IsMovedBy y h s u text) way-is moved)
back_by_step false s slot h way is e halts way-is u text moved = cc

pub back_to_halt : (b : Bool) (s : Stub) (slot : ℕ) (h : Halts) (way : Way) → b ≡ false → slot ≡ goes_by s.threads → AreHalts s slot (not b) h
    → way ≡ Back → (u : Stub) (text : List ℕ) → IsMovedBy way h s u text → IsReversed b s u text
back_to_halt true s slot h way is e halts way-is u text moved = cc
back_to_halt false s slot h way is e halts way-is u text moved =
    subst (λ (n : ℕ). IsMoved Back s n true u text) e (h, halts, subst (λ (y : Way). IsMovedBy y h s u text) way-is moved)

-- ---- on

on_by : (a : Action) (s : Stub) (slot : ℕ) (others : Bool) (h : Halts) → continues a ≡ true → AreHalts s slot true h
    → (u : Stub) (text : List ℕ) → IsMovedBy On h s u text → IsGoneBy a s slot others u text
on_by action.Continue s slot others h is halts u text moved = (h, halts, moved)
on_by action.Step s slot others h is halts u text moved = cc
on_by (action.StepWithin x y) s slot others h is halts u text moved = cc

step_by : (a : Action) (s : Stub) (slot : ℕ) (others : Bool) (h : Halts) (g : Range) → continues a ≡ false → AreHalts s slot others h → g ≡ range_of a
    → (u : Stub) (text : List ℕ) → IsMovedBy (Step slot g) h s u text → IsGoneBy a s slot others u text
step_by action.Continue s slot others h g is halts e u text moved = cc
step_by action.Step s slot others h g is halts e u text moved = (h, halts, subst (λ (y : Range). IsMovedBy (Step slot y) h s u text) e moved)
step_by (action.StepWithin x y) s slot others h g is halts e u text moved = (h, halts, subst (λ (z : Range). IsMovedBy (Step slot z) h s u text) e moved)

module _ (r : Resume) (s : Stub) (o : Option ℕ) (slot : ℕ) (h : Halts) (there : o ≡ Some slot) where
  pub resumed_on : continues r.first.action ≡ true → AreHalts s slot true h
      → (u : Stub) (text : List ℕ) → IsMovedBy On h s u text → IsResumed s r o u text
  resumed_on is halts u text moved =
      subst (λ (x : Option ℕ). IsResumed s r x u text) (sym there) (on_by r.first.action s slot r.others h is halts u text moved)

  pub resumed_by_step : (g : Range) → continues r.first.action ≡ false → AreHalts s slot r.others h → g ≡ range_of r.first.action
      → (u : Stub) (text : List ℕ) → IsMovedBy (Step slot g) h s u text → IsResumed s r o u text
  resumed_by_step g is halts e u text moved =
      subst (λ (x : Option ℕ). IsResumed s r x u text) (sym there) (step_by r.first.action s slot r.others h g is halts e u text moved)

-- ---- requests that ask for something here, and are no words

pub replied_here : (s : Stub) (r : Request) → ((w : Word) → r ≢ request.Plain w) → ((b : Bool) → r ≢ request.Supported b)
    → ((x : Resume) → r ≢ request.Go x) → ((w : Which) → r ≢ request.ForReading w) → ((w : Which) → r ≢ request.ForGoing w)
    → ((p : Point) (a n : ℕ) → r ≢ request.Insert p a n) → ((p : Point) (a n : ℕ) → r ≢ request.Remove p a n) → ((n : ℕ) → r ≢ request.DetachFrom n)
    → ((line : List ℕ) → r ≢ request.Console line)
    → (u : Stub) (reply : Option (List ℕ)) (next : After) → Says s (here_reply s r) u reply next → IsReplied s r u reply next
replied_here s (request.Plain w) a b c d e f g h i u reply next said = absurd (a w refl)
replied_here s (request.Supported w) a b c d e f g h i u reply next said = absurd (b w refl)
replied_here s (request.Go w) a b c d e f g h i u reply next said = absurd (c w refl)
replied_here s (request.ForReading w) a b c d e f g h i u reply next said = absurd (d w refl)
replied_here s (request.ForGoing w) a b c d e f g h i u reply next said = absurd (e w refl)
replied_here s (request.Insert p x n) a b c d e f g h i u reply next said = absurd (f p x n refl)
replied_here s (request.Remove p x n) a b c d e f g h i u reply next said = absurd (g p x n refl)
replied_here s (request.DetachFrom n) a b c d e f g h i u reply next said = absurd (h n refl)
replied_here s (request.Console line) a b c d e f g h i u reply next said = absurd (i line refl)
replied_here s (request.ThreadText w) a b c d e f g h i u reply next said = said
replied_here s (request.Description o n) a b c d e f g h i u reply next said = said
replied_here s (request.File p o n) a b c d e f g h i u reply next said = said
replied_here s (request.IsAlive w) a b c d e f g h i u reply next said = said
replied_here s (request.Register n) a b c d e f g h i u reply next said = said
replied_here s (request.Memory x n) a b c d e f g h i u reply next said = said
replied_here s request.Write a b c d e f g h i u reply next said = said
replied_here s request.Malformed a b c d e f g h i u reply next said = said
replied_here s request.Unknown a b c d e f g h i u reply next said = said
