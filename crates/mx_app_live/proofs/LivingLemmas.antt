-- A machine that somebody sits at, from its boot to the history that is saved.
use Rattle.std.proofs.Common.{◌≡◌, ◌∙◌, ◌⊎◌, ◌++◌, ◌∷◌, [], ℕ, Bool, List, Result, Ok, Err, MatchResult, inl, inr, refl, ap, sym, subst, append_assoc}
use Rattle.std.specs.Prelude.{IsErrAnd}
use Rattle.mx_machine.specs.Boot.{world_at_boot}
use Rattle.mx_machine.specs.declared.config.Config.{Config}
use Rattle.mx_machine.specs.History.{AreAccepted, BootAndHistory}
use Rattle.mx_machine.specs.Machine.{MachineState, kept_along, world_of}
use Rattle.mx_machine.specs.Move.{moves}
use Rattle.mx_machine.specs.Service.{Service}
use Rattle.mx_machine.specs.World.{World}
use Rattle.mx_turns.specs.Made.{HasMade}
use Rattle.mx_app_failure.specs.declared.failure.Failure.{Failure as Kind}
use Rattle.mx_app_failure.specs.Failure.{IsWanting, PrintsFront}
use Rattle.mx_app_step.specs.Asked.{Asked}
use Rattle.mx_app_step.specs.Kept.{IsUnwritten, text_kept}
use Rattle.mx_app_step.specs.Written.{Written, kept}
use Rattle.mx_app_live.specs.declared.outside.Heard.{Heard}
use Rattle.mx_app_live.specs.declared.outside.Note.{Note}
use Rattle.mx_app_live.specs.declared.outside.Note.TheVariants as note
use Rattle.mx_app_live.specs.declared.session.SessionEnding.{SessionEnding}
use Rattle.mx_app_live.specs.Living.{IsBooted, IsCutOff, IsKernelOf, IsNotBooted, Lives, both_kept, end_told, kernel_at_boot, shown_of}
use Rattle.mx_spool.specs.Written.{console_of}
use Rattle.mx_app_live.specs.Session.{IsSession, IsUnshown, Part, Seat, first_seat, waiting}

abbrev at_boot : World → BootAndHistory
at_boot w = record { boot = w; history = [] }

pub booted_kernel : (c : Config) (vs : List Service) (m : MachineState) → world_of m ≡ world_at_boot c vs → m.kernel ≡ at_boot (world_of m) → m.kernel ≡ kernel_at_boot c vs
booted_kernel c vs m booted begun = begun ∙ ap at_boot booted

pub kernel_of : (c : Config) (vs : List Service) (p : Part) (m n : MachineState) → world_of m ≡ world_at_boot c vs → m.kernel ≡ at_boot (world_of m) → HasMade m p.made n → IsKernelOf c vs p n.kernel
kernel_of c vs p m n booted begun made = (
  subst (λ (w : World). AreAccepted w p.made) booted made.accepted,
  made.kernel ∙ ap (λ (k : BootAndHistory). kept_along k p.made (moves (world_of m) p.made).0) begun ∙ ap (λ (w : World). kept_along (at_boot w) p.made (moves w p.made).0) booted,
)

-- one text is written, and then others
pub then_written : (old : List Written) (first : Written) (now last more : List Written) → now ≡ old ++ first ∷ [] → last ≡ now ++ more → last ≡ old ++ (first ∷ more)
then_written old first now last more e f = f ∙ ap (λ (l : List Written). l ++ more) e ∙ append_assoc old (first ∷ []) more

-- the text of the machine at boot, by its kernel
pub kept_at : (log : List ℕ) (k : BootAndHistory) (old now : List Written) (l : BootAndHistory) → k ≡ l → now ≡ old ++ kept log (text_kept k) ∷ [] → now ≡ old ++ kept log (text_kept l) ∷ []
kept_at log k old now l e h = h ∙ ap (λ (x : BootAndHistory). old ++ kept log (text_kept x) ∷ []) e

-- how the session that was held ended, from this seat and world on
abbrev pub HeldBy : Bool → Seat → World → Seat → List Heard → Part → (List ℕ → Type 0) → Result SessionEnding Kind → Type 0
HeldBy clock first w x hs p Prints r =
    MatchResult r (λ e. IsSession clock first hs p e × (x ≡ p.after) × Prints (console_of w p.made)) (λ f. IsWanting f × IsUnshown clock first hs p × PrintsFront Prints (console_of w p.made))

-- the same from its first one on
pub held_at : (clock : Bool) (first : Seat) (w boot : World) (x : Seat) (hs : List Heard) (p : Part) (Prints : List ℕ → Type 0) (r : Result SessionEnding Kind) → first ≡ first_seat w → w ≡ boot
    → HeldBy clock first w x hs p Prints r → HeldBy clock (first_seat boot) boot x hs p Prints r
held_at clock first w boot x hs p Prints r begins booted h =
    subst (λ (u : World). HeldBy clock (first_seat u) u x hs p Prints r) booted (subst (λ (y : Seat). HeldBy clock y w x hs p Prints r) begins h)

-- whatever is written then
pub held_so : (clock : Bool) (first : Seat) (w : World) (x : Seat) (hs : List Heard) (p : Part) (Prints : List ℕ → Type 0) (r : Result SessionEnding Kind) → HeldBy clock first w x hs p Prints r
    → ((e : SessionEnding) × IsSession clock first hs p e × Prints (console_of w p.made)) ⊎ (IsUnshown clock first hs p × PrintsFront Prints (console_of w p.made))
held_so clock first w x hs p Prints (Ok e) h = inl (e, h.0, h.2)
held_so clock first w x hs p Prints (Err f) h = inr (h.1, h.2)

-- what is told in the end
pub told_end : (e : SessionEnding) (p : Part) (x : Seat) (records waits : ℕ) (old now last : List Note) → x ≡ p.after → records ≡ x.world.records → waits ≡ waiting x.typing → now ≡ old ++ p.told
    → last ≡ now ++ note.Ended e records waits ∷ [] → last ≡ old ++ (p.told ++ end_told e p ∷ [])
told_end e p x records waits old now last same r w f g =
    let many : records ≡ p.after.world.records = r ∙ ap (λ (y : Seat). y.world.records) same in
    let left : waits ≡ waiting p.after.typing = w ∙ ap (λ (y : Seat). waiting y.typing) same in
    g ∙ ap (λ (l : List Note). l ++ note.Ended e records waits ∷ []) f ∙ append_assoc old p.told (note.Ended e records waits ∷ [])
    ∙ ap (λ (n : ℕ). old ++ (p.told ++ note.Ended e n waits ∷ [])) many
    ∙ ap (λ (n : ℕ). old ++ (p.told ++ note.Ended e p.after.world.records n ∷ [])) left

module _ (config log : List ℕ) (clock : Bool) (qs : List Asked) (Prints : List ℕ → Type 0) where
  pub not_begun : (f : Kind) (r : Result SessionEnding Kind) → IsNotBooted config log qs f → Prints [] → IsErrAnd r (λ y. y ≡ f) → Lives config log clock qs [] [] [] Prints r
  not_begun f (Ok u) why printed h = absurd h
  not_begun f (Err y) why printed h = inl (refl, refl, printed, inl (refl, subst (λ z. IsNotBooted config log qs z) (sym h) why))

  module _ (c : Config) (vs : List Service) (booted : IsBooted config log qs c vs) where
    pub unwritten : (ws : List Written) (f : Kind) (r : Result SessionEnding Kind) → IsUnwritten log (text_kept (kernel_at_boot c vs)) ws f → Prints [] → IsErrAnd r (λ y. y ≡ f) → Lives config log clock qs ws [] [] Prints r
    unwritten ws f (Ok u) why printed h = absurd h
    unwritten ws f (Err y) why printed h = inl (refl, refl, printed, inr (c, vs, booted, subst (λ z. IsUnwritten log (text_kept (kernel_at_boot c vs)) ws z) (sym h) why))

    module _ (hs : List Heard) (p : Part) (k : BootAndHistory) (kernel : IsKernelOf c vs p k) where
      pub cut_off : (ws : List Written) (f : Kind) (r : Result SessionEnding Kind) → IsCutOff log clock c vs ws hs p k Prints f → IsErrAnd r (λ y. y ≡ f) → Lives config log clock qs ws hs p.told Prints r
      cut_off ws f (Ok u) why h = absurd h
      cut_off ws f (Err y) why h = inr (c, vs, p, k, booted, refl, kernel, subst (λ z. IsCutOff log clock c vs ws hs p k Prints z) (sym h) why)

      pub lived : (e : SessionEnding) → IsSession clock (first_seat (world_at_boot c vs)) hs p e → Prints (shown_of c vs p) → Lives config log clock qs (both_kept log c vs k) hs (p.told ++ end_told e p ∷ []) Prints (Ok e)
      lived e session printed = (c, vs, p, k, booted, session, kernel, refl, refl, printed)
