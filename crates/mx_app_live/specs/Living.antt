-- What a machine does that somebody sits at, and what is left of it (our own).
use Rattle.std.specs.Prelude.{◌≡◌, ◌⊎◌, ◌++◌, ◌∷◌, [], ℕ, Bool, true, false, List, Result, Ok, Err}
use Rattle.mx_machine.specs.Boot.{world_at_boot}
use Rattle.mx_machine.specs.declared.config.Config.{Config}
use Rattle.mx_machine.specs.History.{AreAccepted, BootAndHistory}
use Rattle.mx_machine.specs.Machine.{kept_along}
use Rattle.mx_machine.specs.Move.{moves}
use Rattle.mx_machine.specs.Service.{Service}
use Rattle.mx_app_failure.specs.declared.failure.Failure.{Failure as Kind}
use Rattle.mx_app_failure.specs.declared.failure.Failure.TheVariants.{NoMemory}
use Rattle.mx_app_failure.specs.Failure.{IsWanting, PrintsFront}
use Rattle.mx_app_step.specs.Asked.{Asked}
use Rattle.mx_app_step.specs.Kept.{IsUnwritten, text_kept}
use Rattle.mx_app_step.specs.Programs.{names_program, over_program}
use Rattle.mx_app_step.specs.Setup.{IsSetup, IsSetupFault}
use Rattle.mx_app_step.specs.Written.{Written, kept}
use Rattle.mx_app_live.specs.declared.outside.Heard.{Heard}
use Rattle.mx_app_live.specs.declared.outside.Note.{Note}
use Rattle.mx_app_live.specs.declared.outside.Note.TheVariants as note
use Rattle.mx_app_live.specs.declared.session.SessionEnding.{SessionEnding}
use Rattle.mx_spool.specs.Written.{console_of}
use Rattle.mx_app_live.specs.Session.{IsSession, IsUnshown, Part, first_seat, waiting}

abbrev pub kernel_at_boot : Config → List Service → BootAndHistory
kernel_at_boot c vs = record { boot = world_at_boot c vs; history = [] }

-- the kernel has the records of the events of a session's part, and no others
abbrev pub IsKernelOf : Config → List Service → Part → BootAndHistory → Type 0
IsKernelOf c vs p k =
    AreAccepted (world_at_boot c vs) p.made
    × (k ≡ kept_along (kernel_at_boot c vs) p.made (moves (world_at_boot c vs) p.made).0)

-- the texts of two histories are written: of the machine at boot, and of the machine at the end
abbrev pub both_kept : List ℕ → Config → List Service → BootAndHistory → List Written
both_kept log c vs k = kept log (text_kept (kernel_at_boot c vs)) ∷ kept log (text_kept k) ∷ []

-- what is told after the session's own notes
abbrev pub end_told : SessionEnding → Part → Note
end_told e p = note.Ended e p.after.world.records (waiting p.after.typing)

-- the configuration and its services were read, and none of their programs has LOG's name
abbrev pub IsBooted : List ℕ → List ℕ → List Asked → Config → List Service → Type 0
IsBooted config log qs c vs = IsSetup config qs c vs × (names_program c log ≡ false)

-- why the machine doesn't boot: the first fault of these files; a service's program has LOG's name; or out of memory
abbrev pub IsNotBooted : List ℕ → List ℕ → List Asked → Kind → Type 0
IsNotBooted config log qs f =
    IsSetupFault config qs f
    ⊎ ((c : Config) × (vs : List Service) × IsSetup config qs c vs
    × (((names_program c log ≡ true) × (f ≡ over_program)) ⊎ (f ≡ NoMemory)))

-- what a session's part wrote to the console
abbrev pub shown_of : Config → List Service → Part → List ℕ
shown_of c vs p = console_of (world_at_boot c vs) p.made

-- why a session that was held fails: the screen takes no more than a front, and the whole history is written; or that
-- isn't
abbrev pub IsCutOff : List ℕ → Bool → Config → List Service → List Written → List Heard → Part → BootAndHistory
    → (List ℕ → Type 0) → Kind → Type 0
IsCutOff log has_clock c vs ws hs p k Prints f =
    ((ws ≡ both_kept log c vs k) × IsWanting f × IsUnshown has_clock (first_seat (world_at_boot c vs)) hs p
    × PrintsFront Prints (shown_of c vs p))
    ⊎ ((us : List Written) × (ws ≡ kept log (text_kept (kernel_at_boot c vs)) ∷ us)
    × IsUnwritten log (text_kept k) us f
    × (((e : SessionEnding) × IsSession has_clock (first_seat (world_at_boot c vs)) hs p e × Prints (shown_of c vs p))
    ⊎ (IsUnshown has_clock (first_seat (world_at_boot c vs)) hs p × PrintsFront Prints (shown_of c vs p))))

-- WHAT `mx turns --live` DOES, by the answers to its questions: LOG has the history without a record; a session is held,
-- and what its events write to the console is shown, each byte once and in order; and LOG has the whole history. Or it
-- fails, and this is why
abbrev pub Lives : List ℕ → List ℕ → Bool → List Asked → List Written → List Heard → List Note
    → (List ℕ → Type 0) → Result SessionEnding Kind → Type 0
Lives config log has_clock qs ws hs notes Prints (Ok e) =
    (c : Config) × (vs : List Service) × (p : Part) × (k : BootAndHistory) × IsBooted config log qs c vs
    × IsSession has_clock (first_seat (world_at_boot c vs)) hs p e × IsKernelOf c vs p k
    × (ws ≡ both_kept log c vs k) × (notes ≡ p.told ++ end_told e p ∷ []) × Prints (shown_of c vs p)
Lives config log has_clock qs ws hs notes Prints (Err f) =
    ((hs ≡ []) × (notes ≡ []) × Prints []
    × (((ws ≡ []) × IsNotBooted config log qs f)
    ⊎ ((c : Config) × (vs : List Service) × IsBooted config log qs c vs
    × IsUnwritten log (text_kept (kernel_at_boot c vs)) ws f)))
    ⊎ ((c : Config) × (vs : List Service) × (p : Part) × (k : BootAndHistory) × IsBooted config log qs c vs
    × (notes ≡ p.told) × IsKernelOf c vs p k × IsCutOff log has_clock c vs ws hs p k Prints f)
