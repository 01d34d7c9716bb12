-- Why a machine wasn't driven, or its history not saved (our own).
use Rattle.std.specs.Prelude.{◌≡◌, ◌⊎◌, ℕ, List, [], ◌∷◌, ◌++◌}
use Rattle.std.specs.declared.io.ErrorKind.{ErrorKind}
use Rattle.mx_text.specs.declared.error.BootError.{BootError}
use Rattle.mx_boot.specs.Config.{Config}
use Rattle.mx_machine.specs.Service.{Service}
use Rattle.mx_app_failure.specs.declared.failure.Failure.{Failure}
use Rattle.mx_app_failure.specs.Failure.{IsWanting, unwritten_of}
use Rattle.mx_app_start.specs.Asked.{Asked}
use Rattle.mx_app_start.specs.Setup.{IsNotStarted, IsStart}
use Rattle.mx_app_start.specs.Written.{Written, kept, unkept}

-- no machine was started; or one was, and it can't be printed, or memory is out
abbrev pub IsTold : {L : Type 0} → (List ℕ → Config → Config → List L → Type 0) → (List ℕ → Config → BootError → Type 0)
    → List ℕ → List ℕ → List Asked → Failure → Type 0
IsTold {L} Says Tells config name qs f =
    IsNotStarted Says Tells config name qs f
    ⊎ ((c : Config) × (services : List Service) × (said : List L) × IsStart Says config name qs c services said
    × IsWanting f)

-- what is printed before a command fails: nothing; or a machine was started, and this much
abbrev pub PrintsBefore : {L : Type 0} → (List ℕ → Config → Config → List L → Type 0) → List ℕ → List ℕ → List Asked
    → List Asked → (List ℕ → Type 0) → (Config → List Service → List L → Type 0) → Type 0
PrintsBefore {L} Says config name before now Prints PrintsSome =
    Prints []
    ⊎ ((qs : List Asked) × (c : Config) × (services : List Service) × (said : List L) × (now ≡ before ++ qs)
    × IsStart Says config name qs c services said × PrintsSome c services said)

-- ---- a text that is saved before the report is printed

-- why it fails: before the file is written, by the file, or after it
abbrev pub IsUnsaved : List ℕ → List ℕ → List Written → Failure → Type 0
IsUnsaved name text ws f =
    ((ws ≡ []) × IsWanting f)
    ⊎ (((kind : ErrorKind) × (ws ≡ unkept name text kind ∷ []) × (f ≡ unwritten_of kind))
    ⊎ ((ws ≡ kept name text ∷ []) × IsWanting f))
