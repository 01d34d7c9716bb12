-- WHAT CAN'T WORK by a configuration and its programs, without a run (our own).
use Rattle.std.specs.Prelude.{◌≡◌, ◌⊎◌, ℕ, ◌==◌, Bool, not, List, [], ◌++◌, length, Option, Some, None, Result, Ok, Err, slice_get}
use Rattle.std.specs.List.{flat_map, range_with_len}
use Rattle.mx_app_failure.specs.declared.failure.Failure.{Failure}
use Rattle.mx_machine.specs.declared.config.Config.{Config}
use Rattle.mx_machine.specs.Service.{Service}
use Rattle.mx_app_start.specs.Asked.{Asked}
use Rattle.mx_app_start.specs.Failure.{IsWanting}
use Rattle.mx_app_start.specs.Setup.{IsSetup, IsSetupFault}
use Rattle.mx_why.specs.declared.unfit.Lack.TheVariants.{NoCode}
use Rattle.mx_why.specs.declared.unfit.Unfit.{Unfit}
use Rattle.mx_why.specs.Unfit.{if_so, unfit_masks}
use Rattle.mx_why.specs.UnfitLines.{unfit_lines}

abbrev pub bare_service_by : ℕ → Option Service → List Unfit
bare_service_by s None = []
bare_service_by s (Some v) = if_so (length v.program.text == 0) s NoCode

-- a slot whose program has no instruction
abbrev pub bare_service_at : List Service → ℕ → List Unfit
bare_service_at vs s = bare_service_by s (slice_get vs s)

unfoldable pub bare_services : List Service → List Unfit
bare_services vs = flat_map (bare_service_at vs) (range_with_len 0 32)

unfoldable pub unfit_services : Config → List Service → List Unfit
unfit_services c vs = unfit_masks c ++ bare_services vs

-- their lines
unfoldable pub check_text : Config → List Unfit → List ℕ
check_text c found = unfit_lines c found

-- WHAT IS PRINTED of a configuration: the lines, and whether there is one; or the first fault of the configuration and
-- the programs is the failure, and nothing is printed; or memory or output is wanting
abbrev pub ChecksConfig : List ℕ → List Asked → (List ℕ → Type 0) → Result Bool Failure → Type 0
ChecksConfig config qs Prints (Ok lacks) =
    (c : Config) × (vs : List Service) × IsSetup config qs c vs × (lacks ≡ not (length (unfit_services c vs) == 0))
    × Prints (check_text c (unfit_services c vs))
ChecksConfig config qs Prints (Err f) =
    (Prints [] × IsSetupFault config qs f) ⊎ ((c : Config) × (vs : List Service) × IsSetup config qs c vs × IsWanting f)
