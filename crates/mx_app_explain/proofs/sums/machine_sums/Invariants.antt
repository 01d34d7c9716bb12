use Rattle.std.proofs.Common.{◌≡◌, ◌∷◌, take}
use Rattle.std.specs.Prelude.{map}
use Rattle.mx_app_explain.specs.Sums.{configuration_sum, program_sum}
use Rattle.mx_app_explain.proofs.sums.machine_sums.Given as goal

abbrev pub invariant-loop-service : goal.invariant-loop-service
invariant-loop-service l = l.sums.items ≡ configuration_sum l.config ∷ map program_sum (take l.service-index l.services)
