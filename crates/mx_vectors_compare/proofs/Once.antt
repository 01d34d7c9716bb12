-- A run of one step.
use Rattle.std.proofs.Common.{◌≡◌, ◌∙◌, refl, sym, ap}
use Rattle.mx_exec.specs.declared.image.Image.{Image}
use Rattle.mx_exec.specs.declared.image.Outcome.{Outcome}
use Rattle.mx_exec.specs.declared.image.Outcome.TheVariants.{Go, Trap, Fault}
use Rattle.mx_exec.specs.Step.{one_step}
use Rattle.mx_exec_cache.specs.Countdown.{Countdown, countdown_after, countdown}

outcome_after : (p : Outcome × Image) → (countdown_after (countdown 0) 0 p).outcome ≡ p.0
outcome_after (Go, m) = refl
outcome_after (Trap, m) = refl
outcome_after (Fault v, m) = refl

image_after : (p : Outcome × Image) → (countdown_after (countdown 0) 0 p).image ≡ p.1
image_after (Go, m) = refl
image_after (Trap, m) = refl
image_after (Fault v, m) = refl

-- it ends as the step does
pub outcome_once : (m : Image) (d : Countdown) → countdown 1 m ≡ d → d.outcome ≡ (one_step m).0
outcome_once m d e = ap (λ (x : Countdown). x.outcome) (sym e) ∙ outcome_after (one_step m)

-- with the image after it
pub image_once : (m : Image) (d : Countdown) → countdown 1 m ≡ d → d.image ≡ (one_step m).1
image_once m d e = ap (λ (x : Countdown). x.image) (sym e) ∙ image_after (one_step m)
