-- What is drawn as one is one: the tests are those of equality.
use Rattle.std.proofs.Common.{◌≡◌, ℕ, true, Option, Some, None, refl, ap}
use Rattle.std.specs.Prelude.{◌==◌, ◌&&◌}
use Rattle.std.proofs.lemmas.Bool.{eqb-true, eq-eqb, and_parts, and_from, false≢true}
use Rattle.mx_proc.specs.declared.process.DeathCause.{DeathCause}
use Rattle.mx_proc.specs.declared.process.DeathCause.TheVariants as cause
use Rattle.mx_print_report.specs.declared.doing.Awaited.{Awaited}
use Rattle.mx_print_report.specs.declared.doing.Awaited.TheVariants as awaited
use Rattle.mx_print_report.specs.declared.doing.Doing.{Doing}
use Rattle.mx_print_report.specs.declared.doing.Doing.TheVariants.{Home, Ready, Out, Doomed, Sending, Calling, Receiving, Awaiting, Down}
use Rattle.mx_look.specs.Doings.{same_cause, same_awaited, same_doing}
use Rattle.mx_app_draw.specs.declared.scene_values.Standing.{Standing}
use Rattle.mx_app_draw.specs.Scene.{same_cpu, same_standing, same_seen}

cause_same : (a b : DeathCause) → same_cause a b ≡ true → a ≡ b
cause_same cause.Exit cause.Exit h = refl
cause_same cause.Kill cause.Kill h = refl
cause_same (cause.Fault v) (cause.Fault u) h = ap cause.Fault (eqb-true v u h)
cause_same _ _ h = absurd (false≢true h)

awaited_same : (a b : Awaited) → same_awaited a b ≡ true → a ≡ b
awaited_same awaited.Any awaited.Any h = refl
awaited_same awaited.System awaited.System h = refl
awaited_same awaited.Hardware awaited.Hardware h = refl
awaited_same awaited.Clock awaited.Clock h = refl
awaited_same (awaited.Process d) (awaited.Process e) h = ap awaited.Process (eqb-true d e h)
awaited_same _ _ h = absurd (false≢true h)

doing_same : (a b : Doing) → same_doing a b ≡ true → a ≡ b
doing_same Home Home h = refl
doing_same Ready Ready h = refl
doing_same Out Out h = refl
doing_same Doomed Doomed h = refl
doing_same (Sending d) (Sending e) h = ap Sending (eqb-true d e h)
doing_same (Calling d) (Calling e) h = ap Calling (eqb-true d e h)
doing_same (Receiving p) (Receiving q) h = ap Receiving (awaited_same p q h)
doing_same (Awaiting d) (Awaiting e) h = ap Awaiting (eqb-true d e h)
doing_same (Down c) (Down d) h = ap Down (cause_same c d h)
doing_same _ _ h = absurd (false≢true h)

cpu_same : (a b : Option ℕ) → same_cpu a b ≡ true → a ≡ b
cpu_same None None h = refl
cpu_same (Some a) (Some b) h = ap Some (eqb-true a b h)
cpu_same _ _ h = absurd (false≢true h)

cause_alike : (a : DeathCause) → same_cause a a ≡ true
cause_alike cause.Exit = refl
cause_alike cause.Kill = refl
cause_alike (cause.Fault v) = eq-eqb v v refl

awaited_alike : (a : Awaited) → same_awaited a a ≡ true
awaited_alike awaited.Any = refl
awaited_alike awaited.System = refl
awaited_alike awaited.Hardware = refl
awaited_alike awaited.Clock = refl
awaited_alike (awaited.Process e) = eq-eqb e e refl

doing_alike : (a : Doing) → same_doing a a ≡ true
doing_alike Home = refl
doing_alike Ready = refl
doing_alike Out = refl
doing_alike Doomed = refl
doing_alike (Sending e) = eq-eqb e e refl
doing_alike (Calling e) = eq-eqb e e refl
doing_alike (Receiving p) = awaited_alike p
doing_alike (Awaiting e) = eq-eqb e e refl
doing_alike (Down c) = cause_alike c

cpu_alike : (a : Option ℕ) → same_cpu a a ≡ true
cpu_alike None = refl
cpu_alike (Some a) = eq-eqb a a refl

-- a thing is like itself, and what is like a thing is like all that this is like
pub seen_alike : (a : Option Standing) → same_seen a a ≡ true
seen_alike None = refl
seen_alike (Some a) =
    and_from ((a.endpoint == a.endpoint) && same_doing a.doing a.doing) (same_cpu a.cpu a.cpu)
    (and_from (a.endpoint == a.endpoint) (same_doing a.doing a.doing) (eq-eqb a.endpoint a.endpoint refl) (doing_alike a.doing)) (cpu_alike a.cpu)

standing_on : (a b c : Standing) → same_standing a b ≡ true → same_standing b c ≡ true → same_standing a c ≡ true
standing_on a b c h g =
    let both = and_parts ((a.endpoint == b.endpoint) && same_doing a.doing b.doing) (same_cpu a.cpu b.cpu) h in
    let first = and_parts (a.endpoint == b.endpoint) (same_doing a.doing b.doing) both.0 in
    let ends : a.endpoint ≡ b.endpoint = eqb-true a.endpoint b.endpoint first.0 in
    let does : a.doing ≡ b.doing = doing_same a.doing b.doing first.1 in
    let cpus : a.cpu ≡ b.cpu = cpu_same a.cpu b.cpu both.1 in
    rw (ends, does, cpus) g

pub seen_on : (a b c : Option Standing) → same_seen a b ≡ true → same_seen b c ≡ true → same_seen a c ≡ true
seen_on None None c h g = g
seen_on (Some a) (Some b) (Some c) h g = standing_on a b c h g
seen_on None (Some b) c h g = absurd (false≢true h)
seen_on (Some a) None c h g = absurd (false≢true h)
seen_on (Some a) (Some b) None h g = absurd (false≢true g)
