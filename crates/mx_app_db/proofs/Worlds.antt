-- The world after steps up to a breakpoint.
use Rattle.std.proofs.Common.{◌≡◌, ◌∙◌, ℕ, List, Option, Some, None, sym, ap, refl}
use Rattle.std.specs.Option.{option_map}
use Rattle.mx_machine.specs.History.{world_after_events}
use Rattle.mx_machine.specs.Steps.{steps_of}
use Rattle.mx_machine.specs.World.{World, HeldProcess, held_by}
use Rattle.mx_print_answers.specs.Halt.{Halt}
use Rattle.mx_print_answers.specs.Breakpoint.{Breakpoint}
use Rattle.mx_app_db.specs.Going.{HasGone}
use Rattle.mx_app_db.specs.DebugLines.{world_after_go}

pub gone_nothing : (w : World) (points : List Breakpoint) (c k : ℕ) → held_by w c ≡ None → world_after_go w points c k (held_by w c) ≡ w
gone_nothing w points c k h = ap (world_after_go w points c k) h

pub gone_steps : (w u : World) (points : List Breakpoint) (c k : ℕ) (h : Halt) → HasGone w u points c k h → world_after_go w points c k (held_by w c) ≡ u
gone_steps w u points c k h g =
    ap (world_after_go w points c k) g.worked.held
    ∙ ap (λ (n : ℕ). world_after_events w (steps_of c n)) (sym g.halts.count ∙ sym g.halts.made)
    ∙ sym g.worked.world

none_mapped : (l : Option HeldProcess) → option_map (λ (x : HeldProcess). x.slot) l ≡ None → l ≡ None
none_mapped None h = refl
none_mapped (Some l) h = absurd cc

pub gone_no_slot : (w : World) (points : List Breakpoint) (c k : ℕ) → option_map (λ (x : HeldProcess). x.slot) (held_by w c) ≡ None → world_after_go w points c k (held_by w c) ≡ w
gone_no_slot w points c k h = gone_nothing w points c k (none_mapped (held_by w c) h)
