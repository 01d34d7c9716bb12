-- A machine at rest: nothing more happens without a tick, an interrupt line or a kill.
use Rattle.std.specs.Prelude.{◌==◌, ◌&&◌, ◌||◌, not, Bool, true, List, ◌∷◌, is_none}
use Rattle.mx_kcall.specs.Proc.declared.process.Process.{Process}
use Rattle.mx_kcall.specs.Proc.Queues.{first_ready}
use Rattle.mx_kcall.specs.Proc.States.{is_down}
use Rattle.mx_kcall.specs.Service.{Service}
use Rattle.mx_kcall.specs.Respawn.{is_worn}
use Rattle.mx_machine.specs.World.{World, out_count}

-- no dead process can be respawned: each slot that is down is worn (no restart or no generation is left)
abbrev pub down_are_worn : List Process → List Service → Bool
down_are_worn (p ∷ ps) (v ∷ vs) = (not (is_down p.state) || is_worn p v) && down_are_worn ps vs
down_are_worn _ _ = true

-- AT REST: no process is ready, none is out, and no dead one can be respawned
unfoldable pub at_rest : World → Bool
at_rest w = is_none (first_ready w.table.ready) && (out_count w.cpus == 0) && down_are_worn w.table.slots w.services
