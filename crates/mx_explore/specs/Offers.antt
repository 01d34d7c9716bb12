-- OPEN OFFERS of a turn: those of which something would come (our own).
use Rattle.std.specs.Prelude.{ℕ, ◌&&◌, not, if◌then◌else◌, Bool, true, false, Option, Some, None, is_none, option_map, slice_get}
use Rattle.mx_machine.specs.declared.events.Event.{Event}
use Rattle.mx_machine.specs.Proc.declared.process.Process.{Process}
use Rattle.mx_machine.specs.Proc.Queues.{first_ready}
use Rattle.mx_machine.specs.Proc.States.{is_down}
use Rattle.mx_machine.specs.Proc.TableState.{process_at}
use Rattle.mx_machine.specs.Respawn.{is_worn}
use Rattle.mx_machine.specs.Service.{Service}
use Rattle.mx_machine.specs.World.{World, HeldProcess, held_by}
use Rattle.mx_explore.specs.declared.offers.Offer.{Offer}
use Rattle.mx_explore.specs.declared.offers.Offer.TheVariants.{Take, Back, Outside, Respawn}

-- it is that of an outside event
abbrev pub is_outside : Offer → Bool
is_outside (Outside e) = true
is_outside x = false

-- a processor that holds nothing may take who is ready
abbrev pub open_take : World → ℕ → Option Offer
open_take w c = if is_none (held_by w c) then option_map (λ s. Take c s) (first_ready w.table.ready) else None

-- one that holds a process may bring it back
abbrev pub open_back : World → ℕ → Option Offer
open_back w c = option_map (λ (l : HeldProcess). Back c l.slot) (held_by w c)

-- an outside event that is to come may come
abbrev pub open_outside : Option Event → Option Offer
open_outside next = option_map Outside next

-- a slot may get a new process if its process is down and it isn't worn
abbrev pub can_respawn : Process → Option Service → Bool
can_respawn p None = false
can_respawn p (Some v) = is_down p.state && not (is_worn p v)

abbrev pub open_respawn : World → ℕ → Option Offer
open_respawn w s =
    if can_respawn (process_at w.table s) (slice_get w.services s) then Some (Respawn s) else None
