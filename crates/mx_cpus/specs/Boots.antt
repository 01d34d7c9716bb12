-- A machine that was just booted.
use Rattle.std.specs.Prelude.{◌≡◌, ◌+◌, List, []}
use Rattle.atomic_table.specs.Seated.{TableId}
use Rattle.mx_machine.specs.declared.history.Record.{Record}
use Rattle.mx_machine.specs.History.{BootAndHistory}
use Rattle.mx_machine.specs.World.{World}
use Rattle.mx_machine.specs.declared.config.Config.{Config}
use Rattle.mx_spool.specs.Spools.{SpoolView}
use Rattle.mx_cpus.specs.Seats.{DeskView, SeatView, new_seats}
use Rattle.mx_cpus.specs.Calls.{IsLocked}

-- A blank: the table of its seats, the world at its boot, and the history so far
pub record BlankView : Type 0 where
  pub table : TableId
  pub boot : World
  pub history : List Record

abbrev pub blank_of : DeskView → BootAndHistory → BlankView
blank_of d k = record { table = d.table; boot = k.boot; history = k.history }

-- nothing has happened, and desk and spool agree with the kernel
abbrev pub IsBlank : DeskView → BootAndHistory → SpoolView → Type 0
IsBlank d k s = (k.history ≡ []) × IsLocked d.table k.boot k d s

-- the seats of all actors in order: the processors, then the others
abbrev pub all_seats : Config → TableId → List SeatView
all_seats config z = new_seats z (config.cpus + config.others)
