-- Two machines that are the same but for the image of the process in slot q.
use Rattle.std.specs.Prelude.{◌≡◌, ◌≢◌, ℕ, ◌==◌, true, [], map, length, Option, Some, None, if◌then◌else◌}
use Rattle.mx_exec.specs.declared.image.Image.{Image}
use Rattle.mx_exec.specs.Image.{blank}
use Rattle.mx_proc.specs.declared.process.Process.{Process}
use Rattle.mx_proc.specs.declared.windows.Rules.TheVariants.{Lenient}
use Rattle.mx_proc.specs.Sound.{HasBuffer}
use Rattle.mx_proc.specs.States.{is_blocked}
use Rattle.mx_proc.specs.TableState.{TableState, empty_table, process_at, with_image}
use Rattle.mx_machine.specs.Move.{with_held}
use Rattle.mx_machine.specs.World.{World, HeldProcess}

-- ---- tables

-- a process with a blank image
abbrev pub without_image : Process → Process
without_image p = record p { image = blank }

-- Two processes that are the same but for their images. The images have the same limit, and who waits in a call has its
-- buffer inside.
pub record SameButImage (p r : Process) : Type 0 where
  pub same : without_image p ≡ without_image r
  pub limit : length p.image.memory ≡ length r.image.memory
  pub left : is_blocked p.state ≡ true → HasBuffer p
  pub right : is_blocked r.state ≡ true → HasBuffer r

-- a table without its processes
abbrev pub rest_of : TableState → TableState
rest_of w = record w { slots = [] }

-- Two tables that are the same but for the image of the process in slot q.
pub record SameTableBut (q : ℕ) (w v : TableState) : Type 0 where
  pub slots : length w.slots ≡ length v.slots
  pub others : (s : ℕ) → s ≢ q → process_at w s ≡ process_at v s
  pub own : SameButImage (process_at w q) (process_at v q)
  pub rest : rest_of w ≡ rest_of v

-- ---- machines

-- what a processor holds, with a blank image if it is the process of slot q
abbrev pub held_but : ℕ → Option HeldProcess → Option HeldProcess
held_but q None = None
held_but q (Some l) = Some (if l.slot == q then record l { out = record l.out { image = blank } } else l)

-- a machine without its table and what its processors hold
abbrev pub frame_of : World → World
frame_of w = record w { table = empty_table Lenient; cpus = [] }

-- THE SAME BUT for one image, at home or on a processor
pub record SameBut (q : ℕ) (w v : World) : Type 0 where
  pub table : SameTableBut q w.table v.table
  pub cpus : map (held_but q) w.cpus ≡ map (held_but q) v.cpus
  pub frame : frame_of w ≡ frame_of v

-- ---- another image

-- the machine with another image in a slot
abbrev pub world_with_image : World → ℕ → Image → World
world_with_image w q m = record w { table = with_image w.table q m }

-- the machine with another image on a processor that holds a process
abbrev pub world_with_image_held : World → ℕ → HeldProcess → Image → World
world_with_image_held w a l m = with_held w a (Some (record l { out = record l.out { image = m } }))
