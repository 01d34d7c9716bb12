-- Two machines that are the same but for the image of the process in slot q, as their proofs go along them.
use Rattle.std.specs.Prelude.{◌≡◌, ℕ, map, Option, Some, None}
use Rattle.mx_machine.specs.World.{World, HeldProcess}
use Rattle.mx_laws.specs.Same.{frame_of}
use Rattle.mx_laws.proofs.Twins.{image_seen, is_slot, Twins}

-- what a processor holds, as it is seen: the image of the process of slot q is hidden
abbrev pub held_process_seen : ℕ → HeldProcess → HeldProcess
held_process_seen q l = record l { out = record l.out { image = image_seen (is_slot q l.slot) l.out.image } }

-- a processor may hold nothing
abbrev pub held_seen : ℕ → Option HeldProcess → Option HeldProcess
held_seen q None = None
held_seen q (Some l) = Some (held_process_seen q l)

pub record TwinWorlds (q : ℕ) (w v : World) : Type 0 where
  pub table : Twins q w.table v.table
  pub cpus : map (held_seen q) w.cpus ≡ map (held_seen q) v.cpus
  pub frame : frame_of w ≡ frame_of v
