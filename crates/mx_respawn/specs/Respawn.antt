-- Respawn (our choice): the slot of a dead process gets a new one from its service.
use Rattle.std.specs.Prelude.{ℕ, ◌-◌, ◌^◌, ◌||◌, nat_le, Bool}
use Rattle.mx_ipc.specs.Proc.declared.process.Process.{Process}
use Rattle.mx_ipc.specs.Proc.TableState.{TableState, process_at, process_after, table_after_revival}
use Rattle.mx_load.specs.Load.{image_of_program}
use Rattle.mx_respawn.specs.declared.service.Service.{Service}

-- its restarts are used up, or its generation is the last one
abbrev pub is_worn : Process → Service → Bool
is_worn p v = nat_le v.terms.restarts p.restarts_used || nat_le (2 ^ 20 - 1) p.generation

-- the process after a dead one: nothing of that is left but its generation and its restarts, each one more
abbrev pub next_process : Process → Service → Process
next_process p v = process_after p (image_of_program v.program) v.terms

-- A RESPAWN: it is ready, at the end of the list of the service's level
unfoldable pub table_after_respawn : TableState → ℕ → Service → TableState
table_after_respawn w s v = table_after_revival w s (next_process (process_at w s) v)
