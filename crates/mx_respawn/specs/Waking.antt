-- One receiver, as `die` goes over them.
use Rattle.std.specs.Prelude.{ℕ, ◌==◌, ◌&&◌, not, if◌then◌else◌}
use Rattle.mx_ipc.specs.Proc.TableState.{TableState, process_at}
use Rattle.mx_respawn.specs.Death.{receives_from_alone, table_after_freeing}

-- a process goes on if it receives only from this slot
abbrev pub table_after_waking : TableState → ℕ → ℕ → TableState
table_after_waking w s t =
    if not (t == s) && receives_from_alone (process_at w t).state s then table_after_freeing w t else w
