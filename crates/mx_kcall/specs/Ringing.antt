-- One alarm, as `tick` goes over them.
use Rattle.std.specs.Prelude.{ℕ, if◌then◌else◌}
use Rattle.mx_respawn.specs.Proc.TableState.{TableState, process_at}
use Rattle.mx_kcall.specs.Clock.{is_due, table_after_ring}

abbrev pub table_after_ring_if_due : TableState → ℕ → TableState
table_after_ring_if_due w s = if is_due w.uptime (process_at w s).alarm then table_after_ring w s else w
