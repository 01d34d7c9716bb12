-- What kernel calls do to a table, besides the reply (our choice). Each call does one of these: what holds of each of
-- them holds of each call.
use Rattle.std.specs.Prelude.{ℕ, Option}
use Rattle.mx_respawn.specs.Proc.declared.process.DeathCause.TheVariants as cause
use Rattle.mx_respawn.specs.Proc.declared.windows.Window.{Window}
use Rattle.mx_respawn.specs.Proc.EndpointNumbers.{slot_of}
use Rattle.mx_respawn.specs.Proc.TableState.{TableState}
use Rattle.mx_respawn.specs.Proc.Serving.{with_alarm, with_owner, with_window, with_device_register, with_console_byte}
use Rattle.mx_respawn.specs.Proc.Serving.{with_copy}
use Rattle.mx_respawn.specs.Death.{table_after_death}
use Rattle.mx_kcall.specs.declared.request.CopyRange.{CopyRange}

pub data Effect : Type 0 where
  Nothing : Effect
  -- the caller's alarm is due then, or never
  SetsAlarm : (due : Option ℕ) → Effect
  -- a line's owner
  SetsOwner : (line : ℕ) → (owner : Option ℕ) → Effect
  -- a byte for the console
  WritesConsole : (byte : ℕ) → Effect
  SetsRegister : (register : ℕ) → (value : ℕ) → Effect
  Copies : (copy : CopyRange) → Effect
  -- the process in a slot dies
  Kills : (slot : ℕ) → Effect
  -- the caller's window for a slot
  SetsWindow : (user : ℕ) → (window : Option Window) → Effect

-- A TABLE AFTER what a call of s does
abbrev pub table_after_effect : TableState → ℕ → Effect → TableState
table_after_effect w s Nothing = w
table_after_effect w s (SetsAlarm due) = with_alarm w s due
table_after_effect w s (SetsOwner line owner) = with_owner w line owner
table_after_effect w s (WritesConsole byte) = with_console_byte w byte
table_after_effect w s (SetsRegister register value) = with_device_register w register value
table_after_effect w s (Copies copy) =
    with_copy w (slot_of copy.source.endpoint) copy.source.offset
    (slot_of copy.target.endpoint) copy.target.offset copy.count
table_after_effect w s (Kills slot) = table_after_death w slot cause.Kill
table_after_effect w s (SetsWindow user window) = with_window w s user window
