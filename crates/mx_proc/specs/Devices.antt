-- Interrupt lines, machine registers and the console as they begin.
use Rattle.std.specs.Prelude.{None, replicate}
use Rattle.mx_proc.specs.declared.devices.Devices.{Devices}
use Rattle.mx_proc.specs.Console.{empty_console}

-- no line has an owner, registers are 0, nothing is on the console
abbrev pub no_devices : Devices
no_devices = record { owners = replicate 16 None; registers = replicate 256 0; console = empty_console }
