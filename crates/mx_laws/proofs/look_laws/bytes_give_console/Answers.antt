use Rattle.mx_laws.proofs.Consoles.{at_boot, byte_told, console_told}
use Rattle.mx_laws.proofs.look_laws.bytes_give_console.Goals as goal

pub returns-clause-console : goal.returns-clause-console
returns-clause-console c = console_told

pub returns-clause-row : goal.returns-clause-row
returns-clause-row c = byte_told

pub returns-clause-boot : goal.returns-clause-boot
returns-clause-boot c = at_boot
