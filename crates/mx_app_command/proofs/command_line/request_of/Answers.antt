use Rattle.std.proofs.Common.{sym, ◌∙◌}
use Rattle.mx_app_command.proofs.command_line.request_of.Goals as goal

pub machine_request-requires : goal.machine_request-requires
machine_request-requires c = c.requires.0 (sym c.is_machine.ensures ∙ c.if-is_machine.true)
