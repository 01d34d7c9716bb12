use Rattle.std.proofs.Common.{◌≡◌, ◌++◌, drop}
use Rattle.mx_app_explain.specs.ServiceWords.{service_lines}
use Rattle.mx_app_explain.proofs.services.push_service_lines.Given as goal

-- with those that are left, all are there
abbrev pub invariant-loop-slot : goal.invariant-loop-slot
invariant-loop-slot l = l.out.items ++ service_lines l.config l.slot (drop l.slot l.config.lines) ≡ l.fn.out.items ++ service_lines l.config 0 l.config.lines
