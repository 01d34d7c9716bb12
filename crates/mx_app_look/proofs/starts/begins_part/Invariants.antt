use Rattle.std.proofs.Common.{◌≡◌, ◌-◌}
use Rattle.mx_app_look.specs.Starts.{begins_part}
use Rattle.mx_app_look.proofs.starts.begins_part.Given as goal

-- of so many parts from here on, as are left, one begins there, if one does from the first on
abbrev pub invariant-loop : goal.invariant-loop
invariant-loop l = begins_part (l.address - l.counter) l.image l.address l.at ≡ begins_part l.address l.image l.address 0
