use Rattle.std.proofs.Common.{◌≡◌, ◌-◌}
use Rattle.std.specs.List.{list_any, range_with_len}
use Rattle.mx_app_look.specs.Happenings.{any_fails, fails}
use Rattle.mx_app_look.proofs.happening.any_fails.Given as goal

-- those that are left decide
abbrev pub invariant-loop-slot : goal.invariant-loop-slot
invariant-loop-slot l = any_fails l.transition ≡ list_any (fails l.transition) (range_with_len l.slot (32 - l.slot))
