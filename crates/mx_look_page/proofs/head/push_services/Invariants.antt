use Rattle.std.proofs.Common.{◌≡◌, ◌++◌, take}
use Rattle.std.specs.List.{flat_map}
use Rattle.mx_look_page.specs.Heads.{service_text}
use Rattle.mx_look_page.proofs.head.push_services.Given as goal

-- those so far
abbrev pub invariant-loop-service : goal.invariant-loop-service
invariant-loop-service l = l.out.items ≡ l.initial.out.items ++ flat_map service_text (take l.service-index l.services)
