use Rattle.std.proofs.Common.{◌≡◌, ◌+◌, ◌-◌, ◌++◌}
use Rattle.std.specs.List.{flat_map, range_with_len}
use Rattle.mx_app_look.specs.Watches.{place_at, places_of}
use Rattle.mx_app_look.proofs.watches.places_of.Given as goal

-- the places so far, and those that are left
abbrev pub invariant-loop-offset : goal.invariant-loop-offset
invariant-loop-offset l = l.places.items ++ flat_map (place_at l.watch.slot) (range_with_len (l.watch.address + l.offset) (l.watch.count - l.offset)) ≡ places_of l.watch
