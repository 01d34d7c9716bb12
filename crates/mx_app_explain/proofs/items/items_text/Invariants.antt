use Rattle.std.proofs.Common.{◌≡◌, ◌++◌, take}
use Rattle.std.specs.List.{flat_map}
use Rattle.mx_app_explain.specs.Items.{machine_items, service_items}
use Rattle.mx_app_explain.proofs.items.items_text.Given as goal

abbrev pub invariant-loop-line : goal.invariant-loop-line
invariant-loop-line l = l.out.items ≡ machine_items l.config ++ flat_map service_items (take l.line-index l.line-items)
