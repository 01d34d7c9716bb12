use Rattle.std.proofs.Common.{◌∙◌, ap, drop, take}
use Rattle.mx_proc.specs.declared.devices.Devices.{Devices}
use Rattle.mx_keyboard.specs.Keyboard.{endpoint_in, owner_of_all}
use Rattle.mx_keyboard.proofs.looks.driver_in.Goals as goal

pub returns : goal.returns
returns c = c.endpoint_in.ensures ∙ ap (endpoint_in c.args.table.now) (c.owner_of_all.ensures ∙ ap (λ (d : Devices). owner_of_all (take 9 (drop 7 d.owners))) c.devices.ensures)
