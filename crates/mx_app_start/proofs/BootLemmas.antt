-- A machine before its first event.
use Rattle.std.proofs.Common.{◌≡◌, ◌∙◌, ◌<◌, List, None, length, ap, arith}
use Rattle.std.proofs.lemmas.List.{length-replicate}
use Rattle.mx_machine.specs.Service.{Service}
use Rattle.mx_boot.specs.Config.{Config}
use Rattle.mx_machine.specs.Boot.{world_at_boot}
use Rattle.mx_machine.specs.World.{World, actors}

-- the first actor that is no processor
pub other_booted : (w : World) (c : Config) (vs : List Service) → w ≡ world_at_boot c vs → c.cpus < actors w
other_booted w c vs e =
    let as_many : length (world_at_boot c vs).cpus ≡ c.cpus = length-replicate c.cpus None in
    let n : length w.cpus ≡ c.cpus = ap (λ (x : World). length x.cpus) e ∙ as_many in
    let o : w.others ≡ c.others = ap (λ (x : World). x.others) e in
    omega (arith, n, o, c.some_others)
