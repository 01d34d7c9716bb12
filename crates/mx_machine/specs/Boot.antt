-- The machine at boot. MINIX 3.1's main.c puts the processes of the boot image into the table and makes them
-- ready. Their first values are our choice.
use Rattle.std.specs.Prelude.{ℕ, ◌+◌, ◌==◌, List, [], ◌∷◌, None, map, replicate, if◌then◌else◌}
use Rattle.std.specs.List.{range_with_len}
use Rattle.mx_kcall.specs.Load.{image_of_program}
use Rattle.mx_kcall.specs.Proc.declared.process.Process.{Process}
use Rattle.mx_kcall.specs.Proc.declared.windows.Rules.{Rules}
use Rattle.mx_kcall.specs.Proc.TableState.{TableState, empty_table, new_process}
use Rattle.mx_kcall.specs.Service.{Service}
use Rattle.mx_machine.specs.declared.config.Config.{Config}
use Rattle.mx_machine.specs.World.{World}

-- the first process of a service: ready, with its program's image, a full quantum and generation 0
abbrev pub first_process : Service → Process
first_process s = new_process (image_of_program s.program) s.terms

-- the slots of those services that begin at this level. The first service has slot n, the next n + 1
abbrev pub slots_from : ℕ → ℕ → List Service → List ℕ
slots_from n level [] = []
slots_from n level (s ∷ ss) =
    if s.terms.level == level then n ∷ slots_from (n + 1) level ss else slots_from (n + 1) level ss

-- one slot for each service, in their order; each ready list has its slots in slot order; all else is
-- as in an empty table
unfoldable pub first_table : Rules → List Service → TableState
first_table rules services = record (empty_table rules) {
  slots = map first_process services;
  ready = map (λ level. slots_from 0 level services) (range_with_len 0 16);
}

-- BOOT: the first table; no processor has a process, and there are no records
abbrev pub world_at_boot_with : Rules → List Service → ℕ → ℕ → ℕ → World
world_at_boot_with rules services cpus others capacity = record {
  table = first_table rules services;
  cpus = replicate cpus None;
  others = others;
  services = services;
  records = 0;
  capacity = capacity;
}

-- boot by the values of a configuration
abbrev pub world_at_boot : Config → List Service → World
world_at_boot config services = world_at_boot_with config.rules services config.cpus config.others config.log
