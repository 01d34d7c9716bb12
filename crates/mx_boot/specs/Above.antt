-- What the lines above a line of a configuration have set.
use Rattle.std.specs.Prelude.{ℕ, ◌≤◌, List, [], length, Option, None, IfSome, All}
use Rattle.mx_proc.specs.declared.windows.Rules.{Rules}
use Rattle.mx_boot.specs.declared.service.ServiceWords.{ServiceWords}
use Rattle.mx_boot.specs.Items.{IsServiceWithin}

pub record ItemsAbove : Type 0 where
  pub cpus : Option ℕ
  pub log : Option ℕ
  pub others : Option ℕ
  pub rules : Option Rules
  pub services : List ServiceWords

abbrev pub nothing_above : ItemsAbove
nothing_above = record { cpus = None; log = None; others = None; rules = None; services = [] }

abbrev pub IsBetween : ℕ → ℕ → Option ℕ → Type 0
IsBetween least most said = IfSome said (λ n. (least ≤ n) × (n ≤ most))

-- all of it lies within a configuration's limits
pub record IsAbove (a : ItemsAbove) : Type 0 where
  pub cpus : IsBetween 1 8 a.cpus
  pub log : IsBetween 1 1048576 a.log
  pub others : IsBetween 1 4 a.others
  pub services : length a.services ≤ 32
  pub within : All IsServiceWithin a.services
