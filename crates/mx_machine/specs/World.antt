-- The whole machine: the table of processes, the processors, the services, and the size of the history.
use Rattle.std.specs.Prelude.{ℕ, suc, ◌+◌, ◌-◌, List, [], ◌∷◌, Option, Some, None, length, slice_index_or}
use Rattle.mx_kcall.specs.Proc.TableState.{TableState}
use Rattle.mx_kcall.specs.Service.{Service}
use Rattle.mx_machine.specs.declared.holding.Out.{Out}

-- What a processor holds: a slot, and the process of that slot.
pub record HeldProcess : Type 0 where
  pub slot : ℕ
  pub out : Out

pub record World : Type 0 where
  pub table : TableState
  -- what each processor holds, from processor 0 on
  pub cpus : List (Option HeldProcess)
  -- how many actors aren't processors
  pub others : ℕ
  -- the service of each slot, from slot 0 on
  pub services : List Service
  -- how many records there are, and how many there may be
  pub records : ℕ
  pub capacity : ℕ

-- what processor a holds. None if it holds nothing, or if there is no such processor
abbrev pub held_by : World → ℕ → Option HeldProcess
held_by w a = slice_index_or w.cpus a None

-- how many actors there are: the processors, then the others
abbrev pub actors : World → ℕ
actors w = length w.cpus + w.others

-- how many processors hold a process
abbrev pub out_count : {X : Type 0} → List (Option X) → ℕ
out_count [] = 0
out_count (None ∷ xs) = out_count xs
out_count (Some x ∷ xs) = suc (out_count xs)

-- how many records are free: neither made, nor reserved for the Back of a process that is out
abbrev pub free_records : World → ℕ
free_records w = w.capacity - (w.records + out_count w.cpus)
