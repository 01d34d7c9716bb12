-- The numbers and names of the reasons to refuse an event. They are our own choice.
use Rattle.std.specs.Prelude.{ℕ, List, codes}
use Rattle.mx_machine.specs.declared.events.Refusal.{Refusal}
use Rattle.mx_machine.specs.declared.events.Refusal.TheVariants.{NotDown, Worn, NoService, CpuBusy, CpuEmpty, LogFull}
use Rattle.mx_machine.specs.declared.events.Refusal.TheVariants.{NoLine, NoProcess, AtStop}

abbrev pub code_of_refusal : Refusal → ℕ
code_of_refusal NotDown = 40
code_of_refusal Worn = 41
code_of_refusal NoService = 42
code_of_refusal CpuBusy = 50
code_of_refusal CpuEmpty = 51
code_of_refusal LogFull = 52
code_of_refusal NoLine = 53
code_of_refusal NoProcess = 54
code_of_refusal AtStop = 55

abbrev pub name_of_refusal : Refusal → List ℕ
name_of_refusal NotDown = codes "NotDown"
name_of_refusal Worn = codes "Worn"
name_of_refusal NoService = codes "NoService"
name_of_refusal CpuBusy = codes "CpuBusy"
name_of_refusal CpuEmpty = codes "CpuEmpty"
name_of_refusal LogFull = codes "LogFull"
name_of_refusal NoLine = codes "NoLine"
name_of_refusal NoProcess = codes "NoProcess"
name_of_refusal AtStop = codes "AtStop"
