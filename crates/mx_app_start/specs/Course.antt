-- The texts that drive a machine, the configuration by which it boots then, and the failures of other texts (our own).
use Rattle.std.specs.Prelude.{◌≡◌, ℕ, ◌+◌, List}
use Rattle.mx_text.specs.Lines.{lines}
use Rattle.mx_text.specs.declared.error.BootError.{BootError}
use Rattle.mx_boot.specs.Config.{Config}
use Rattle.mx_boot.specs.declared.scripts.ScriptLine.{ScriptLine}
use Rattle.mx_boot.specs.Reading.{AreLinesRead, TellsUnread}
use Rattle.mx_boot.specs.Script.{script_line}
use Rattle.mx_machine.specs.declared.history.Record.{Record}
use Rattle.mx_machine.specs.Rules.{Rules}
use Rattle.mx_boot.specs.Log.{IsHistory, TellsHistoryFault}

abbrev pub IsScript : List ℕ → Config → Config → List ScriptLine → Type 0
IsScript text read config said = AreLinesRead script_line (lines text) said × (config ≡ read)

abbrev pub TellsScript : List ℕ → Config → BootError → Type 0
TellsScript text config e = TellsUnread script_line (lines text) e

-- by the machine's actors; it boots by the rules that the text says, whatever the configuration says
abbrev pub IsSaved : List ℕ → Config → Config → List Record → Type 0
IsSaved text read config records =
    (rules : Rules) × IsHistory (read.cpus + read.others) text rules records × (config ≡ record read { rules = rules })

abbrev pub TellsSaved : List ℕ → Config → BootError → Type 0
TellsSaved text config e = TellsHistoryFault (config.cpus + config.others) text e
