-- What a configuration says, as text, each item once and in one order (our own). The names of the programs' files have
-- no part in it.
use Rattle.std.specs.Prelude.{ℕ, List, ◌++◌, codes}
use Rattle.std.specs.Fmt.{decimal}
use Rattle.std.specs.List.{before_first, flat_map}
use Rattle.mx_boot.specs.Items.{is_byte}
use Rattle.mx_machine.specs.declared.config.Config.{Config}
use Rattle.mx_machine.specs.declared.config.ServiceLine.{ServiceLine}
use Rattle.mx_machine.specs.Rules.{Rules}
use Rattle.mx_machine.specs.Rules.TheVariants.{Lenient, Strict}
use Rattle.mx_proc.specs.declared.process.Terms.{Terms}
use Rattle.mx_text.specs.declared.names.Name.{Name}

-- a name without the zero bytes that pad it
abbrev pub name_word : Name → List ℕ
name_word n = before_first (is_byte 0) n.bytes

abbrev pub rules_number : Rules → ℕ
rules_number Lenient = 1
rules_number Strict = 2

unfoldable pub machine_items : Config → List ℕ
machine_items c =
    codes "cpus " ++ decimal c.cpus ++ codes "\nothers " ++ decimal c.others
    ++ codes "\nlog " ++ decimal c.log ++ codes "\nrules " ++ decimal (rules_number c.rules) ++ codes "\n"

-- the masks, as decimal numbers
unfoldable pub mask_items : Terms → List ℕ
mask_items t =
    codes " traps " ++ decimal t.masks.traps ++ codes " send " ++ decimal t.masks.sends ++ codes " calls "
    ++ decimal t.masks.calls

unfoldable pub term_items : Terms → List ℕ
term_items t =
    mask_items t ++ codes " level " ++ decimal t.level ++ codes " best " ++ decimal t.best
    ++ codes " quantum " ++ decimal t.quantum ++ codes " restarts " ++ decimal t.restarts

unfoldable pub service_items : ServiceLine → List ℕ
service_items l = codes "service " ++ name_word l.name ++ term_items l.terms ++ codes "\n"

-- WHAT A CONFIGURATION SAYS: the machine's items, and a line for each service
abbrev pub items_text : Config → List ℕ
items_text c = machine_items c ++ flat_map service_items c.lines
