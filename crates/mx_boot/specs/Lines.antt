-- The lines of a configuration, and the errors that they have (our own notation; the codes are our choice).
use Rattle.std.specs.Prelude.{◌≡◌, ◌≢◌, ◌⊎◌, ℕ, ◌+◌, Bool, false, nat_le, if◌then◌else◌, List, [], ◌∷◌, ◌++◌, length, Option, Some, None, is_some, unwrap_or}
use Rattle.std.specs.List.{list_any}
use Rattle.std.specs.Str.{bytes_eq}
use Rattle.mx_text.specs.Lines.{lines, last_line}
use Rattle.mx_text.specs.declared.error.BootError.{BootError}
use Rattle.mx_text.specs.declared.error.BootError.TheVariants.{BadLine, TwiceNamed, TooMany, NoMemory}
use Rattle.mx_text.specs.declared.names.Name.{Name}
use Rattle.mx_proc.specs.declared.windows.Rules.TheVariants.{Strict}
use Rattle.mx_machine.specs.declared.config.ServiceLine.{ServiceLine}
use Rattle.mx_machine.specs.declared.config.Config.{Config}
use Rattle.mx_proc.specs.declared.process.Terms.{Terms}
use Rattle.mx_boot.specs.declared.service.TermWords.{TermWords}
use Rattle.mx_boot.specs.declared.service.ServiceWords.{ServiceWords}
use Rattle.mx_boot.specs.declared.item.ConfigItem.{ConfigItem}
use Rattle.mx_boot.specs.declared.item.ConfigItem.TheVariants.{Cpus, Log, Others, ByRules, Service}
use Rattle.mx_boot.specs.Items.{said_in, SaysItem, SaysNothing}
use Rattle.mx_boot.specs.Above.{ItemsAbove, nothing_above}

-- ---- what a line may not set below others

abbrev pub has_service_name : List ServiceWords → Name → Bool
has_service_name above name = list_any (λ (t : ServiceWords). bytes_eq t.name.bytes name.bytes) above

-- an item, or a service's name, that a line above has already
abbrev pub is_twice : ItemsAbove → ConfigItem → Bool
is_twice a (Cpus n) = is_some a.cpus
is_twice a (Log n) = is_some a.log
is_twice a (Others n) = is_some a.others
is_twice a (ByRules rules) = is_some a.rules
is_twice a (Service s) = has_service_name a.services s.name

-- a service below 32 others
abbrev pub is_service_too_many : ItemsAbove → ConfigItem → Bool
is_service_too_many a (Service s) = nat_le 32 (length a.services)
is_service_too_many a item = false

-- the first reason to refuse what line n sets
abbrev pub item_refusal : ℕ → ItemsAbove → ConfigItem → Option BootError
item_refusal n a item =
    if is_twice a item then Some (TwiceNamed n) else if is_service_too_many a item then Some (TooMany n) else None

abbrev pub items_with : ItemsAbove → ConfigItem → ItemsAbove
items_with a (Cpus n) = record a { cpus = Some n }
items_with a (Log n) = record a { log = Some n }
items_with a (Others n) = record a { others = Some n }
items_with a (ByRules rules) = record a { rules = Some rules }
items_with a (Service s) = record a { services = a.services ++ s ∷ [] }

-- ---- lines

-- a line that is empty but for a comment, or one that sets what it may
abbrev pub IsItemTaken : ItemsAbove → ℕ → List ℕ → ItemsAbove → Type 0
IsItemTaken a n line b =
    ((said_in line ≡ []) × (b ≡ a))
    ⊎ ((item : ConfigItem) × SaysItem (said_in line) item × (item_refusal n a item ≡ None) × (b ≡ items_with a item))

-- the error of line n
abbrev pub IsItemWrong : ItemsAbove → ℕ → List ℕ → BootError → Type 0
IsItemWrong a n line e =
    ((said_in line ≢ []) × SaysNothing (said_in line) × (e ≡ BadLine n))
    ⊎ ((item : ConfigItem) × SaysItem (said_in line) item × (item_refusal n a item ≡ Some e))

-- the first of these lines is line n
abbrev pub AreItemsTaken : ItemsAbove → ℕ → List (List ℕ) → ItemsAbove → Type 0
AreItemsTaken a n [] c = c ≡ a
AreItemsTaken a n (l ∷ ls) c = (b : ItemsAbove) × IsItemTaken a n l b × AreItemsTaken b (n + 1) ls c

abbrev pub IsFirstItemWrong : ItemsAbove → ℕ → List (List ℕ) → BootError → Type 0
IsFirstItemWrong a n [] e = ⊥
IsFirstItemWrong a n (l ∷ ls) e =
    IsItemWrong a n l e ⊎ ((b : ItemsAbove) × IsItemTaken a n l b × IsFirstItemWrong b (n + 1) ls e)

-- ---- configurations

-- the words for what a service gives its processes
abbrev pub words_of_terms : Terms → TermWords
words_of_terms t =
    record { masks = t.masks; level = t.level; best = t.best; quantum = t.quantum; restarts = t.restarts }

-- The service's line has these words.
pub record IsLineOf (words : ServiceWords) (line : ServiceLine) : Type 0 where
  pub name : line.name ≡ words.name
  pub file : line.file ≡ words.file.now
  pub terms : words_of_terms line.terms ≡ words.terms

abbrev pub AreLinesOf : List ServiceWords → List ServiceLine → Type 0
AreLinesOf [] [] = Unit {0}
AreLinesOf (w ∷ ws) (l ∷ ls) = IsLineOf w l × AreLinesOf ws ls
AreLinesOf _ _ = ⊥

-- if no line sets them: 1 processor, room for 65,536 records, 1 other and the strict rules
pub record IsConfigOf (a : ItemsAbove) (config : Config) : Type 0 where
  pub cpus : config.cpus ≡ unwrap_or a.cpus 1
  pub others : config.others ≡ unwrap_or a.others 1
  pub log : config.log ≡ unwrap_or a.log 65536
  pub rules : config.rules ≡ unwrap_or a.rules Strict
  pub lines : AreLinesOf a.services config.lines

-- a text without a fault sets all this
abbrev pub SaysConfig : List ℕ → ItemsAbove → Type 0
SaysConfig text a = AreItemsTaken nothing_above 1 (lines text) a × (a.services ≢ [])

abbrev pub IsConfig : List ℕ → Config → Type 0
IsConfig text config = (a : ItemsAbove) × SaysConfig text a × IsConfigOf a config

-- the first line at fault, else the last line, if there is no service
abbrev pub HasConfigFault : List ℕ → BootError → Type 0
HasConfigFault text e =
    IsFirstItemWrong nothing_above 1 (lines text) e
    ⊎ ((a : ItemsAbove) × AreItemsTaken nothing_above 1 (lines text) a × (a.services ≡ [])
    × (e ≡ BadLine (last_line (lines text))))

-- the error if no configuration is answered: the first fault, and out of memory only if there is none
abbrev pub TellsConfigFault : List ℕ → BootError → Type 0
TellsConfigFault text e = HasConfigFault text e ⊎ ((a : ItemsAbove) × SaysConfig text a × (e ≡ NoMemory))
