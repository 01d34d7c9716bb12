-- A line that begins as a service's does and is none sets nothing.
use Rattle.std.proofs.Common.{◌≡◌, ◌∙◌, ℕ, List, ◌∷◌, codes, sym}
use Rattle.mx_boot.specs.declared.service.ServiceWords.{ServiceWords}
use Rattle.mx_boot.specs.declared.item.ConfigItem.{ConfigItem}
use Rattle.mx_boot.specs.declared.item.ConfigItem.TheVariants.{Cpus, Log, Others, ByRules, Service}
use Rattle.mx_boot.specs.Items.{SaysService, SaysItem}

pub only_service : (word : List ℕ) (fs : List (List ℕ)) → word ≡ codes "service" → ((s : ServiceWords) → SaysService fs s → ⊥) → (i : ConfigItem) → SaysItem (word ∷ fs) i → ⊥
only_service word fs w none (Cpus n) said = let e : codes "service" ≡ codes "cpus" = sym w ∙ said.0 in cc
only_service word fs w none (Log n) said = let e : codes "service" ≡ codes "log" = sym w ∙ said.0 in cc
only_service word fs w none (Others n) said = let e : codes "service" ≡ codes "others" = sym w ∙ said.0 in cc
only_service word fs w none (ByRules r) said = let e : codes "service" ≡ codes "rules" = sym w ∙ said.0 in cc
only_service word fs w none (Service s) said = none s said.1
