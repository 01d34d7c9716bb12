-- What a line of a configuration sets (our own notation).
use Rattle.std.specs.Prelude.{◌≡◌, ◌≤◌, ⊤, ℕ, Bool, false, ◌==◌, ◌||◌, List, [], ◌∷◌, codes, Option, Some, if◌then◌else◌}
use Rattle.std.specs.List.{before_first, list_any}
use Rattle.std.specs.Str.{IsUtf8}
use Rattle.mx_proc.specs.declared.windows.Rules.{Rules}
use Rattle.mx_proc.specs.declared.windows.Rules.TheVariants.{Lenient, Strict}
use Rattle.mx_text.specs.Names.{name_of}
use Rattle.mx_boot.specs.Names.{IsReserved}
use Rattle.mx_text.specs.Fields.{◌>>=◌, fields, only}
use Rattle.mx_boot.specs.declared.service.ServiceWords.{ServiceWords}
use Rattle.mx_boot.specs.declared.item.ConfigItem.{ConfigItem}
use Rattle.mx_boot.specs.declared.item.ConfigItem.TheVariants.{Cpus, Log, Others, ByRules, Service}
use Rattle.mx_boot.specs.Terms.{number_between, term_words_of, AreWithin}

abbrev pub is_byte : ℕ → ℕ → Bool
is_byte byte b = b == byte

abbrev pub is_hash : ℕ → Bool
is_hash = is_byte 35

-- the fields before a comment, which `#` begins
abbrev pub said_in : List ℕ → List (List ℕ)
said_in line = fields (before_first is_hash line)

-- a number after the word, and nothing more
abbrev pub number_after_word : ℕ → ℕ → List (List ℕ) → Option ℕ
number_after_word least most fs = do
  word ← only fs
  number_between least most word

-- 1 is the lenient rules, 2 the strict ones
abbrev pub rules_of_number : ℕ → Rules
rules_of_number n = if n == 1 then Lenient else Strict

abbrev pub rules_after_word : List (List ℕ) → Option Rules
rules_after_word fs = do
  n ← number_after_word 1 2 fs
  Some (rules_of_number n)

-- a tab or a carriage return, which is no part of a file's name
abbrev pub is_stray : ℕ → Bool
is_stray b = b == 9 || b == 13

-- NAME FILE and the terms: a name that isn't reserved, and a text
abbrev pub SaysService : List (List ℕ) → ServiceWords → Type 0
SaysService (name ∷ file ∷ fs) s =
    (name_of name ≡ Some s.name) × (IsReserved name → ⊥)
    × (file ≡ s.file.now) × IsUtf8 file × (list_any is_stray file ≡ false)
    × (term_words_of fs ≡ Some s.terms)
SaysService _ s = ⊥

-- `cpus N`, `log N`, `others N`, `rules N`, `service NAME FILE ..`
abbrev pub SaysItem : List (List ℕ) → ConfigItem → Type 0
SaysItem [] item = ⊥
SaysItem (word ∷ fs) (Cpus n) = (word ≡ codes "cpus") × (number_after_word 1 8 fs ≡ Some n)
SaysItem (word ∷ fs) (Log n) = (word ≡ codes "log") × (number_after_word 1 1048576 fs ≡ Some n)
SaysItem (word ∷ fs) (Others n) = (word ≡ codes "others") × (number_after_word 1 4 fs ≡ Some n)
SaysItem (word ∷ fs) (ByRules rules) = (word ≡ codes "rules") × (rules_after_word fs ≡ Some rules)
SaysItem (word ∷ fs) (Service s) = (word ≡ codes "service") × SaysService fs s

abbrev pub SaysNothing : List (List ℕ) → Type 0
SaysNothing fs = (item : ConfigItem) → SaysItem fs item → ⊥

-- its words are within a configuration's limits
abbrev pub IsServiceWithin : ServiceWords → Type 0
IsServiceWithin s = AreWithin s.terms

abbrev pub IsItemWithin : ConfigItem → Type 0
IsItemWithin (Cpus n) = (1 ≤ n) × (n ≤ 8)
IsItemWithin (Log n) = (1 ≤ n) × (n ≤ 1048576)
IsItemWithin (Others n) = (1 ≤ n) × (n ≤ 4)
IsItemWithin (ByRules rules) = ⊤
IsItemWithin (Service s) = IsServiceWithin s
