-- What was wanted, and where (our own words).
use Rattle.std.specs.Prelude.{ℕ, ◌-◌, ◌==◌, ◌||◌, ◌&&◌, Bool, false, if◌then◌else◌, List, [], ◌∷◌, ◌++◌, codes, Option, Some, None, slice_get, slice_index}
use Rattle.std.specs.Str.{is_utf8}
use Rattle.std.specs.List.{before_first}
use Rattle.mx_boot.specs.Items.{is_hash, said_in}
use Rattle.mx_text.specs.Fields.{fields}
use Rattle.mx_text.specs.Lines.{lines}
use Rattle.mx_app_explain.specs.ConfigFaults.{fault_in}
use Rattle.mx_app_explain.specs.ConfigFields.{value_name, wanted_at, words_before}
use Rattle.mx_app_explain.specs.FoundWords.{field_told, found_at, found_told}
use Rattle.mx_app_explain.specs.Hints.{hint_told, words_told}
use Rattle.mx_app_explain.specs.LineLooks.{hint_at}
use Rattle.mx_app_explain.specs.MaskNames.{is_service, mask_hint}
use Rattle.mx_app_explain.specs.declared.config_field.Field.{Field}
use Rattle.mx_app_explain.specs.declared.config_field.Field.TheVariants.{Item, ItemEnd, ServiceEnd, Value}
use Rattle.mx_app_explain.specs.declared.config_field.Key.{Key as Kind}
use Rattle.mx_app_explain.specs.declared.line_looks.LineLooks.TheVariants.{Config}
use Rattle.mx_app_explain.specs.declared.detail.Detail.{Detail}
use Rattle.mx_app_explain.specs.declared.detail.Label.{Label}
use Rattle.mx_app_explain.specs.declared.detail.Label.TheVariants as labels

-- ---- where

abbrev pub value_told : List ℕ → List ℕ
value_told name = name ++ codes ": "

abbrev pub after_told : List ℕ → List ℕ → List ℕ
after_told first second = codes "after \"" ++ first ++ codes " " ++ second ++ codes "\": "

abbrev pub label_told : Label → List ℕ
label_told labels.Nowhere = []
label_told (labels.Value name) = value_told name.now
label_told (labels.After first second) = after_told first.now second.now
label_told (labels.In words) = words.now ++ codes "; "

-- the two words before a place, if they can be printed
abbrev pub after_words : Option (List ℕ) → Option (List ℕ) → List ℕ
after_words (Some first) (Some second) =
    if is_utf8 first then (if is_utf8 second then after_told first second else []) else []
after_words first second = []

-- a value is called by its name, and another word by the two words before it
abbrev pub field_label : List (List ℕ) → ℕ → Option (List ℕ) → List ℕ
field_label words before (Some name) = value_told name
field_label words before None =
    if before == 0 then [] else after_words (slice_get words (before - 2)) (slice_get words (before - 1))

-- ---- the whole

-- where, what was wanted, what is there, and what is added
abbrev pub wanted_told : List ℕ → List ℕ → List ℕ → List ℕ → List ℕ
wanted_told label wanted found hint = label ++ codes "wanted " ++ wanted ++ found ++ hint

abbrev pub detail_told : Detail → List ℕ
detail_told d = wanted_told (label_told d.label) d.wanted.now (found_told d.found) (hint_told d.hint)

-- ---- a configuration

-- what is added at a value of a configuration of these lines
abbrev pub value_hint : List (List ℕ) → Kind → Option (List ℕ) → List ℕ
value_hint ls key None = []
value_hint ls key (Some word) = mask_hint ls key word

-- a word that begins a comment elsewhere: ; or // or /*
abbrev pub is_remark : List ℕ → Bool
is_remark w =
    slice_index w 0 == 59 || (slice_index w 0 == 47 && (slice_index w 1 == 47 || slice_index w 1 == 42))

-- what is added where a comment may begin, at a word; or this
abbrev pub remark_or : Option (List ℕ) → List ℕ → List ℕ
remark_or None other = other
remark_or (Some word) other = if is_remark word then words_told (codes "a comment begins with #") else other

-- at a place of a line: where a comment may begin what begins it, at its first word what takes such a line, and at a
-- mask of names the number that it is
abbrev pub field_hint : List (List ℕ) → List ℕ → Field → List ℕ
field_hint ls line Item = remark_or (slice_get (fields line) 0) (hint_at line Config)
field_hint ls line ItemEnd = remark_or (slice_get (fields line) 2) []
field_hint ls line ServiceEnd = remark_or (slice_get (fields line) 17) []
field_hint ls line (Value key) = value_hint ls key (slice_get (fields line) (words_before (Value key)))
field_hint ls line place = []

-- what is told at a place of a line, which has no comment
abbrev pub wanted_of_field : List (List ℕ) → List ℕ → Field → List ℕ
wanted_of_field ls line place =
    wanted_told (field_label (fields line) (words_before place) (value_name place)) (wanted_at place)
    (found_at (slice_get (fields line) (words_before place))) (field_hint ls line place)

-- THE DETAIL of a configuration's line, if it has a fault of its own
abbrev pub field_detail : List (List ℕ) → List ℕ → Option Field → Option (List ℕ)
field_detail ls line None = None
field_detail ls line (Some place) = Some (wanted_of_field ls line place)

abbrev pub line_detail : List (List ℕ) → Option (List ℕ) → Option (List ℕ)
line_detail ls None = None
line_detail ls (Some line) =
    let said = before_first is_hash line in field_detail ls said (fault_in (fields said))

-- of a text without a line at fault: it has no service
abbrev pub has_service : List (List ℕ) → Bool
has_service [] = false
has_service (l ∷ ls) = is_service (said_in l) || has_service ls

abbrev pub service_detail : List (List ℕ) → Option (List ℕ)
service_detail ls =
    if has_service ls then None
    else Some (wanted_told [] (codes "at least one line service NAME FILE traps T send S calls C level L best B "
    ++ codes "quantum Q restarts R") [] [])

abbrev pub detail_or : Option (List ℕ) → Option (List ℕ) → Option (List ℕ)
detail_or None other = other
detail_or (Some detail) other = Some detail

-- a line that isn't there has none
abbrev pub text_detail : List (List ℕ) → Option (List ℕ) → Option (List ℕ)
text_detail ls None = None
text_detail ls (Some line) = detail_or (line_detail ls (Some line)) (service_detail ls)

abbrev pub config_detail : List ℕ → ℕ → Option (List ℕ)
config_detail text number = text_detail (lines text) (slice_get (lines text) (number - 1))

-- THE DETAIL of a word of a text for the assembler: what is wanted, and the word
abbrev pub word_detail : List ℕ → Option (List ℕ) → List ℕ
word_detail wanted None = wanted_told [] wanted [] []
word_detail wanted (Some word) = wanted_told [] wanted (field_told word) []
