-- THE FAULT OF A LINE of a configuration (our own): the first place where another word is wanted. What lines above say
-- is no fault of a line here.
use Rattle.std.specs.Prelude.{ℕ, ◌-◌, ◌==◌, ◌||◌, ◌&&◌, not, false, if◌then◌else◌, Bool, List, [], ◌∷◌, codes, Option, Some, None, is_some, Result, Ok, Err, slice_get, slice_index}
use Rattle.std.specs.List.{list_any}
use Rattle.std.specs.Str.{bytes_eq, is_utf8}
use Rattle.mx_text.specs.Names.{name_of}
use Rattle.mx_text.specs.Lines.{lines}
use Rattle.mx_boot.specs.Items.{is_stray, said_in}
use Rattle.mx_boot.specs.Terms.{mask, number_between}
use Rattle.mx_app_explain.specs.declared.config_field.Key.{Key as Kind}
use Rattle.mx_app_explain.specs.declared.config_field.Key.TheVariants as keys
use Rattle.mx_app_explain.specs.declared.config_field.Field.{Field}
use Rattle.mx_app_explain.specs.declared.config_field.Field.TheVariants.{Item, Cpus, Others, Log, Rules, ItemEnd, Name, File, Key, Value, ServiceEnd}
use Rattle.mx_app_explain.specs.ConfigFields.{key_word}
use Rattle.mx_app_explain.specs.TextWords.{is_reserved}

-- what follows a part of the line without a fault
infixl 10 ◌>>=◌
abbrev pub ◌>>=◌ : {A B : Type 0} → Result A Field → (A → Result B Field) → Result B Field
(Err e) >>= f = Err e
(Ok x) >>= f = f x

-- the first word, and those after it
abbrev pub word_at : Field → List (List ℕ) → Result (List ℕ × List (List ℕ)) Field
word_at place [] = Err place
word_at place (word ∷ more) = Ok (word, more)

-- what is after a word that fits
abbrev pub fitting : Bool → Field → List (List ℕ) → Result (List (List ℕ)) Field
fitting fits place rest = if fits then Ok rest else Err place

abbrev pub after_key : Kind → List (List ℕ) → Result (List (List ℕ)) Field
after_key key fs = do
  p ← word_at (Key key) fs
  fitting (bytes_eq p.0 (key_word key)) (Key key) p.1

abbrev pub after_mask : Kind → List (List ℕ) → Result (List (List ℕ)) Field
after_mask key fs = do
  rest ← after_key key fs
  p ← word_at (Value key) rest
  fitting (is_some (mask p.0)) (Value key) p.1

-- a number, and the words after it
abbrev pub number_or : Field → List (List ℕ) → Option ℕ → Result (ℕ × List (List ℕ)) Field
number_or place rest None = Err place
number_or place rest (Some n) = Ok (n, rest)

abbrev pub number_at : Field → ℕ → ℕ → List (List ℕ) → Result (ℕ × List (List ℕ)) Field
number_at place least most fs = do
  p ← word_at place fs
  number_or place p.1 (number_between least most p.0)

abbrev pub after_number : Kind → ℕ → ℕ → List (List ℕ) → Result (ℕ × List (List ℕ)) Field
after_number key least most fs = do
  rest ← after_key key fs
  number_at (Value key) least most rest

-- NAME
unfoldable pub after_name : List (List ℕ) → Result (List (List ℕ)) Field
after_name fs = do
  n ← word_at Name fs
  fitting (is_some (name_of n.0) && not (is_reserved n.0)) Name n.1

-- the word after a file's name
abbrev pub is_traps : List (List ℕ) → Bool
is_traps [] = false
is_traps (word ∷ more) = bytes_eq word (key_word keys.Traps)

-- no file's name, by what follows: the next key, or the first word in quotes
abbrev pub is_misfit : List ℕ → List (List ℕ) → Bool
is_misfit file rest =
    (bytes_eq file (key_word keys.Traps) || (slice_index file 0 == 34)) && not (is_traps rest)

-- NAME FILE
unfoldable pub after_file : List (List ℕ) → Result (List (List ℕ)) Field
after_file fs = do
  rest ← after_name fs
  f ← word_at File rest
  fitting (not (list_any is_stray f.0) && (is_utf8 f.0 && not (is_misfit f.0 f.1))) File f.1

-- traps T send S calls C
unfoldable pub after_masks : List (List ℕ) → Result (List (List ℕ)) Field
after_masks fs = do
  t ← after_mask keys.Traps fs
  s ← after_mask keys.Send t
  after_mask keys.Calls s

-- level L best B quantum Q restarts R
unfoldable pub after_levels : List (List ℕ) → Result (ℕ × List (List ℕ)) Field
after_levels fs = do
  l ← after_number keys.Level 0 14 fs
  b ← after_number keys.Best 0 l.0 l.1
  q ← after_number keys.Quantum 1 65535 b.1
  after_number keys.Restarts 0 1048575 q.1

unfoldable pub after_service : List (List ℕ) → Result (ℕ × List (List ℕ)) Field
after_service fs = do
  terms ← after_file fs
  levels ← after_masks terms
  after_levels levels

-- no word is left
abbrev pub end_fault : Field → List (List ℕ) → Option Field
end_fault place [] = None
end_fault place (word ∷ more) = Some place

abbrev pub fault_after : Field → Result (ℕ × List (List ℕ)) Field → Option Field
fault_after end (Err place) = Some place
fault_after end (Ok p) = end_fault end p.1

-- the fault after an item's first word that isn't `service`
abbrev pub fault_of_other : List ℕ → List (List ℕ) → Option Field
fault_of_other word fs =
    if bytes_eq word (codes "cpus") then fault_after ItemEnd (number_at Cpus 1 8 fs) else
    if bytes_eq word (codes "others") then fault_after ItemEnd (number_at Others 1 4 fs) else
    if bytes_eq word (codes "log") then fault_after ItemEnd (number_at Log 1 1048576 fs) else
    if bytes_eq word (codes "rules") then fault_after ItemEnd (number_at Rules 1 2 fs) else
    Some Item

-- THE FAULT of a line that has these words: the first that isn't as the form wants it
abbrev pub fault_of_item : List ℕ → List (List ℕ) → Option Field
fault_of_item word fs =
    if bytes_eq word (codes "service") then fault_after ServiceEnd (after_service fs) else fault_of_other word fs

unfoldable pub fault_in : List (List ℕ) → Option Field
fault_in [] = None
fault_in (word ∷ fs) = fault_of_item word fs

-- the words of a text's line that has this number, counted from 1
abbrev pub words_of_line : Option (List ℕ) → List (List ℕ)
words_of_line None = []
words_of_line (Some line) = said_in line

abbrev pub words_at : List ℕ → ℕ → List (List ℕ)
words_at text number = words_of_line (slice_get (lines text) (number - 1))
