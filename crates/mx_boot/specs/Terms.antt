-- The terms of a service: what its line has after the file (our own notation).
use Rattle.std.specs.Prelude.{ℕ, ◌≤◌, ◌<◌, nat_lt, if◌then◌else◌, List, [], ◌∷◌, length, codes, Option, Some, None}
use Rattle.std.specs.Str.{bytes_eq}
use Rattle.mx_text.specs.Fields.{◌>>=◌}
use Rattle.mx_text.specs.NumberFields.{number_up_to}
use Rattle.mx_proc.specs.declared.process.Masks.{Masks}
use Rattle.mx_boot.specs.declared.service.TermWords.{TermWords}

-- decimal digits
abbrev pub number_between : ℕ → ℕ → List ℕ → Option ℕ
number_between least most word = do
  n ← number_up_to most 10 word
  if nat_lt n least then None else Some n

-- 1 to 8 hexadecimal digits
abbrev pub mask : List ℕ → Option ℕ
mask word = if nat_lt 8 (length word) then None else number_up_to 4294967295 16 word

-- a key and its value, and the fields after them
abbrev pub key_with_value : List ℕ → List (List ℕ) → Option (List ℕ × List (List ℕ))
key_with_value key (k ∷ v ∷ fs) = if bytes_eq k key then Some (v, fs) else None
key_with_value key _ = None

-- a value that is read in a way, and the fields after it
abbrev pub read_as : (List ℕ → Option ℕ) → List ℕ → List (List ℕ) → Option (ℕ × List (List ℕ))
read_as reads key fs = do
  p ← key_with_value key fs
  n ← reads p.0
  Some (n, p.1)

-- traps T send S calls C, and the fields after them
unfoldable pub masks_of : List (List ℕ) → Option (Masks × List (List ℕ))
masks_of fs = do
  t ← read_as mask (codes "traps") fs
  s ← read_as mask (codes "send") t.1
  c ← read_as mask (codes "calls") s.1
  Some (record { traps = t.0; sends = s.0; calls = c.0 }, c.1)

-- the terms, if no field follows
abbrev pub term_words_at_end : TermWords → List (List ℕ) → Option TermWords
term_words_at_end terms [] = Some terms
term_words_at_end terms _ = None

-- level L best B quantum Q restarts R; the best level is no lower than the first, which has the larger number
unfoldable pub rest_of : Masks → List (List ℕ) → Option TermWords
rest_of masks fs = do
  l ← read_as (number_between 0 14) (codes "level") fs
  b ← read_as (number_between 0 l.0) (codes "best") l.1
  q ← read_as (number_between 1 65535) (codes "quantum") b.1
  r ← read_as (number_between 0 1048575) (codes "restarts") q.1
  term_words_at_end (record { masks = masks; level = l.0; best = b.0; quantum = q.0; restarts = r.0 }) r.1

abbrev pub term_words_of : List (List ℕ) → Option TermWords
term_words_of fs = do
  m ← masks_of fs
  rest_of m.0 m.1

-- the limits of the terms
pub record AreWithin (t : TermWords) : Type 0 where
  pub level : t.level ≤ 14
  pub best : t.best ≤ t.level
  pub some_ticks : 0 < t.quantum
  pub quantum : t.quantum ≤ 65535
  pub restarts : t.restarts ≤ 1048575
