-- The text of a history is read as that history.
use Rattle.std.proofs.Common.{◌≡◌, ◌&&◌, sym, subst, ◌⊎◌, inl, inr, ℕ, suc, ◌<◌, ◌≤◌, ◌^◌, Bool, true, false, cond, List, [], ◌∷◌, ◌++◌, Some, None, refl, ap, ap₂, ◌∙◌, arith, append_assoc}
use Rattle.std.specs.Prelude.{map, codes, nat_lt, nat_le, All}
use Rattle.std.proofs.lemmas.Bool.{cases_Bool}
use Rattle.std.proofs.lemmas.Bool.Decides.{leb_tells}
use Rattle.std.proofs.lemmas.Slice.Eq.{bytes_eq-Decides}
use Rattle.std.specs.Str.{bytes_eq}
use Rattle.std.specs.Fmt.{decimal}
use Rattle.std.specs.List.{AllByRecursion}
use Rattle.mx_text.specs.Lines.{lines}
use Rattle.mx_text.specs.Fields.{fields, ◌>>=◌}
use Rattle.mx_boot.specs.declared.event_kind.EventKind.{EventKind}
use Rattle.mx_boot.specs.declared.event_kind.EventKind.TheVariants as kinds
use Rattle.mx_boot.specs.EventKinds.{event_word}
use Rattle.mx_boot.specs.Words.{AreWords, joined_words, lines_of_words}
use Rattle.mx_boot.specs.Script.{only_count, after_event_word}
use Rattle.mx_machine.specs.Rules.{Rules}
use Rattle.mx_machine.specs.Rules.TheVariants.{Lenient, Strict}
use Rattle.mx_machine.specs.declared.history.Record.{Record}
use Rattle.mx_machine.specs.declared.history.Recorded.{Recorded}
use Rattle.mx_machine.specs.declared.history.Recorded.TheVariants.{Take, Back, Line, Tick, Kill, Respawn}
use Rattle.mx_machine.specs.History.{number_of_record, IsWritable}
use Rattle.mx_boot.specs.Text.{event_words, record_words, history_text, saved_text}
use Rattle.mx_boot.proofs.EventKindWords.{event_kind_of-own}
use Rattle.mx_boot.proofs.WrittenNumbers.{decimal_is_word, number_of_decimal}
use Rattle.mx_boot.proofs.WrittenWords.{fields_of_joined, lines_of_written, event_kind_is_word}
use Rattle.mx_boot.specs.Log.{recorded_of, record_by, record_of, record_line, is_ended, says_strict, rules_of_lines, record_lines, IsHistory}

-- what is a record isn't the line of the rules
no_rules : (actors : ℕ) (fs : List (List ℕ)) (r : Record) → record_of actors fs ≡ Some r → says_strict fs ≡ false
no_rules actors [] r e = refl
no_rules actors (word ∷ []) r e = refl
no_rules actors (word ∷ number ∷ f ∷ fs) r e = refl
no_rules actors (word ∷ number ∷ []) r e = elim (cases_Bool (bytes_eq word (codes "rules"))) [
  | inl y ↦ let is : word ≡ codes "rules" = (bytes_eq-Decides word (codes "rules")).0 y in
      let none : None ≡ Some r = subst (λ (w : List ℕ). record_of actors (w ∷ number ∷ []) ≡ Some r) is e in absurd cc
  | inr n ↦ ap (λ b. b && bytes_eq number (codes "2")) n
]

no_rules_above : (actors : ℕ) (ls : List (List ℕ)) (records : List Record) → map (record_line actors) ls ≡ map Some records → (rules_of_lines ls ≡ Lenient) × (record_lines ls ≡ ls)
no_rules_above actors [] records e = (refl, refl)
no_rules_above actors (l ∷ ls) [] e = absurd cc
no_rules_above actors (l ∷ ls) (r ∷ rs) e =
    let first : record_line actors l ≡ Some r = cc in
    rw (no_rules actors (fields l) r first) (refl, refl)

chosen : {A : Type 0} (c : Bool) (a b : A) → c ≡ true → cond c a b ≡ a
chosen true a b h = refl
chosen false a b h = cc

below_true : (a b : ℕ) → a < b → nat_lt a b ≡ true
below_true a b h = by_case (leb_tells (suc a) b)
  where
    by_case : (((nat_le (suc a) b) ≡ true) × (suc a ≤ b)) ⊎ (((nat_le (suc a) b) ≡ false) × (b < suc a)) → nat_lt a b ≡ true
    by_case (inl p) = p.0
    by_case (inr p) = absurd (omega (arith, h, p.1))

text_of_words : (records : List Record) → history_text records ≡ lines_of_words (map record_words records)
text_of_words [] = refl
text_of_words (r ∷ rs) = ap (λ z. (joined_words (record_words r) ++ codes "\n") ++ z) (text_of_words rs)

-- a line feed ends a text as what follows it does
ended_after : (xs ys : List ℕ) → is_ended ys ≡ true → is_ended (xs ++ 10 ∷ ys) ≡ true
ended_after [] [] h = refl
ended_after [] (y ∷ ys) h = h
ended_after (x ∷ []) ys h = ended_after [] ys h
ended_after (x ∷ z ∷ xs) ys h = ended_after (z ∷ xs) ys h

text_is_ended : (records : List Record) → is_ended (history_text records) ≡ true
text_is_ended [] = refl
text_is_ended (r ∷ rs) =
    ap is_ended (append_assoc (joined_words (record_words r)) (10 ∷ []) (history_text rs))
    ∙ ended_after (joined_words (record_words r)) (history_text rs) (text_is_ended rs)

by_recursion : (P : Record → Type 0) (xs : List Record) → All P xs → AllByRecursion P xs
by_recursion P [] h = tt
by_recursion P (x ∷ xs) h = (h 0 x (omega arith), by_recursion P xs (λ n d l. h (suc n) d (omega (arith, l))))

event_words_are : (e : Recorded) → number_of_record e < 2 ^ 31 → AreWords (event_words e)
event_words_are Take h = (event_kind_is_word kinds.Take, tt)
event_words_are (Back n) h = (event_kind_is_word kinds.Back, (decimal_is_word n (omega (arith, h)), tt))
event_words_are (Line n) h = (event_kind_is_word kinds.Line, (decimal_is_word n (omega (arith, h)), tt))
event_words_are Tick h = (event_kind_is_word kinds.Tick, tt)
event_words_are (Kill n) h = (event_kind_is_word kinds.Kill, (decimal_is_word n (omega (arith, h)), tt))
event_words_are (Respawn n) h = (event_kind_is_word kinds.Respawn, (decimal_is_word n (omega (arith, h)), tt))

record_words_are : (actors : ℕ) (r : Record) → actors ≤ 256 → IsWritable actors r → AreWords (record_words r)
record_words_are actors r few h = (decimal_is_word r.actor (let a = h.actor in omega (arith, a, few)), event_words_are r.event h.number)

counted_again : (v : EventKind) (n : ℕ) (f : ℕ → Recorded) → n < 2 ^ 31
    → ((fs : List (List ℕ)) → recorded_of v fs ≡ (only_count fs >>= (λ m. Some (f m))))
    → after_event_word recorded_of (event_word v ∷ decimal n ∷ []) ≡ Some (f n)
counted_again v n f h rows =
    ap (λ o. o >>= (λ u. recorded_of u (decimal n ∷ []))) (event_kind_of-own v)
    ∙ rows (decimal n ∷ [])
    ∙ ap (λ o. o >>= (λ m. Some (f m))) (number_of_decimal 2147483647 n (omega (arith, h)) (omega (arith, h)))

recorded_again : (e : Recorded) → number_of_record e < 2 ^ 31 → after_event_word recorded_of (event_words e) ≡ Some e
recorded_again Take h = ap (λ o. o >>= (λ u. recorded_of u [])) (event_kind_of-own kinds.Take)
recorded_again (Back n) h = counted_again kinds.Back n Back h (λ fs. refl)
recorded_again (Line n) h = counted_again kinds.Line n Line h (λ fs. refl)
recorded_again Tick h = ap (λ o. o >>= (λ u. recorded_of u [])) (event_kind_of-own kinds.Tick)
recorded_again (Kill n) h = counted_again kinds.Kill n Kill h (λ fs. refl)
recorded_again (Respawn n) h = counted_again kinds.Respawn n Respawn h (λ fs. refl)

record_again : (actors : ℕ) (r : Record) → actors ≤ 256 → IsWritable actors r → record_of actors (record_words r) ≡ Some r
record_again actors r few h =
    ap (λ o. o >>= (λ a. after_event_word recorded_of (event_words r.event) >>= (λ e. record_by actors a e)))
    (number_of_decimal 255 r.actor (let a = h.actor in omega (arith, a, few)) (let a = h.actor in omega (arith, a, few)))
    ∙ ap (λ o. o >>= (λ e. record_by actors r.actor e)) (recorded_again r.event h.number)
    ∙ chosen (nat_lt r.actor actors) (Some r) None (below_true r.actor actors h.actor)

all_words : (actors : ℕ) (records : List Record) → actors ≤ 256 → AllByRecursion (IsWritable actors) records → AllByRecursion AreWords (map record_words records)
all_words actors [] few h = tt
all_words actors (r ∷ rs) few h = (record_words_are actors r few h.0, all_words actors rs few h.1)

all_read : (actors : ℕ) (records : List Record) → actors ≤ 256 → AllByRecursion (IsWritable actors) records
    → map (record_line actors) (map joined_words (map record_words records)) ≡ map Some records
all_read actors [] few h = refl
all_read actors (r ∷ rs) few h =
    ap₂ (λ o os. o ∷ os)
    (ap (record_of actors) (fields_of_joined (record_words r) (record_words_are actors r few h.0)) ∙ record_again actors r few h.0)
    (all_read actors rs few h.1)

records_again : (actors : ℕ) (records : List Record) → actors ≤ 256 → All (IsWritable actors) records → map (record_line actors) (lines (history_text records)) ≡ map Some records
records_again actors records few all =
    let h = by_recursion (IsWritable actors) records all in
    ap (map (record_line actors)) (ap lines (text_of_words records) ∙ lines_of_written (map record_words records) (all_words actors records few h))
    ∙ all_read actors records few h

pub read_again : (actors : ℕ) (rules : Rules) (records : List Record) → actors ≤ 256 → All (IsWritable actors) records → IsHistory actors (saved_text rules records) rules records
read_again actors Lenient records few all =
    let said = records_again actors records few all in
    let none = no_rules_above actors (lines (history_text records)) records said in
    (ap (map (record_line actors)) none.1 ∙ said, text_is_ended records, sym none.0)
read_again actors Strict records few all =
    (records_again actors records few all, ended_after (codes "rules 2") (history_text records) (text_is_ended records), refl)
