-- Words that are written with spaces between are read as these words, and lines as these lines.
use Rattle.std.proofs.Common.{◌≡◌, ℕ, Bool, true, false, cond, not, ◌&&◌, ◌||◌, List, [], ◌∷◌, ◌++◌, refl, ap, ◌∙◌, append_assoc}
use Rattle.std.specs.Prelude.{◌==◌, filter, map}
use Rattle.std.specs.List.{list_all, AllByRecursion, slice_split, onto_first}
use Rattle.std.proofs.lemmas.List.Splits.{slice_split-cons_yes, slice_split-cons_no}
use Rattle.std.proofs.lemmas.List.Folds.{list_all-append}
use Rattle.mx_text.specs.Lines.{lines, begun_by}
use Rattle.mx_text.specs.Fields.{is_space, has_bytes, fields}
use Rattle.mx_boot.specs.declared.event_kind.EventKind.{EventKind}
use Rattle.mx_boot.specs.declared.event_kind.EventKind.TheVariants.{Step, Take, Back, Line, Tick, Kill, Respawn}
use Rattle.mx_boot.specs.EventKinds.{event_word}
use Rattle.mx_boot.specs.Words.{is_word_byte_of_script, is_field_word, AreWords, joined_words, lines_of_words}

pub both : (a b : Bool) → (a && b) ≡ true → (a ≡ true) × (b ≡ true)
both true true h = (refl, refl)
both true false h = cc
both false b h = cc

pub and_true : (a b : Bool) → a ≡ true → b ≡ true → (a && b) ≡ true
and_true true true h g = refl
and_true true false h g = cc
and_true false b h g = cc

neither : (a b : Bool) → not (a || b) ≡ true → (a ≡ false) × (b ≡ false)
neither false false h = (refl, refl)
neither false true h = cc
neither true b h = cc

passed : {A : Type 0} (c : Bool) (a b : A) → c ≡ false → cond c a b ≡ b
passed true a b h = cc
passed false a b h = refl

no_space : (b : ℕ) → is_word_byte_of_script b ≡ true → is_space b ≡ false
no_space b h = (neither (b == 32) (b == 10) h).0

no_feed : (b : ℕ) → is_word_byte_of_script b ≡ true → (b == 10) ≡ false
no_feed b h = (neither (b == 32) (b == 10) h).1

split_word : (w rest : List ℕ) → list_all is_word_byte_of_script w ≡ true → slice_split is_space (w ++ 32 ∷ rest) ≡ w ∷ slice_split is_space rest
split_word [] rest h = slice_split-cons_yes is_space 32 rest refl
split_word (b ∷ bs) rest h =
    let p = both (is_word_byte_of_script b) (list_all is_word_byte_of_script bs) h in
    slice_split-cons_no is_space b (bs ++ 32 ∷ rest) (no_space b p.0) ∙ ap (onto_first b) (split_word bs rest p.1)

split_only : (w : List ℕ) → list_all is_word_byte_of_script w ≡ true → slice_split is_space w ≡ w ∷ []
split_only [] h = refl
split_only (b ∷ bs) h =
    let p = both (is_word_byte_of_script b) (list_all is_word_byte_of_script bs) h in
    slice_split-cons_no is_space b bs (no_space b p.0) ∙ ap (onto_first b) (split_only bs p.1)

with_bytes : (w : List ℕ) (ws : List (List ℕ)) → has_bytes w ≡ true → filter has_bytes (w ∷ ws) ≡ w ∷ filter has_bytes ws
with_bytes [] ws h = cc
with_bytes (b ∷ bs) ws h = refl

pub fields_of_joined : (ws : List (List ℕ)) → AreWords ws → fields (joined_words ws) ≡ ws
fields_of_joined [] h = refl
fields_of_joined (w ∷ []) h =
    let p = both (has_bytes w) (list_all is_word_byte_of_script w) h.0 in
    ap (filter has_bytes) (split_only w p.1) ∙ with_bytes w [] p.0
fields_of_joined (w ∷ v ∷ ws) h =
    let p = both (has_bytes w) (list_all is_word_byte_of_script w) h.0 in
    ap (filter has_bytes) (split_word w (joined_words (v ∷ ws)) p.1)
    ∙ with_bytes w (slice_split is_space (joined_words (v ∷ ws))) p.0
    ∙ ap (λ us. w ∷ us) (fields_of_joined (v ∷ ws) h.1)

feedless : (w : List ℕ) → list_all is_word_byte_of_script w ≡ true → list_all (λ b. not (b == 10)) w ≡ true
feedless [] h = refl
feedless (b ∷ bs) h =
    let p = both (is_word_byte_of_script b) (list_all is_word_byte_of_script bs) h in
    and_true (not (b == 10)) (list_all (λ b. not (b == 10)) bs) (ap not (no_feed b p.0)) (feedless bs p.1)

feedless_joined : (ws : List (List ℕ)) → AreWords ws → list_all (λ b. not (b == 10)) (joined_words ws) ≡ true
feedless_joined [] h = refl
feedless_joined (w ∷ []) h = feedless w (both (has_bytes w) (list_all is_word_byte_of_script w) h.0).1
feedless_joined (w ∷ v ∷ ws) h =
    list_all-append (λ b. not (b == 10)) w (32 ∷ joined_words (v ∷ ws))
    ∙ and_true (list_all (λ b. not (b == 10)) w) (list_all (λ b. not (b == 10)) (joined_words (v ∷ ws)))
    (feedless w (both (has_bytes w) (list_all is_word_byte_of_script w) h.0).1) (feedless_joined (v ∷ ws) h.1)

not_false : (b : Bool) → not b ≡ true → b ≡ false
not_false true h = cc
not_false false h = refl

line_ended : (l rest : List ℕ) → list_all (λ b. not (b == 10)) l ≡ true → lines (l ++ 10 ∷ rest) ≡ l ∷ lines rest
line_ended [] rest h = refl
line_ended (b ∷ bs) rest h =
    let p = both (not (b == 10)) (list_all (λ b. not (b == 10)) bs) h in
    passed (b == 10) ([] ∷ lines (bs ++ 10 ∷ rest)) (begun_by b (lines (bs ++ 10 ∷ rest))) (not_false (b == 10) p.0)
    ∙ ap (begun_by b) (line_ended bs rest p.1)

pub lines_of_written : (lists : List (List (List ℕ))) → AllByRecursion AreWords lists → lines (lines_of_words lists) ≡ map joined_words lists
lines_of_written [] h = refl
lines_of_written (ws ∷ lists) h =
    ap lines (append_assoc (joined_words ws) (10 ∷ []) (lines_of_words lists))
    ∙ line_ended (joined_words ws) (lines_of_words lists) (feedless_joined ws h.0)
    ∙ ap (λ ls. joined_words ws ∷ ls) (lines_of_written lists h.1)

pub event_kind_is_word : (v : EventKind) → is_field_word (event_word v) ≡ true
event_kind_is_word Step = refl
event_kind_is_word Take = refl
event_kind_is_word Back = refl
event_kind_is_word Line = refl
event_kind_is_word Tick = refl
event_kind_is_word Kill = refl
event_kind_is_word Respawn = refl
