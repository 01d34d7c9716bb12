-- What a sink took, from the front of what it was given on.
use Rattle.std.proofs.Common.{◌≡◌, ◌∙◌, ℕ, ◌+◌, List, [], ◌∷◌, ◌++◌, take, drop, append_assoc, Result, Ok, Err, OnErr, codes, sym, ap}
use Rattle.std.proofs.lemmas.Grind.{flat_map-append}
use Rattle.std.proofs.lemmas.List.{take-append-drop}
use Rattle.mx_boot.specs.Words.{joined_words}
use Rattle.mx_machine.specs.Rules.{Rules}
use Rattle.mx_machine.specs.declared.history.Record.{Record}
use Rattle.mx_boot.specs.Taking.{IsTakenBut}
use Rattle.mx_boot.specs.Text.{history_text, record_words, rules_text, saved_text}

-- lines above, and a front of one line
pub lines_taken : (before after later line rest above below text : List ℕ) → after ≡ before ++ above → text ≡ above ++ (line ++ below) → IsTakenBut after later line rest → IsTakenBut before later text (rest ++ below)
lines_taken before after later line rest above below text h parts g = record {
  front = above ++ g.front;
  parts = parts ∙ ap (λ (l : List ℕ). above ++ l) (ap (λ (l : List ℕ). l ++ below) g.parts ∙ append_assoc g.front rest below) ∙ sym (append_assoc above g.front (rest ++ below));
  taken = g.taken ∙ ap (λ (l : List ℕ). l ++ g.front) h ∙ append_assoc before above g.front;
}

-- a text by the lines above a record's, that line, and those below it
pub parted_text : (xs : List Record) (i : ℕ) (x : Record) (line : List ℕ) → take (i + 1) xs ≡ take i xs ++ x ∷ [] → line ≡ joined_words (record_words x) ++ codes "\n"
    → history_text xs ≡ history_text (take i xs) ++ (line ++ history_text (drop (i + 1) xs))
parted_text xs i x line more is =
    ap history_text (sym (take-append-drop (i + 1) xs) ∙ ap (λ (l : List Record). l ++ drop (i + 1) xs) more ∙ append_assoc (take i xs) (x ∷ []) (drop (i + 1) xs))
    ∙ flat_map-append (λ (r : Record). joined_words (record_words r) ++ codes "\n") (take i xs) (x ∷ drop (i + 1) xs)
    ∙ ap (λ (l : List ℕ). history_text (take i xs) ++ (l ++ history_text (drop (i + 1) xs))) (sym is)

pub on_err : {A E : Type 0} (r : Result A E) (P : Type 0) → P → OnErr r P
on_err (Ok a) P p = tt
on_err (Err e) P p = p

-- a front of the rules' line, and nothing of the records
pub rules_front : (before after line : List ℕ) (rules : Rules) (rest : List ℕ) (records : List Record) → line ≡ rules_text rules → IsTakenBut before after line rest → IsTakenBut before after (saved_text rules records) (rest ++ history_text records)
rules_front before after line rules rest records is g = record {
  front = g.front;
  parts = ap (λ (l : List ℕ). l ++ history_text records) (sym is ∙ g.parts) ∙ append_assoc g.front rest (history_text records);
  taken = g.taken;
}

-- the rules' line, and a front of the records
pub records_front : (before after later line : List ℕ) (rules : Rules) (rest : List ℕ) (records : List Record) → after ≡ before ++ line → line ≡ rules_text rules
    → IsTakenBut after later (history_text records) rest → IsTakenBut before later (saved_text rules records) rest
records_front before after later line rules rest records h is g = record {
  front = line ++ g.front;
  parts = ap (λ (l : List ℕ). l ++ history_text records) (sym is) ∙ ap (λ (l : List ℕ). line ++ l) g.parts ∙ sym (append_assoc line g.front rest);
  taken = g.taken ∙ ap (λ (l : List ℕ). l ++ g.front) h ∙ append_assoc before line g.front;
}

pub on_err_more : {A E : Type 0} (r : Result A E) (P Q : Type 0) → (P → Q) → OnErr r P → OnErr r Q
on_err_more (Ok a) P Q f p = tt
on_err_more (Err e) P Q f p = f p
