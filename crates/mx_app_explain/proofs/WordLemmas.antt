-- One service more, and words or none.
use Rattle.std.proofs.Common.{◌≡◌, ◌∙◌, ◌<◌, ◌+◌, ℕ, suc, List, [], ◌∷◌, ◌++◌, length, drop, get_or, ap, sym, arith}
use Rattle.std.specs.Prelude.{if◌then◌else◌, codes}
use Rattle.std.proofs.Math.Seq.{drop-cons}
use Rattle.std.proofs.lemmas.Bool.{eq-eqb, ne_eqb}
use Rattle.std.proofs.lemmas.List.{append-nil, length-append}
use Rattle.mx_machine.specs.declared.config.Config.{Config}
use Rattle.mx_machine.specs.declared.config.ServiceLine.{ServiceLine}
use Rattle.mx_app_explain.specs.ServiceWords.{none_since, or_none, receiver_if, receiver_words, service_line, service_lines}

-- a text to which words were appended, or none
pub none_since_is : (t words : List ℕ) (n : ℕ) → n ≡ length t → none_since n (t ++ words) ≡ t ++ or_none words
none_since_is t [] n e =
    let same : length (t ++ []) ≡ n = ap length (append-nil t) ∙ sym e in
    ap (λ b. if b then (t ++ []) ++ codes " none" else t ++ []) (eq-eqb _ _ same) ∙ ap (λ (x : List ℕ). x ++ codes " none") (append-nil t)
none_since_is t (x ∷ xs) n e =
    let longer = length-append t (x ∷ xs) in
    ap (λ b. if b then (t ++ x ∷ xs) ++ codes " none" else t ++ x ∷ xs) (ne_eqb (length (t ++ x ∷ xs)) n (λ same. omega (arith, same, longer, e)))

pub receivers_more : (sends : ℕ) (lines : List ServiceLine) (i : ℕ) (l : ServiceLine) → i < length lines → l ≡ get_or lines i l
    → receiver_words sends i (drop i lines) ≡ receiver_if sends i l.name.bytes ++ receiver_words sends (i + 1) (drop (i + 1) lines)
receivers_more sends lines i l h is =
    let next : suc i ≡ i + 1 = omega arith in
    ap (receiver_words sends i) (drop-cons lines i l h)
    ∙ ap (λ (u : ServiceLine). receiver_if sends i u.name.bytes ++ receiver_words sends (i + 1) (drop (suc i) lines)) (sym is)
    ∙ ap (λ (n : ℕ). receiver_if sends i l.name.bytes ++ receiver_words sends (i + 1) (drop n lines)) next

pub service_lines_more : (c : Config) (lines : List ServiceLine) (i : ℕ) (l : ServiceLine) → i < length lines → l ≡ get_or lines i l
    → service_lines c i (drop i lines) ≡ service_line c i l ++ service_lines c (i + 1) (drop (i + 1) lines)
service_lines_more c lines i l h is =
    let next : suc i ≡ i + 1 = omega arith in
    ap (service_lines c i) (drop-cons lines i l h)
    ∙ ap (λ (u : ServiceLine). service_line c i u ++ service_lines c (i + 1) (drop (suc i) lines)) (sym is)
    ∙ ap (λ (n : ℕ). service_line c i l ++ service_lines c (i + 1) (drop n lines)) next
