-- Lines that drive a machine, one more.
use Rattle.std.proofs.Common.{◌≡◌, ◌∙◌, ◌<◌, ℕ, suc, ◌+◌, Bool, List, [], ◌∷◌, ◌++◌, length, take, get_or, append_assoc, refl, ap, sym, arith}
use Rattle.std.proofs.lemmas.List.{append-nil, length-take-le, take_more}
use Rattle.mx_app_step.specs.Driving.{lines_done, lines_text, number_text}

done_more : {S L : Type 0} (does : S → L → S) (s : S) (ls : List L) (l : L) → lines_done does s (ls ++ l ∷ []) ≡ does (lines_done does s ls) l
done_more does s [] l = refl
done_more does s (k ∷ ls) l = done_more does (does s k) ls l

pub next_done : {S L : Type 0} (does : S → L → S) (s t u : S) (ls : List L) (i : ℕ) (x : L) → i < length ls → x ≡ get_or ls i x
    → lines_done does s (take i ls) ≡ t → does t x ≡ u → lines_done does s (take (i + 1) ls) ≡ u
next_done {S} {L} does s t u ls i x less is so_far h =
    ap (lines_done does s) (take_more ls i x less)
    ∙ done_more does s (take i ls) (get_or ls i x)
    ∙ ap (λ (y : S). does y (get_or ls i x)) so_far
    ∙ ap (does t) (sym is)
    ∙ h

-- the answer to a line that is the last of them
text_more : {S L : Type 0} (does : S → L → S) (prints : S → L → List ℕ) (numbered : Bool) (n : ℕ) (s : S) (ls : List L) (l : L)
    → lines_text does prints numbered n s (ls ++ l ∷ []) ≡ lines_text does prints numbered n s ls ++ (number_text numbered (n + length ls) ++ prints (lines_done does s ls) l)
text_more does prints numbered n s [] l =
    let same : n ≡ n + 0 = omega arith in
    append-nil (number_text numbered n ++ prints s l) ∙ ap (λ m. number_text numbered m ++ prints s l) same
text_more does prints numbered n s (k ∷ ls) l =
    let same : n + 1 + length ls ≡ n + suc (length ls) = omega arith in
    let first : List ℕ = number_text numbered n ++ prints s k in
    let rest : List ℕ = lines_text does prints numbered (n + 1) (does s k) ls in
    let last : List ℕ = prints (lines_done does (does s k) ls) l in
    ap (λ (t : List ℕ). first ++ t) (text_more does prints numbered (n + 1) (does s k) ls l ∙ ap (λ m. rest ++ (number_text numbered m ++ last)) same)
    ∙ sym (append_assoc first rest (number_text numbered (n + suc (length ls)) ++ last))

pub next_text : {S L : Type 0} (does : S → L → S) (prints : S → L → List ℕ) (numbered : Bool) (s t : S) (ls : List L) (i n : ℕ) (x : L) (before y z : List ℕ)
    → n ≡ i + 1 → i < length ls → x ≡ get_or ls i x → lines_done does s (take i ls) ≡ t → y ≡ before ++ lines_text does prints numbered 1 s (take i ls)
    → z ≡ y ++ (number_text numbered n ++ prints t x) → z ≡ before ++ lines_text does prints numbered 1 s (take (i + 1) ls)
next_text {S} {L} does prints numbered s t ls i n x before y z number less is so_far h g =
    let above : List ℕ = lines_text does prints numbered 1 s (take i ls) in
    let count : length (take i ls) ≡ i = length-take-le i ls (omega (arith, less)) in
    let same : n ≡ 1 + length (take i ls) = omega (arith, number, count) in
    let last : S → ℕ → L → List ℕ = λ v m l. number_text numbered m ++ prints v l in
    g ∙ ap (λ (v : List ℕ). v ++ last t n x) h
    ∙ append_assoc before above (last t n x)
    ∙ ap (λ (l : L). before ++ (above ++ last t n l)) is
    ∙ ap (λ (v : S). before ++ (above ++ last v n (get_or ls i x))) (sym so_far)
    ∙ ap (λ m. before ++ (above ++ last (lines_done does s (take i ls)) m (get_or ls i x))) same
    ∙ ap (λ (v : List ℕ). before ++ v) (sym (ap (lines_text does prints numbered 1 s) (take_more ls i x less) ∙ text_more does prints numbered 1 s (take i ls) (get_or ls i x)))
