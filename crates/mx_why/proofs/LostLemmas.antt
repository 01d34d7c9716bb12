-- The lines of a file of outside events without a record, one line more.
use Rattle.std.proofs.Common.{◌≡◌, ◌∙◌, ◌<◌, ℕ, ◌+◌, List, ◌∷◌, ◌++◌, Option, append_assoc, ap, drop, get_or, length, sym}
use Rattle.std.proofs.lemmas.List.{drop_more}
use Rattle.mx_machine.specs.declared.history.Record.{Record}
use Rattle.mx_turns.specs.declared.outside.OutsideLine.{OutsideLine}
use Rattle.mx_why.specs.declared.outside.LostLine.{LostLine}
use Rattle.mx_why.specs.Outside.{found_after, lost_by, lost_from}

pub line_followed : (tried : ℕ) (xs : List Record) (i k m : ℕ) (said : List (Option OutsideLine)) (d o : Option OutsideLine) (t u whole : List LostLine) → i < length said
    → o ≡ get_or said i d → m ≡ found_after xs k o → u ≡ t ++ lost_by tried xs (i + 1) k o
    → t ++ lost_from tried xs (i + 1) k (drop i said) ≡ whole
    → u ++ lost_from tried xs (i + 1 + 1) m (drop (i + 1) said) ≡ whole
line_followed tried xs i k m said d o t u whole within e f more h =
    let later : ℕ → List LostLine = λ n. lost_from tried xs (i + 1 + 1) n (drop (i + 1) said) in
    ap (λ (v : List LostLine). v ++ later m) more ∙ append_assoc t (lost_by tried xs (i + 1) k o) (later m)
    ∙ ap (λ n. t ++ (lost_by tried xs (i + 1) k o ++ later n)) f
    ∙ ap (λ (ls : List (Option OutsideLine)). t ++ lost_from tried xs (i + 1) k ls) (ap (λ (p : Option OutsideLine). p ∷ drop (i + 1) said) e ∙ sym (drop_more said i d within))
    ∙ h
