-- A text is one history at most, and none where it has a fault.
use Rattle.std.proofs.Common.{◌≡◌, inl, inr, ℕ, Bool, true, false, ◌&&◌, List, [], ◌∷◌, ◌++◌, Option, Some, None, refl, sym, ap, ◌∙◌, subst}
use Rattle.std.specs.Prelude.{map, is_some, Result, Ok, Err, IfOk, IfErr, MatchResult}
use Rattle.mx_text.specs.declared.error.BootError.{BootError}
use Rattle.mx_text.specs.declared.error.BootError.TheVariants.{BadLine, TwiceNamed, TooMany, BadRecord, NoMemory}
use Rattle.std.specs.List.{list_all}
use Rattle.std.proofs.Math.Bool.{and-false}
use Rattle.mx_text.specs.Lines.{lines}
use Rattle.mx_machine.specs.Rules.{Rules}
use Rattle.mx_machine.specs.declared.history.Record.{Record}
use Rattle.mx_boot.specs.Text.{saved_text}
use Rattle.mx_boot.specs.Log.{record_line, record_lines, is_ended, IsHistory, IsHistoryFault, TellsHistoryFault}

somes : {A : Type 0} → List (Option A) → List A
somes [] = []
somes (None ∷ os) = somes os
somes (Some x ∷ os) = x ∷ somes os

somes-map : {A : Type 0} (xs : List A) → somes (map Some xs) ≡ xs
unfolding somes
somes-map [] = refl
somes-map (x ∷ xs) = ap (λ ys. x ∷ ys) (somes-map xs)

pub one_of_text : (actors : ℕ) (t : List ℕ) (r s : Rules) (a b : List Record) → IsHistory actors t r a → IsHistory actors t s b → (r ≡ s) × (a ≡ b)
one_of_text actors t r s a b h g = (h.2 ∙ sym g.2, sym (somes-map a) ∙ ap somes (sym h.0 ∙ g.0) ∙ somes-map b)

all_some : {A : Type 0} (xs : List A) → list_all is_some (map Some xs) ≡ true
all_some [] = refl
all_some (x ∷ xs) = all_some xs

none_among : {A : Type 0} (says : List ℕ → Option A) (above below : List (List ℕ)) (line : List ℕ) → says line ≡ None
    → list_all is_some (map says (above ++ line ∷ below)) ≡ false
none_among says [] below line none = ap (λ o. is_some o && list_all is_some (map says below)) none
none_among says (l ∷ above) below line none =
    ap (λ b. is_some (says l) && b) (none_among says above below line none) ∙ and-false (is_some (says l))

not_both : (b : Bool) → b ≡ true → b ≡ false → ⊥
not_both b h g = absurd cc

pub history_or_fault : (actors n : ℕ) (t : List ℕ) (r : Rules) (a : List Record) → IsHistory actors t r a → IsHistoryFault actors t n → ⊥
history_or_fault actors n t r a h (inl f) =
    let g = f.1 in
    not_both (list_all is_some (map (record_line actors) (record_lines (lines t))))
    (ap (list_all is_some) h.0 ∙ all_some a)
    (ap (λ ls. list_all is_some (map (record_line actors) ls)) g.4 ∙ none_among (record_line actors) g.0 g.1 g.2 g.6)
history_or_fault actors n t r a h (inr f) = not_both (is_ended t) h.1 f.2

pub one_of_history : ((actors : ℕ) (t : List ℕ) (r s : Rules) (a b : List Record) → IsHistory actors t r a → IsHistory actors t s b → (r ≡ s) × (a ≡ b))
    → (r s : Rules) (a b : List Record) → IsHistory 256 (saved_text r a) r a → IsHistory 256 (saved_text s b) s b → saved_text r a ≡ saved_text s b → (r ≡ s) × (a ≡ b)
one_of_history one r s a b h g e = one 256 (saved_text r a) r s a b h (subst (λ (t : List ℕ). IsHistory 256 t s b) (sym e) g)

-- what a reader answers for a text that is a history
pub answered : {X : Type 0} (by : X → Rules) (items : X → List Record) (actors : ℕ) (t : List ℕ) (rules : Rules) (records : List Record) (r : Result X BootError)
    → IfOk r (λ x. IsHistory actors t (by x) (items x)) → IfErr r (λ e. TellsHistoryFault actors t e) → IsHistory actors t rules records
    → MatchResult r (λ x. (by x ≡ rules) × (items x ≡ records)) (λ e. e ≡ NoMemory)
answered by items actors t rules records (Ok x) ok err h = one_of_text actors t (by x) rules (items x) records ok h
answered by items actors t rules records (Err (BadRecord n)) ok err h = absurd (history_or_fault actors n t rules records h err)
answered by items actors t rules records (Err NoMemory) ok err h = refl
answered by items actors t rules records (Err (BadLine n)) ok err h = absurd err
answered by items actors t rules records (Err (TwiceNamed n)) ok err h = absurd err
answered by items actors t rules records (Err (TooMany n)) ok err h = absurd err
