-- There is no form just where there is no spelling.
use Rattle.std.proofs.Common.{◌≡◌, ℕ, false, Option, Some, None, Result, Ok, Err, refl, sym, ap, ◌∙◌, List, IfErr}
use Rattle.std.proofs.lemmas.Bool.{both_ways}
use Rattle.mx_insn.specs.declared.insn.Insn.{Insn}
use Rattle.mx_insn.specs.Spelling.{Spells}
use Rattle.mx_encode.specs.declared.Wide.{Wide}
use Rattle.mx_encode.specs.declared.NoForm.{NoForm}
use Rattle.mx_encode.specs.declared.forms.Encoding.{Encoding}
use Rattle.mx_encode.specs.Places.{has_place}
use Rattle.mx_encode.specs.Forms.{has_form}
use Rattle.mx_encode.specs.Choice.{Choice, choice}
use Rattle.mx_encode.specs.Given.{GivesBytes}
use Rattle.mx_encode.proofs.Each.{stands, each}
use Rattle.mx_encode.proofs.Spelled.{spelled_has_form}

pub form_is : (i : Insn) (wide : Wide) → stands (choice i wide) ≡ has_form i
form_is i wide = (each i).form wide

-- what has no form has no spelling
pub unspelled : (i : Insn) (wide : Wide) → stands (choice i wide) ≡ false → (bytes : List ℕ) → Spells bytes i → ⊥
unspelled i wide h bytes s = both_ways (has_form i) (sym (form_is i wide) ∙ h) (spelled_has_form i bytes s)

not_given : (o : Option Choice) (e : NoForm) → GivesBytes (Err e) o → stands o ≡ false
not_given None e g = refl
not_given (Some c) e g = absurd g

no_place : (o : Option Choice) (f : Encoding) → GivesBytes (Ok f) o → has_place f.rm ≡ false → stands o ≡ false
no_place None f g h = absurd g
no_place (Some c) f g h = ap (λ (z : Encoding). has_place z.rm) (sym g) ∙ h

pub unspelled_given : (i : Insn) (wide : Wide) (e : NoForm) → GivesBytes (Err e) (choice i wide) → (bytes : List ℕ) → Spells bytes i → ⊥
unspelled_given i wide e g = unspelled i wide (not_given (choice i wide) e g)

pub unspelled_place : (i : Insn) (wide : Wide) (f : Encoding) → GivesBytes (Ok f) (choice i wide) → has_place f.rm ≡ false → (bytes : List ℕ) → Spells bytes i → ⊥
unspelled_place i wide f g h = unspelled i wide (no_place (choice i wide) f g h)

pub unformed_place : (i : Insn) (wide : Wide) (f : Encoding) → GivesBytes (Ok f) (choice i wide) → has_place f.rm ≡ false → has_form i ≡ false
unformed_place i wide f g h = sym (form_is i wide) ∙ no_place (choice i wide) f g h

pub where_err : {A : Type 0} (r : Result A NoForm) (P : Type 0) → P → IfErr r (λ e. P)
where_err (Ok x) P p = tt
where_err (Err e) P p = p
