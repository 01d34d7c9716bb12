-- The bytes of the form that was given are those that are chosen.
use Rattle.std.proofs.Common.{◌≡◌, ℕ, true, false, List, ◌∷◌, ◌++◌, Option, Some, None, Ok, refl, sym, subst, ◌∙◌}
use Rattle.mx_insn.specs.declared.insn.Insn.{Insn}
use Rattle.mx_insn.specs.Spelling.{SpellsBy, RmForm, spelling, opcode, prefix_bytes, escape_bytes, modrm_bytes}
use Rattle.mx_encode.specs.declared.Wide.{Wide}
use Rattle.mx_encode.specs.declared.forms.Encoding.{Encoding}
use Rattle.mx_encode.specs.Numbers.{number_bytes}
use Rattle.mx_encode.specs.Places.{has_place, rm_form_for}
use Rattle.mx_encode.specs.Choice.{Choice, choice}
use Rattle.mx_encode.specs.Chosen.{Chosen, fields_of}
use Rattle.mx_encode.specs.Given.{GivesBytes, Fits, RegFits, laid, form_bytes}
use Rattle.mx_encode.proofs.Suits.{Suits, suits_spell, suits_reg}
use Rattle.mx_encode.proofs.Families.{SuitsWhere, choice_suits}
use Rattle.mx_encode.proofs.Sizes.{resized_again, escaped_again}

-- a form that was given is that of a choice, which suits
record Given (f : Encoding) (i : Insn) (wide : Wide) : Type 0 where
  chosen : Choice
  is_chosen : choice i wide ≡ Some chosen
  is_laid : f ≡ laid chosen
  suits : Suits chosen i

given_by : (f : Encoding) (i : Insn) (wide : Wide) → GivesBytes (Ok f) (choice i wide) → Fits i → Given f i wide
given_by f i wide gives fits = go (choice i wide) refl gives (choice_suits i wide fits)
  where
    go : (o : Option Choice) → choice i wide ≡ o → GivesBytes (Ok f) o → SuitsWhere o i → Given f i wide
    go None e g s = absurd g
    go (Some c) e g s = record { chosen = c; is_chosen = e; is_laid = g; suits = s }

pub reg_fits : (f : Encoding) (i : Insn) (wide : Wide) → GivesBytes (Ok f) (choice i wide) → Fits i → RegFits f.rm
reg_fits f i wide gives fits =
    let g = given_by f i wide gives fits in
    subst (λ (z : Encoding). RegFits z.rm) (sym g.is_laid) (suits_reg g.chosen.row.modrm g.chosen.rm g.suits.rm)

chosen_bytes : (c : Choice) (i : Insn) (wide : Wide) (bytes : List ℕ) → choice i wide ≡ Some c → Suits c i → has_place c.rm ≡ true → bytes ≡ spelling c.row (fields_of c wide.displacement) → Chosen i wide bytes
chosen_bytes c i wide bytes e s h same = record {
  chosen = c;
  is_chosen = e;
  stands = h;
  spells = subst (λ (z : List ℕ). SpellsBy c.row (fields_of c wide.displacement) z i) (sym same) (suits_spell c i wide.displacement s h);
}

laid_bytes : (c : Choice) (place : Option RmForm) → form_bytes (laid c) place ≡ prefix_bytes c.resized c.repeat false ++ (escape_bytes c.row.escaped ++ (opcode c.row c.number ∷ (modrm_bytes place ++ number_bytes c.immediate)))
laid_bytes c place = rw (resized_again c.resized, escaped_again c.row.escaped) refl

pub chosen_given : (f : Encoding) (i : Insn) (wide : Wide) (bytes : List ℕ) → GivesBytes (Ok f) (choice i wide) → Fits i → has_place f.rm ≡ true → bytes ≡ form_bytes f (rm_form_for f.rm wide.displacement) → Chosen i wide bytes
chosen_given f i wide bytes gives fits h same =
    let g = given_by f i wide gives fits in
    subst (λ (z : Encoding). has_place z.rm ≡ true → bytes ≡ form_bytes z (rm_form_for z.rm wide.displacement) → Chosen i wide bytes) (sym g.is_laid) (λ p q. chosen_bytes g.chosen i wide bytes g.is_chosen g.suits p (q ∙ laid_bytes g.chosen (rm_form_for g.chosen.rm wide.displacement))) h same
