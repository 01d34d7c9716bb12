use Rattle.std.proofs.Common.{◌≡◌, ◌∙◌, inl, inr, ℕ, Option, subst, sym}
use Rattle.std.specs.Prelude.{None, Some}
use Rattle.clap.specs.Words.{found_of, one_text, rows_of}
use Rattle.clap.proofs.WalkLemmas.{one_text-rows}
use Rattle.mx_app_command.specs.Words.{HasNumberIf}
use Rattle.mx_app_command.proofs.NumberText.{number_read}
use Rattle.mx_app_command.proofs.command_line.number_if_asked.Goals as goal

-- no text gives no number, and a text its own
pub returns : goal.returns
returns c =
    let here = one_text-rows (found_of c.args.matches.now) c.args.id.now in
    let rows = rows_of (found_of c.args.matches.now) in
    elim c.requires [
      | inl absent ↦
          (let none : c.get_one.result ≡ None = c.get_one.ensures.none (here ∙ absent) in
          subst (λ (o : Option ℕ). HasNumberIf c.args.id.now rows o) (sym none) absent)
      | inr number ↦
          (let text : one_text (found_of c.args.matches.now) c.args.id.now ≡ Some number.1.0 = here ∙ number.1.1 in
          let read : c.get_one.result ≡ Some number.0 = number_read number.1.0 number.0 c.get_one.result number.1.2 (c.get_one.ensures.value number.1.0 text) in
          subst (λ (o : Option ℕ). HasNumberIf c.args.id.now rows o) (sym read) number.1)
    ]
