use Rattle.std.proofs.Common.{◌≡◌, ◌∙◌, ap, inl, inr, ℕ, Option}
use Rattle.std.specs.Prelude.{None, Some, unwrap_or}
use Rattle.clap.specs.Words.{found_of, one_text}
use Rattle.clap.proofs.WalkLemmas.{one_text-rows}
use Rattle.mx_app_command.proofs.NumberText.{number_read}
use Rattle.mx_app_command.proofs.command_line.number_or.Goals as goal

-- no text gives the other number, and a text its own
pub returns : goal.returns
returns c =
    let here = one_text-rows (found_of c.args.matches.now) c.args.id.now in
    elim c.requires [
      | inl absent ↦
          (let none : c.get_one.result ≡ None = c.get_one.ensures.none (here ∙ absent) in
          inl (absent, c.unwrap_or.ensures ∙ ap (λ (o : Option ℕ). unwrap_or o c.args.other) none))
      | inr number ↦
          (let text : one_text (found_of c.args.matches.now) c.args.id.now ≡ Some number.1.0 = here ∙ number.1.1 in
          let read : c.get_one.result ≡ Some number.0 = number_read number.1.0 number.0 c.get_one.result number.1.2 (c.get_one.ensures.value number.1.0 text) in
          let is : c.unwrap_or.result ≡ number.0 = c.unwrap_or.ensures ∙ ap (λ (o : Option ℕ). unwrap_or o c.args.other) read in
          inr (number.1.0, number.1.1, (number.1.2.0, is ∙ number.1.2.1)))
    ]
