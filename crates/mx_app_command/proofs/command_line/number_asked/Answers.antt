use Rattle.std.proofs.Common.{◌≡◌, ◌∙◌, ap, is_some, sym}
use Rattle.std.specs.Prelude.{Some}
use Rattle.clap.specs.Words.{found_of, one_text}
use Rattle.clap.proofs.WalkLemmas.{one_text-rows}
use Rattle.mx_app_command.proofs.NumberText.{number_read}
use Rattle.mx_app_command.proofs.command_line.number_asked.Goals as goal

pub unwrap-requires : goal.unwrap-requires
unwrap-requires c =
    let number = c.requires in
    let text : one_text (found_of c.args.matches.now) c.args.id.now ≡ Some number.1.0 = one_text-rows (found_of c.args.matches.now) c.args.id.now ∙ number.1.1 in
    ap is_some (number_read number.1.0 number.0 c.get_one.result number.1.2 (c.get_one.ensures.value number.1.0 text))

pub returns : goal.returns
returns c =
    let number = c.requires in
    let text : one_text (found_of c.args.matches.now) c.args.id.now ≡ Some number.1.0 = one_text-rows (found_of c.args.matches.now) c.args.id.now ∙ number.1.1 in
    let read = number_read number.1.0 number.0 c.get_one.result number.1.2 (c.get_one.ensures.value number.1.0 text) in
    let same : Some c.unwrap.result ≡ Some number.0 = sym c.unwrap.ensures ∙ read in
    let is : c.unwrap.result ≡ number.0 = cc in
    (number.1.0, number.1.1, (number.1.2.0, is ∙ number.1.2.1))
