use Rattle.std.proofs.Common.{string_bytes}
use Rattle.std.proofs.lemmas.Result.{err_from_is_err_and}
use Rattle.mx_aout.specs.File.{refusal_of}
use Rattle.mx_app_program.specs.Shown.{IsListingOf}
use Rattle.mx_app_program.proofs.Showing.{shows_error, shows_no_memory, shows_text}
use Rattle.mx_app_program.proofs.listing.listing_of.Goals as goal

pub returns-in_err-program : goal.returns-in_err-program
returns-in_err-program c =
    let p = err_from_is_err_and c.from_residual.result c.from_residual.ensures.1 in
    rw (p.1, p.2) (shows_error (λ text. string_bytes text) (IsListingOf c.args.listing) (refusal_of c.args.bytes.now) c.args.bytes.now c.in_err-program.field-0.0 c.in_err-program.ensures)

pub returns-in_err-text_of : goal.returns-in_err-text_of
returns-in_err-text_of c =
    let p = err_from_is_err_and c.from_residual-in_err-text_of.result c.from_residual-in_err-text_of.ensures.1 in
    rw (p.1, p.2) (shows_no_memory (λ text. string_bytes text) (IsListingOf c.args.listing) (refusal_of c.args.bytes.now) c.args.bytes.now c.in_ok-program.program c.in_ok-program.ensures)

pub returns : goal.returns
returns c = shows_text (λ text. string_bytes text) (IsListingOf c.args.listing) (refusal_of c.args.bytes.now) c.args.bytes.now c.in_ok-program.program _ c.in_ok-program.ensures c.in_ok-text_of.ensures
