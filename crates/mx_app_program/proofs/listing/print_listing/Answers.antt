use Rattle.std.proofs.Common.{string_bytes, sym, subst, List, ℕ}
use Rattle.mx_aout.specs.File.{refusal_of}
use Rattle.mx_app_program.specs.Shown.{IsListingOf, IsShown}
use Rattle.mx_app_program.proofs.Showing.{shown_on, tells_refused, tells_written, text_shown}
use Rattle.mx_app_program.proofs.listing.print_listing.Goals as goal

pub returns-clause-tells : goal.returns-clause-tells
returns-clause-tells g c = tells_written (λ text. string_bytes text) (IsListingOf c.args.listing) (refusal_of c.args.bytes.now) c.args.bytes.now c.in-Ok.text c.print_text.result c.in-Ok.ensures c.print_text.ensures.err

pub returns-clause-shown : goal.returns-clause-shown
returns-clause-shown g c =
    let shown = text_shown (λ text. string_bytes text) (IsListingOf c.args.listing) (refusal_of c.args.bytes.now) c.args.bytes.now c.in-Ok.text c.in-Ok.ensures in
    shown_on (IsListingOf c.args.listing) c.args.bytes.now _ _ c.as_bytes.result.now c.print_text.result (subst (λ (t : List ℕ). IsShown (IsListingOf c.args.listing) c.args.bytes.now t) (sym c.as_bytes.ensures.value) shown) c.print_text.ensures.bytes

pub returns-in-Err-clause-tells : goal.returns-in-Err-clause-tells
returns-in-Err-clause-tells g c =
    rw (c.refused.ensures) (tells_refused (λ text. string_bytes text) (IsListingOf c.args.listing) (refusal_of c.args.bytes.now) c.args.bytes.now c.in-Err.error c.in-Err.ensures)
