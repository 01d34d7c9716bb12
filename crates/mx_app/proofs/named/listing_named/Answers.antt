use Rattle.mx_app_program.specs.Shown.{IsListingOf, IsShown}
use Rattle.mx_app_db.specs.Asked.{file_given}
use Rattle.mx_app.proofs.Shown.{missing, shown}
use Rattle.mx_app.proofs.named.listing_named.Goals as goal

pub returns-in_err-bytes : goal.returns-in_err-bytes
returns-in_err-bytes g c = missing (λ bytes text. IsShown (IsListingOf c.args.listing) bytes text) c.args.file.now _ c.from_residual.result _ _ c.in_err-bytes.field-0.0 c.in_err-bytes.ensures.missed c.from_residual.ensures.1

pub returns : goal.returns
returns g c = (
  file_given c.args.file.now c.in_ok-bytes.bytes.items,
  c.in_ok-bytes.ensures.given,
  shown (λ bytes text. IsShown (IsListingOf c.args.listing) bytes text) c.args.file.now c.in_ok-bytes.bytes.items c.as_slice.result.now _ c.print_listing.result c.as_slice.ensures.value c.print_listing.ensures.tells c.print_listing.ensures.shown,
)
