use Rattle.mx_app_program.proofs.WayListing.{parts_keep}
use Rattle.mx_app_program.proofs.round_trip_laws.listing_keeps.Goals as goal

pub returns : goal.returns
returns c = parts_keep c.chosen_spells.ensures c.parted_there.ensures.spelled
