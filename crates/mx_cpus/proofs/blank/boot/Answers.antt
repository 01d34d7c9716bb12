use Rattle.std.proofs.Common.{◌≡◌, [], None, refl}
use Rattle.mx_cpus.specs.Seats.{SeatView}
use Rattle.mx_cpus.proofs.BootLemmas.{all_at_boot, blank_at_boot}
use Rattle.mx_cpus.proofs.blank.boot.Goals as goal

pub invariant_of-blank : goal.invariant_of-blank
invariant_of-blank c =
    let config = c.args.config.now in
    blank_at_boot _ _ _ config.rules c.args.services.now.items config.cpus config.others config.log c.in_ok-desk.ensures.desk c.in_ok-desk.ensures.words c.in_ok-kernel.ensures.booted c.in_ok-spool.ensures

pub returns-clause-tables : goal.returns-clause-tables
returns-clause-tables c = all_at_boot (λ (s : SeatView). s.table ≡ c.in_ok-desk.desk.table) _ c.args.config.now c.in_ok-desk.desk.table c.in_ok-desk.ensures.seats (λ m. refl)

pub returns-clause-empties : goal.returns-clause-empties
returns-clause-empties c = all_at_boot (λ (s : SeatView). s.held ≡ None) _ c.args.config.now c.in_ok-desk.desk.table c.in_ok-desk.ensures.seats (λ m. refl)

pub returns-clause-fresh : goal.returns-clause-fresh
returns-clause-fresh c = all_at_boot (λ (s : SeatView). (s.mine ≡ []) × (s.seen ≡ [])) _ c.args.config.now c.in_ok-desk.desk.table c.in_ok-desk.ensures.seats (λ m. (refl, refl))
