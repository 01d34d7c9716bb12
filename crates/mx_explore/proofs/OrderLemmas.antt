-- The order of schedules.
use Rattle.std.proofs.Common.{◌≡◌, false, inl, inr, length}
use Rattle.std.proofs.lemmas.Bool.{cases_Bool}
use Rattle.std.proofs.lemmas.List.MinMax.{ranks_by}
use Rattle.std.proofs.lemmas.Cmp.{nat_cmp_total, on_total, then_total}
use Rattle.std.specs.Cmp.{IsStrictWeakOrder, IsTotalOrder}
use Rattle.std.specs.Cmp.Lexicographic.{lists_total}
use Rattle.mx_explore.specs.declared.passing.Departure.{Departure}
use Rattle.mx_explore.specs.Outcomes.{Found, departure_cmp, found_cmp, is_before}

departures_total : IsTotalOrder departure_cmp
departures_total = then_total (on_total (λ (d : Departure). d.at) nat_cmp_total) (on_total (λ (d : Departure). d.turns) nat_cmp_total)

pub found_total : IsTotalOrder found_cmp
found_total =
    then_total (on_total (λ (f : Found). length f.departures) nat_cmp_total)
    (then_total (on_total (λ (f : Found). f.records) nat_cmp_total) (on_total (λ (f : Found). f.departures) (lists_total departures_total)))

-- any two schedules compare
pub ranked : IsStrictWeakOrder is_before
ranked = ranks_by found_total (λ (f : Found). f)

pub not_before : (f : Found) → is_before f f ≡ false
not_before f = elim (cases_Bool (is_before f f)) [ inl e ↦ ranked.one_way f f e | inr e ↦ e ]
