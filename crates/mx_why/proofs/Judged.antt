-- What is said of a process, by whether it waits for another.
use Rattle.std.proofs.Common.{◌≡◌, ◌∙◌, ℕ, Option, None, Some, Result, ap}
use Rattle.std.specs.Prelude.{IfOk}
use Rattle.std.proofs.lemmas.Result.{IfOk-weaker}
use Rattle.mx_print_report.specs.declared.doing.Doing.{Doing}
use Rattle.mx_why.specs.declared.seats.End.{End}
use Rattle.mx_why.specs.declared.verdicts.Verdict.{Verdict}
use Rattle.mx_why.specs.Seats.{doing_in}
use Rattle.mx_why.specs.Verdicts.{alone, by_chain, by_partner, verdict, verdict_on}
use Rattle.mx_why.specs.Waiting.{chain, partner_of}

-- its slot has no service
pub for_none : (e : End) (s : ℕ) → None ≡ doing_in e s → None ≡ verdict e s
unfolding verdict
for_none e s is = ap (λ (o : Option Doing). verdict_on e s o) is

by_what : (e : End) (s : ℕ) (d : Doing) (o : Option ℕ) → Some d ≡ doing_in e s → o ≡ partner_of d → by_partner e s d o ≡ verdict e s
unfolding verdict
by_what e s d o is waits = ap (λ (p : Option ℕ). by_partner e s d p) waits ∙ ap (λ (q : Option Doing). verdict_on e s q) is

pub for_nobody : (e : End) (s : ℕ) (d : Doing) (said : Option Verdict) → Some d ≡ doing_in e s → None ≡ partner_of d → said ≡ alone e s d → said ≡ verdict e s
for_nobody e s d said is waits a = a ∙ by_what e s d None is waits

pub for_another : {E : Type 0} (r : Result (Option Verdict) E) (e : End) (s : ℕ) (d : Doing) (p : ℕ) → Some d ≡ doing_in e s → Some p ≡ partner_of d
    → IfOk r (λ said. said ≡ by_chain e s (chain e s)) → IfOk r (λ said. said ≡ verdict e s)
for_another r e s d p is waits a = IfOk-weaker r _ _ (λ said h. h ∙ by_what e s d (Some p) is waits) a
