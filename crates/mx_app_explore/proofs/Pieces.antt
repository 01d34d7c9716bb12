-- A text of several pieces, appended one after the other.
use Rattle.std.proofs.Common.{◌≡◌, ◌∙◌, ◌<◌, ◌+◌, ℕ, List, ◌++◌, Option, Some, None, Result, Ok, Err, OnOk, Bor, drop, get_or, length, append_assoc, ap, refl, sym}
use Rattle.std.specs.Prelude.{if◌then◌else◌, is_ok, option_map, slice_get}
use Rattle.std.specs.Slice.{IsItemAt}
use Rattle.std.proofs.lemmas.List.{at_drop_more}
use Rattle.std.proofs.lemmas.Option.{slice_get_past, slice_get_read}
use Rattle.std.proofs.lemmas.Result.{on_ok_weaker}
use Rattle.mx_machine.specs.Service.{Service}
use Rattle.mx_explore.specs.declared.passing.Departure.{Departure}
use Rattle.mx_explore.specs.declared.passing.Met.{Met}
use Rattle.mx_app_explore.specs.FoundText.{departure_line, departure_lines}

-- one piece more
pub joined : (o a b : List ℕ) {x y : List ℕ} → x ≡ o ++ a → y ≡ x ++ b → y ≡ o ++ (a ++ b)
joined o a b {x} {y} p q = q ∙ ap (λ (t : List ℕ). t ++ b) p ∙ append_assoc o a b

pub joined_is : (o a b c : List ℕ) {x y : List ℕ} → x ≡ o ++ a → b ≡ c → y ≡ x ++ b → y ≡ o ++ (a ++ c)
joined_is o a b c {x} {y} p e q = joined o a c p (q ∙ ap (λ (t : List ℕ). x ++ t) e)

-- the last piece
pub last_joined : {T E : Type 0} (r : Result T E) (o a b x y : List ℕ) → x ≡ o ++ a → OnOk r (y ≡ x ++ b) → OnOk r (y ≡ o ++ (a ++ b))
last_joined r o a b x y p h = on_ok_weaker r (λ q. joined o a b p q) h

pub extended : {T E : Type 0} (r : Result T E) (new a b : List ℕ) → new ≡ (if is_ok r then a else b) → OnOk r (new ≡ a)
extended (Ok x) new a b h = h
extended (Err e) new a b h = tt

-- ---- the lines of departures

-- the offer that was met is the one of that number
met_at : (met : List Met) (i : ℕ) (m : Option (Bor Met)) → IsItemAt met i m → option_map (λ m. m.now) m ≡ slice_get met i
met_at met i None h = sym (slice_get_past met i h.3)
met_at met i (Some m) h = sym (slice_get_read met (length met) i m.now refl h.3.0 h.1)

-- one line more of a whole
pub one_line : (vs : List Service) (met : List Met) (ds : List Departure) (i : ℕ) (d : Departure) (m : Option (Bor Met)) (old new whole : List ℕ) → i < length ds → IsItemAt met (get_or ds i d).at m
    → new ≡ old ++ departure_line vs (get_or ds i d) (option_map (λ m. m.now) m) → old ++ departure_lines vs met (drop i ds) ≡ whole → new ++ departure_lines vs met (drop (i + 1) ds) ≡ whole
one_line vs met ds i d m old new whole below offered more so_far =
    let x = get_or ds i d in
    let rest = departure_lines vs met (drop (i + 1) ds) in
    let line = departure_line vs x (slice_get met x.at) in
    ap (λ (t : List ℕ). t ++ rest) (more ∙ ap (λ (p : Option Met). old ++ departure_line vs x p) (met_at met x.at m offered))
    ∙ append_assoc old line rest ∙ sym (ap (λ (t : List ℕ). old ++ t) (at_drop_more (departure_lines vs met) ds i d below)) ∙ so_far
