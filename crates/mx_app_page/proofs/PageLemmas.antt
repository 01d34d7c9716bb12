-- The rows of records, one more, and what is printed of them.
use Rattle.std.proofs.Common.{◌≡◌, ◌∙◌, ◌<◌, ◌≤◌, ℕ, ◌+◌, List, [], ◌∷◌, ◌++◌, length, take, get_or, append_assoc, Option, ap, sym, subst, arith}
use Rattle.std.proofs.KnownBytes.{Appends-trans}
use Rattle.std.proofs.lemmas.List.{append-nil, take_more, take_all, length-take-le}
use Rattle.std.specs.Io.KnownBytes.{Appends}
use Rattle.mx_machine.specs.declared.history.Record.{Record}
use Rattle.mx_machine.specs.History.{AreAccepted, world_after_events, events_of, events_of_history}
use Rattle.mx_machine.specs.World.{World}
use Rattle.mx_look.specs.declared.transition.Transition.{Transition}
use Rattle.mx_app_step.specs.Failure.{PrintsFront}
use Rattle.mx_app_step.specs.Traces.{transition_of}
use Rattle.mx_app_step.proofs.FrontLemmas.{front_after, front_all}
use Rattle.mx_app_step.proofs.RecordLemmas.{after_both}
use Rattle.mx_look_page.specs.Rows.{row_text}
use Rattle.mx_look_page.specs.Shown.{ShownWorld}
use Rattle.mx_app_page.specs.Pages.{shown_in, rows_text, AreRowsBegun}

-- the row of a record that is made in a world, and has this number
abbrev row_in : World → ℕ → Record → List ℕ
row_in v n x = row_text (transition_of v n x) (shown_in v) (shown_in (world_after_events v (events_of x.actor x.event)))

rows_more : (w : World) (n k : ℕ) (xs : List Record) (x : Record) → k ≡ n + length xs
    → rows_text w n (xs ++ x ∷ []) ≡ rows_text w n xs ++ row_in (world_after_events w (events_of_history xs)) k x
rows_more w n k [] x e =
    let here : n ≡ k = omega (arith, e) in
    append-nil (row_in w n x) ∙ ap (λ (m : ℕ). row_in w m x) here
rows_more w n k (y ∷ ys) x e =
    let u = world_after_events w (events_of y.actor y.event) in
    let next : k ≡ n + 1 + length ys = omega (arith, e) in
    ap (λ (t : List ℕ). row_in w n y ++ t) (rows_more u (n + 1) k ys x next)
    ∙ sym (append_assoc (row_in w n y) (rows_text u (n + 1) ys) (row_in (world_after_events u (events_of_history ys)) k x))
    ∙ ap (λ (v : World). (row_in w n y ++ rows_text u (n + 1) ys) ++ row_in v k x) (sym (after_both w (events_of y.actor y.event) (events_of_history ys)))

-- the row is that of its worlds
row_is : (v u : World) (n : ℕ) (y : Record) (x : Transition) (p q : ShownWorld) → x ≡ transition_of v n y → p ≡ shown_in v → q ≡ shown_in u
    → u ≡ world_after_events v (events_of y.actor y.event) → row_text x p q ≡ row_in v n y
row_is v u n y x p q is before after made =
    ap (λ (t : Transition). row_text t p q) is ∙ ap (λ (s : ShownWorld). row_text (transition_of v n y) s q) before
    ∙ ap (λ (s : ShownWorld). row_text (transition_of v n y) (shown_in v) s) (after ∙ ap shown_in made)

-- those of the first records, of which none is refused
pub some_begun : (w : World) (records : List Record) (above i : ℕ) (a b : Option (List ℕ)) → AreAccepted w (events_of_history (take i records)) → Appends a b (rows_text w (above + 1) (take i records))
    → AreRowsBegun w above records (λ t. Appends a b t)
some_begun w records above i a b accepted printed = (i, accepted, front_all (λ t. Appends a b t) (rows_text w (above + 1) (take i records)) printed)

-- ---- one row more

module _ (w v u : World) (records : List Record) (above i n : ℕ) (d : Record) (x : Transition) (p q : ShownWorld) (within : i < length records) (number : n ≡ above + i + 1)
    (world : v ≡ world_after_events w (events_of_history (take i records))) (is : x ≡ transition_of v n (get_or records i d)) (before : p ≡ shown_in v) (after : q ≡ shown_in u)
    (made : u ≡ world_after_events v (events_of (get_or records i d).actor (get_or records i d).event)) where
  abbrev so_many : List ℕ
  so_many = rows_text w (above + 1) (take i records)

  one_more : so_many ++ row_text x p q ≡ rows_text w (above + 1) (take (i + 1) records)
  one_more =
      let at : n ≡ above + 1 + length (take i records) = omega (arith, number, length-take-le i records (omega arith)) in
      ap (λ (t : List ℕ). so_many ++ t) (row_is v u n (get_or records i d) x p q is before after made ∙ ap (λ (y : World). row_in y n (get_or records i d)) world)
      ∙ sym (ap (λ (rs : List Record). rows_text w (above + 1) rs) (take_more records i d within) ∙ rows_more w (above + 1) n (take i records) (get_or records i d) at)

  pub next_rows : (a b c : Option (List ℕ)) → Appends a b so_many → Appends b c (row_text x p q) → Appends a c (rows_text w (above + 1) (take (i + 1) records))
  next_rows a b c so_far more = subst (λ (t : List ℕ). Appends a c t) one_more (Appends-trans a b c so_many (row_text x p q) so_far more)

  -- or a front of it
  pub next_begun : (a b c : Option (List ℕ)) → AreAccepted w (events_of_history (take (i + 1) records)) → Appends a b so_many → PrintsFront (λ t. Appends b c t) (row_text x p q)
      → AreRowsBegun w above records (λ t. Appends a c t)
  next_begun a b c accepted so_far more =
      (i + 1, accepted, subst (λ (t : List ℕ). PrintsFront (λ s. Appends a c s) t) one_more (front_after a b c so_many (row_text x p q) so_far more))

-- ---- all of them

pub all_rows : (w : World) (records : List Record) (above i : ℕ) (a b : Option (List ℕ)) → length records ≤ i
    → AreAccepted w (events_of_history (take i records)) → Appends a b (rows_text w (above + 1) (take i records))
    → AreAccepted w (events_of_history records) × Appends a b (rows_text w (above + 1) records)
all_rows w records above i a b over accepted printed =
    let all : take i records ≡ records = take_all i records over in
    (subst (λ (rs : List Record). AreAccepted w (events_of_history rs)) all accepted, subst (λ (rs : List Record). Appends a b (rows_text w (above + 1) rs)) all printed)
