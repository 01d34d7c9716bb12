-- A page of which some records stand above the first row, from the page of the others.
use Rattle.std.proofs.Common.{◌≡◌, ◌∙◌, ◌<◌, ◌≤◌, ℕ, zero, suc, ◌+◌, ◌-◌, nat_lt, Bool, true, false, cond, List, [], ◌∷◌, ◌++◌, length, take, drop, append_assoc, Option, Some, None, inl, inr, refl, ap, sym, subst, arith}
use Rattle.std.proofs.lemmas.Bool.{lt-ltb, ltb-true}
use Rattle.std.proofs.lemmas.List.{append-nil, length-append, take-append-drop}
use Rattle.mx_machine.specs.declared.events.Event.{Event}
use Rattle.mx_machine.specs.declared.events.Refusal.{Refusal}
use Rattle.mx_machine.specs.declared.history.Record.{Record}
use Rattle.mx_machine.specs.History.{AreAccepted, world_after_events, events_of, events_of_history}
use Rattle.mx_machine.specs.Move.{world_after_event}
use Rattle.mx_machine.specs.World.{World}
use Rattle.mx_app_step.proofs.RecordLemmas.{after_both}
use Rattle.mx_app_step.specs.Records.{IsFirstRefusal, IsRefusedAt}
use Rattle.mx_proc.specs.declared.windows.Rules.{Rules}
use Rattle.mx_look_page.specs.Heads.{Run}
use Rattle.mx_app_step.specs.declared.records.Replayed.{Replayed}
use Rattle.mx_app_step.specs.declared.records.Replayed.TheVariants as replayed
use Rattle.mx_app_step.specs.Failure.{PrintsFront}
use Rattle.mx_app_page.specs.Pages.{front_text, back_text, rows_text, page_text, page_from, refused_line, IsMadeBegun, IsMadePrinted, IsPageBegun, IsPagePrinted}

events_both : (xs ys : List Record) → events_of_history (xs ++ ys) ≡ events_of_history xs ++ events_of_history ys
events_both [] ys = refl
events_both (x ∷ xs) ys =
    ap (λ (es : List (ℕ × Event)). events_of x.actor x.event ++ es) (events_both xs ys)
    ∙ sym (append_assoc (events_of x.actor x.event) (events_of_history xs) (events_of_history ys))

accepted_both : (w : World) (xs ys : List (ℕ × Event)) → AreAccepted w xs → AreAccepted (world_after_events w xs) ys → AreAccepted w (xs ++ ys)
accepted_both w [] ys a h = h
accepted_both w (x ∷ xs) ys a h = (a.0, accepted_both (world_after_event w x.0 x.1) xs ys a.1 h)

-- what is after as many as the first records that are there
drop_taken : (k : ℕ) (xs : List Record) → drop (length (take k xs)) xs ≡ drop k xs
drop_taken zero xs = refl
drop_taken (suc k) [] = refl
drop_taken (suc k) (x ∷ xs) = drop_taken k xs

-- if there are more, so many are there
by_there : (k : ℕ) (xs : List Record) → (drop (length (take k xs)) xs ≡ [] → length (take k xs) ≡ k) → length (take k xs) ≡ k
by_there zero xs h = refl
by_there (suc k) [] h = h refl
by_there (suc k) (x ∷ xs) h = ap (λ m. suc m) (by_there k xs (λ none. let e = h none in omega (arith, e)))

module _ (run : ℕ → Run) (w v : World) (records : List Record) (first : ℕ) (accepted : AreAccepted w (events_of_history (take first records)))
    (world : v ≡ world_after_events w (events_of_history (take first records))) where
  abbrev above : List Record
  above = take first records

  abbrev others : List Record
  others = drop (length above) records

  parts : records ≡ above ++ others
  parts = sym (take-append-drop first records) ∙ ap (λ (xs : List Record). above ++ xs) (sym (drop_taken first records))

  -- the others are accepted: all are
  all_accepted : AreAccepted v (events_of_history others) → AreAccepted w (events_of_history records)
  all_accepted h =
      subst (λ (es : List (ℕ × Event)). AreAccepted w es) (sym (ap events_of_history parts ∙ events_both above others))
      (accepted_both w (events_of_history above) (events_of_history others) accepted (subst (λ (u : World). AreAccepted u (events_of_history others)) world h))

  -- one of them is refused: it is that of all
  refused_later : (n : ℕ) (r : Refusal) → IsRefusedAt v others n r → IsRefusedAt w records (length above + n) r
  refused_later n r (earlier, later, x, is, before, why, at) =
      let whole = above ++ earlier in
      let there : length above + n ≡ length whole + 1 = omega (arith, at, length-append above earlier) in
      let after : world_after_events v (events_of_history earlier) ≡ world_after_events w (events_of_history whole) =
      ap (λ (u : World). world_after_events u (events_of_history earlier)) world
      ∙ sym (ap (λ (es : List (ℕ × Event)). world_after_events w es) (events_both above earlier) ∙ after_both w (events_of_history above) (events_of_history earlier)) in (
        whole,
        later,
        x,
        parts ∙ ap (λ (xs : List Record). above ++ xs) is ∙ sym (append_assoc above earlier (x ∷ later)),
        subst (λ (es : List (ℕ × Event)). AreAccepted w es) (sym (events_both above earlier))
            (accepted_both w (events_of_history above) (events_of_history earlier) accepted (subst (λ (u : World). AreAccepted u (events_of_history earlier)) world before)),
        subst (λ (u : World). IsFirstRefusal u (events_of x.actor x.event) r) after why,
        there,
      )

  -- the page of all, from its parts
  page_is : front_text (run (length above)) v ++ rows_text v (length above + 1) others ++ back_text (length others) None ≡ page_from run first w records None
  page_is =
      ap (λ (u : World). front_text (run (length above)) u ++ rows_text u (length above + 1) others ++ back_text (length others) None) world
      ∙ ap (λ (xs : List Record). page_text (run (length above)) w above xs None) (drop_taken first records)

  -- and of those before one that is refused
  module _ (n : ℕ) (r : Refusal) (refused : IsRefusedAt v others (n + 1) r) where
    abbrev earlier : List Record
    earlier = refused.0

    abbrev at_it : List Record
    at_it = refused.2 ∷ refused.1

    so_many : length earlier ≡ n
    so_many = omega (arith, refused.6)

    whole_there : length above ≡ first
    whole_there = by_there first records (λ none. let e = sym refused.3 ∙ none in no_end earlier refused.2 refused.1 e)
      where
        no_end : (xs : List Record) (y : Record) (ys : List Record) → xs ++ y ∷ ys ≡ [] → length above ≡ first
        no_end [] y ys e = absurd cc
        no_end (x ∷ xs) y ys e = absurd cc

    seam : (xs ys : List Record) (k : ℕ) → length xs ≡ k → (take k (xs ++ ys) ≡ xs) × (drop k (xs ++ ys) ≡ ys)
    seam [] ys zero e = (refl, refl)
    seam [] ys (suc k) e = absurd (omega (arith, e))
    seam (x ∷ xs) ys zero e = absurd (omega (arith, e))
    seam (x ∷ xs) ys (suc k) e = let h = seam xs ys k (omega (arith, e)) in (ap (λ (zs : List Record). x ∷ zs) h.0, h.1)

    earlier_is : take n others ≡ earlier
    earlier_is = ap (λ (xs : List Record). take n xs) refused.3 ∙ (seam earlier at_it n so_many).0

    before : take (length above + n + 1 - 1) records ≡ above ++ earlier
    before =
        let many : length (above ++ earlier) ≡ length above + n + 1 - 1 = omega (arith, so_many, length-append above earlier) in
        ap (λ (xs : List Record). take (length above + n + 1 - 1) xs) (parts ∙ ap (λ (xs : List Record). above ++ xs) refused.3 ∙ sym (append_assoc above earlier at_it))
        ∙ (seam (above ++ earlier) at_it (length above + n + 1 - 1) many).0

    not_below : nat_lt (length (above ++ earlier)) first ≡ false
    not_below = by_bool (nat_lt (length (above ++ earlier)) first) refl
      where
        by_bool : (b : Bool) → nat_lt (length (above ++ earlier)) first ≡ b → b ≡ false
        by_bool true e = absurd (omega (arith, ltb-true (length (above ++ earlier)) first e, length-append above earlier, whole_there))
        by_bool false e = refl

    refused_page_is : (line : Option (List ℕ)) (text : List ℕ) → line ≡ Some text
        → front_text (run (length above)) v ++ rows_text v (length above + 1) (take n others) ++ back_text n line ≡ page_from run first w (take (length above + n + 1 - 1) records) (Some text)
    refused_page_is line text is =
        let s = seam above earlier first whole_there in
        let u = world_after_events w (events_of_history above) in
        ap (λ (o : Option (List ℕ)). front_text (run (length above)) v ++ rows_text v (length above + 1) (take n others) ++ back_text n o) is
        ∙ ap (λ (z : World). front_text (run (length above)) z ++ rows_text z (length above + 1) (take n others) ++ back_text n (Some text)) world
        ∙ ap (λ (xs : List Record). front_text (run (length above)) u ++ rows_text u (length above + 1) xs ++ back_text n (Some text)) earlier_is
        ∙ ap (λ k. front_text (run (length above)) u ++ rows_text u (length above + 1) earlier ++ back_text k (Some text)) (sym so_many)
        ∙ ap (λ k. page_text (run k) w above earlier (Some text)) whole_there
        ∙ ap (λ (xs : List Record). page_text (run first) w xs earlier (Some text)) (sym s.0)
        ∙ ap (λ (xs : List Record). page_text (run first) w (take first (above ++ earlier)) xs (Some text)) (sym s.1)
        ∙ sym (ap (λ b. cond b (page_text (run 0) w [] [] (Some text)) (page_text (run first) w (take first (above ++ earlier)) (drop first (above ++ earlier)) (Some text))) not_below)
        ∙ ap (λ (xs : List Record). page_from run first w xs (Some text)) (sym before)

  -- WHAT IS PRINTED of all, from what is printed of the others
  pub above_printed : (rules : Rules) (Prints : List ℕ → Type 0) (how : Replayed) → rules ≡ w.table.rules
      → IsMadePrinted rules (run (length above)) v (length above) others how Prints → IsPagePrinted run w records first how Prints
  above_printed rules Prints replayed.Whole same (h, printed) = (all_accepted h, subst (λ (t : List ℕ). Prints t) page_is printed)
  above_printed rules Prints replayed.Refused same (n, r, refused, printed) =
      let number : length above + (n + 1) ≡ length above + n + 1 = omega arith in
      let line = refused_line w.table.rules (length above + n + 1) r in (
        length above + n + 1,
        r,
        subst (λ k. IsRefusedAt w records k r) number (refused_later (n + 1) r refused),
        subst (λ (t : List ℕ). Prints t)
            (refused_page_is n r refused (Some (refused_line rules (length above + n + 1) r)) line (ap (λ (x : Rules). Some (refused_line x (length above + n + 1) r)) same))
            printed,
      )

  pub above_begun : (rules : Rules) (Prints : List ℕ → Type 0) → rules ≡ w.table.rules
      → IsMadeBegun rules (run (length above)) v (length above) others Prints → IsPageBegun run w records first Prints
  above_begun rules Prints same (inl (n, h, begun)) =
      let some = take n (drop first records) in
      let rows : take n others ≡ some = ap (λ (xs : List Record). take n xs) (drop_taken first records) in
      let u = world_after_events w (events_of_history above) in
      inr (inl (
        n,
        (
          subst (λ (es : List (ℕ × Event)). AreAccepted w es) (sym (events_both above some))
              (accepted_both w (events_of_history above) (events_of_history some) accepted
              (subst (λ (z : World). AreAccepted z (events_of_history some)) world
              (subst (λ (xs : List Record). AreAccepted v (events_of_history xs)) rows h))),
          subst (λ (z : World). PrintsFront Prints (front_text (run (length above)) z ++ rows_text z (length above + 1) some)) world
              (subst (λ (xs : List Record). PrintsFront Prints (front_text (run (length above)) v ++ rows_text v (length above + 1) xs)) rows begun),
        ),
      ))
  above_begun rules Prints same (inr (how, h)) = inr (inr (how, above_printed rules (PrintsFront Prints) how same h))

-- ---- one of those above is refused

module _ (run : ℕ → Run) (w : World) (records : List Record) (first n : ℕ) (r : Refusal) (few : n ≤ length (take first records)) (refused : IsRefusedAt w (take first records) n r) where
  boot_refused : IsRefusedAt w records n r
  boot_refused =
      let whole = sym (take-append-drop first records) ∙ ap (λ (xs : List Record). xs ++ drop first records) refused.3 ∙ append_assoc refused.0 (refused.2 ∷ refused.1) (drop first records) in
      (refused.0, refused.1 ++ drop first records, refused.2, whole, refused.4, refused.5, refused.6)

  abbrev early : List Record
  early = take (n - 1) records

  short : (k m : ℕ) (xs : List Record) → m < length (take k xs) → length (take m xs) < k
  short zero m xs b = absurd (omega (arith, b))
  short (suc k) m [] b = absurd (omega (arith, b))
  short (suc k) zero (x ∷ xs) b = omega arith
  short (suc k) (suc m) (x ∷ xs) b = let h = short k m xs (omega (arith, b)) in omega (arith, h)

  is_below : nat_lt (length early) first ≡ true
  is_below = lt-ltb (length early) first (short first (n - 1) records (omega (arith, few, refused.6)))

  -- the page shows the machine at boot, and has no row
  pub boot_printed : (rules : Rules) (Prints : List ℕ → Type 0) → rules ≡ w.table.rules
      → Prints (front_text (run 0) w ++ back_text 0 (Some (refused_line rules n r))) → IsPagePrinted run w records first replayed.Refused Prints
  boot_printed rules Prints same printed =
      let line = Some (refused_line w.table.rules n r) in (
        n,
        r,
        boot_refused,
        subst (λ (t : List ℕ). Prints t)
            (ap (λ (t : List ℕ). t ++ back_text 0 line) (sym (append-nil (front_text (run 0) w)))
            ∙ sym (ap (λ b. cond b (page_text (run 0) w [] [] line) (page_text (run first) w (take first early) (drop first early) line)) is_below))
            (subst (λ (x : Rules). Prints (front_text (run 0) w ++ back_text 0 (Some (refused_line x n r)))) same printed),
      )

-- ---- by what a body has

module _ (run : ℕ → Run) (w v : World) (records skipped rows : List Record) (first k : ℕ) (rules : Rules) (same : skipped ≡ take first records) (many : k ≡ length skipped)
    (others_are : rows ≡ drop (length (take first records)) records) (accepted : AreAccepted w (events_of_history skipped)) (world : v ≡ world_after_events w (events_of_history skipped))
    (own : rules ≡ w.table.rules) where
  skipped_accepted : AreAccepted w (events_of_history (take first records))
  skipped_accepted = subst (λ (rs : List Record). AreAccepted w (events_of_history rs)) same accepted

  skipped_world : v ≡ world_after_events w (events_of_history (take first records))
  skipped_world = world ∙ ap (λ (rs : List Record). world_after_events w (events_of_history rs)) same

  so_many_above : k ≡ length (take first records)
  so_many_above = many ∙ ap length same

  pub page_of_rows : (Prints : List ℕ → Type 0) (how : Replayed) → IsMadePrinted rules (run k) v k rows how Prints → IsPagePrinted run w records first how Prints
  page_of_rows Prints how h =
      above_printed run w v records first skipped_accepted skipped_world rules Prints how own
      (subst (λ m. IsMadePrinted rules (run m) v m (drop (length (take first records)) records) how Prints) so_many_above
      (subst (λ (rs : List Record). IsMadePrinted rules (run k) v k rs how Prints) others_are h))

  pub front_of_rows : (Prints : List ℕ → Type 0) → IsMadeBegun rules (run k) v k rows Prints → IsPageBegun run w records first Prints
  front_of_rows Prints h =
      above_begun run w v records first skipped_accepted skipped_world rules Prints own
      (subst (λ m. IsMadeBegun rules (run m) v m (drop (length (take first records)) records) Prints) so_many_above
      (subst (λ (rs : List Record). IsMadeBegun rules (run k) v k rs Prints) others_are h))

module _ (run : ℕ → Run) (w : World) (records skipped : List Record) (first n : ℕ) (r : Refusal) (rules : Rules) (same : skipped ≡ take first records) (few : n ≤ length skipped)
    (refused : IsRefusedAt w skipped n r) (own : rules ≡ w.table.rules) where
  pub page_at_boot : (Prints : List ℕ → Type 0) → Prints (front_text (run 0) w ++ back_text 0 (Some (refused_line rules n r))) → IsPagePrinted run w records first replayed.Refused Prints
  page_at_boot Prints h =
      boot_printed run w records first n r (subst (λ (rs : List Record). n ≤ length rs) same few) (subst (λ (rs : List Record). IsRefusedAt w rs n r) same refused) rules Prints own h
