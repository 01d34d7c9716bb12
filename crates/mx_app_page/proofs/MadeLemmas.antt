-- The page of the records that stand in rows, from its parts.
use Rattle.std.proofs.Common.{ℕ, ◌+◌, List, ◌++◌, length, take, Option, Some, None, inl, inr}
use Rattle.std.proofs.KnownBytes.{Appends-trans}
use Rattle.std.specs.Io.KnownBytes.{Appends}
use Rattle.mx_machine.specs.declared.events.Refusal.{Refusal}
use Rattle.mx_machine.specs.declared.history.Record.{Record}
use Rattle.mx_machine.specs.World.{World}
use Rattle.mx_proc.specs.declared.windows.Rules.{Rules}
use Rattle.mx_look_page.specs.Heads.{Run}
use Rattle.mx_app_step.specs.Failure.{PrintsFront}
use Rattle.mx_app_step.specs.declared.records.Replayed.TheVariants as replayed
use Rattle.mx_app_step.proofs.FrontLemmas.{front_after, front_more, front_none}
use Rattle.mx_app_page.specs.Pages.{front_text, back_text, rows_text, refused_line, AreRowsBegun, AreRowsPrinted, IsMadeBegun, IsMadePrinted}

module _ (rules : Rules) (r : Run) (w : World) (above : ℕ) (records : List Record) (x y : Option (List ℕ)) where
  abbrev head : List ℕ
  head = front_text r w

  abbrev rows : List ℕ
  rows = rows_text w (above + 1) records

  abbrev back : List ℕ
  back = back_text (length records) None

  abbrev some : ℕ → List ℕ
  some n = rows_text w (above + 1) (take n records)

  abbrev back_at : ℕ → Refusal → List ℕ
  back_at n q = back_text n (Some (refused_line rules (above + n + 1) q))

  -- a front, where printing stops
  pub none_begun : IsMadeBegun rules r w above records (λ t. Appends x x t)
  none_begun = inl (0, tt, front_none x (head ++ some 0))

  pub head_begun : PrintsFront (λ t. Appends x y t) head → IsMadeBegun rules r w above records (λ t. Appends x y t)
  head_begun h = inl (0, tt, front_more (λ t. Appends x y t) head (some 0) h)

  module _ (z : Option (List ℕ)) (headed : Appends x y head) where
    pub rows_begun : AreRowsBegun w above records (λ t. Appends y z t) → IsMadeBegun rules r w above records (λ t. Appends x z t)
    rows_begun (n, accepted, h) = inl (n, accepted, front_after x y z head (some n) headed h)

    module _ (u : Option (List ℕ)) where
      pub back_begun : AreRowsPrinted w above records None (λ t. Appends y z t) → PrintsFront (λ t. Appends z u t) back → IsMadeBegun rules r w above records (λ t. Appends x u t)
      back_begun p h = inr (replayed.Whole, (p.0, front_after x z u (head ++ rows) back (Appends-trans x y z head rows headed p.1) h))

      pub refused_front : (n : ℕ) (q : Refusal) → AreRowsPrinted w above records (Some (n, q)) (λ t. Appends y z t) → PrintsFront (λ t. Appends z u t) (back_at n q)
          → IsMadePrinted rules r w above records replayed.Refused (PrintsFront (λ t. Appends x u t))
      refused_front n q p h = (n, q, p.0, front_after x z u (head ++ some n) (back_at n q) (Appends-trans x y z head (some n) headed p.1) h)

      pub refused_begun : (n : ℕ) (q : Refusal) → AreRowsPrinted w above records (Some (n, q)) (λ t. Appends y z t) → PrintsFront (λ t. Appends z u t) (back_at n q)
          → IsMadeBegun rules r w above records (λ t. Appends x u t)
      refused_begun n q p h = inr (replayed.Refused, refused_front n q p h)

      -- all of it
      pub whole_printed : AreRowsPrinted w above records None (λ t. Appends y z t) → Appends z u back → IsMadePrinted rules r w above records replayed.Whole (λ t. Appends x u t)
      whole_printed p h = (p.0, Appends-trans x z u (head ++ rows) back (Appends-trans x y z head rows headed p.1) h)

      pub refused_printed : (n : ℕ) (q : Refusal) → AreRowsPrinted w above records (Some (n, q)) (λ t. Appends y z t) → Appends z u (back_at n q)
          → IsMadePrinted rules r w above records replayed.Refused (λ t. Appends x u t)
      refused_printed n q p h = (n, q, p.0, Appends-trans x z u (head ++ some n) (back_at n q) (Appends-trans x y z head (some n) headed p.1) h)
