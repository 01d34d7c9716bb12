-- The page of a history whose machine was started.
use Rattle.std.proofs.Common.{◌≡◌, ◌∙◌, ◌++◌, ℕ, List, ap, take, subst}
use Rattle.mx_machine.specs.Boot.{world_at_boot}
use Rattle.mx_machine.specs.declared.history.Record.{Record}
use Rattle.mx_machine.specs.World.{World}
use Rattle.mx_look_page.specs.Heads.{Run, head_text}
use Rattle.mx_look_page.specs.Shown.{ShownWorld}
use Rattle.mx_machine.specs.Service.{Service as Served}
use Rattle.mx_app_step.specs.Config.{Config}
use Rattle.mx_app_step.specs.Service.{Service}
use Rattle.mx_app_step.specs.declared.records.Replayed.{Replayed}
use Rattle.mx_app_page.specs.Pages.{front_text, run_of_files, shown_in, IsPageBegun, IsPagePrinted}
use Rattle.mx_app_page.specs.declared.fixed.TheConstants.{FRONT}

-- a run, with any number of records above the first row
abbrev pub with_first : Run → ℕ → Run
with_first r first = record r { first = first }

module _ (Prints : List ℕ → Type 0) (config log : List ℕ) (c d : Config) (vs : List Service) (records slice : List Record) (w : World) (r : Run) (first n to : ℕ)
    (same : slice ≡ take to records) (world : w ≡ world_at_boot c vs) (run : r ≡ run_of_files config log n d) (own : d ≡ c) (many : first ≡ n) where
  abbrev runs : Config → ℕ → Run
  runs k m = run_of_files config log m k

  pub page_printed : (how : Replayed) → IsPagePrinted (with_first r) w slice first how Prints → IsPagePrinted (runs c) (world_at_boot c vs) (take to records) n how Prints
  page_printed how h =
      subst (λ (k : Config). IsPagePrinted (runs k) (world_at_boot c vs) (take to records) n how Prints) own
      (subst (λ (v : World). IsPagePrinted (runs d) v (take to records) n how Prints) world
      (subst (λ (rs : List Record). IsPagePrinted (runs d) w rs n how Prints) same
      (subst (λ m. IsPagePrinted (runs d) w slice m how Prints) many
      (subst (λ (q : Run). IsPagePrinted (with_first q) w slice first how Prints) run h))))

  pub page_begun : IsPageBegun (with_first r) w slice first Prints → IsPageBegun (runs c) (world_at_boot c vs) (take to records) n Prints
  page_begun h =
      subst (λ (k : Config). IsPageBegun (runs k) (world_at_boot c vs) (take to records) n Prints) own
      (subst (λ (v : World). IsPageBegun (runs d) v (take to records) n Prints) world
      (subst (λ (rs : List Record). IsPageBegun (runs d) w rs n Prints) same
      (subst (λ m. IsPageBegun (runs d) w slice m Prints) many
      (subst (λ (q : Run). IsPageBegun (with_first q) w slice first Prints) run h))))

-- the text above the rows, from its parts
pub front_is : (r : Run) (w : World) (vs : List Served) (s : ShownWorld) (half text : List ℕ) → half ≡ FRONT.now → text ≡ half ++ head_text r vs s → vs ≡ w.services → s ≡ shown_in w → text ≡ front_text r w
front_is r w vs s half text fixed is same shown =
    is ∙ ap (λ (t : List ℕ). t ++ head_text r vs s) fixed ∙ ap (λ (us : List Served). FRONT.now ++ head_text r us s) same
    ∙ ap (λ (p : ShownWorld). FRONT.now ++ head_text r w.services p) shown
