-- The lines of positions, one more, and what is printed of them and of the rows above them.
use Rattle.std.proofs.Common.{◌≡◌, ◌∙◌, ◌<◌, ◌≤◌, ℕ, zero, suc, ◌+◌, ◌-◌, Bool, List, [], ◌++◌, length, min, append_assoc, Option, Some, None, is_some, Result, Ok, Err, IfErr, OnOk, inl, inr, refl, ap, sym, subst, arith}
use Rattle.std.proofs.KnownBytes.{Appends-nil, Appends-trans}
use Rattle.std.proofs.lemmas.List.{append-nil}
use Rattle.std.specs.Io.KnownBytes.{Appends}
use Rattle.std.specs.Prelude.{IfOk, IsErrAnd}
use Rattle.mx_machine.specs.Boot.{world_at_boot}
use Rattle.mx_machine.specs.History.{AreAccepted, events_of_history, replay, world_after_events}
use Rattle.mx_machine.specs.Machine.{MachineState, world_of}
use Rattle.mx_machine.specs.Service.{Service}
use Rattle.mx_machine.specs.World.{World}
use Rattle.mx_machine.specs.declared.config.Config.{Config}
use Rattle.mx_machine.specs.declared.events.Refusal.{Refusal}
use Rattle.mx_machine.specs.declared.history.Record.{Record}
use Rattle.mx_turns.specs.declared.trials.Findings.{Findings}
use Rattle.mx_walk.specs.declared.progress.Part.{Part}
use Rattle.mx_walk.specs.Parts.{parts_shown}
use Rattle.mx_app_failure.specs.declared.failure.Failure.{Failure as Kind}
use Rattle.mx_app_failure.specs.Failure.{IsWanting, PrintsFront}
use Rattle.mx_app_step.proofs.FrontLemmas.{front_after, front_more}
use Rattle.mx_app_turns.specs.Blocks.{count_of}
use Rattle.mx_app_turns.specs.Sweeping.{IsShown, SweepOf, ended, ending_of, findings_at, is_alike_at, is_full_at, is_refused_at, positions_in, refusal_at, text_at, total_in, total_of}
use Rattle.mx_app_turns.specs.Tallied.{both, one_if, total_one}
use Rattle.mx_app_turns.specs.Untested.{untested_by}
use Rattle.mx_app_turns.specs.declared.blocks.Total.{Total}
use Rattle.mx_app_turns.specs.declared.nothing_tested.Untested.{Untested}
use Rattle.mx_app_turns.specs.declared.sweeping.Swept.{Swept}
use Rattle.mx_app_turns.specs.declared.sweeping.Swept.TheVariants.{Alike, Differs, Nothing, Refused}
use Rattle.mx_app_turns.proofs.BlockLemmas.{Counted, count_first, count_last, count_next}
use Rattle.mx_app_turns.proofs.SweptLemmas.{how_is, not_refused}
use Rattle.mx_look_page.specs.Heads.{Run}
use Rattle.mx_look_page.specs.Strips.{Strip, range_text}
use Rattle.mx_app_page.specs.Pages.{front_text, rows_text}
use Rattle.mx_app_page.specs.Strips.{AreCounts, ArePositionsShown, IsSweptPageBegun, IsSweptPageDone, IsSweptPagePrinted, beginning_text, later_text, positions_text, strip_in, strip_text, swept_page_text}
use Rattle.mx_app_page.proofs.ReadingLemmas.{services_stay}

-- ---- lines

-- the line of the range that begins at position k + 1, if one does
abbrev line_after : SweepOf → ℕ → List ℕ
line_after s k = beginning_text (k + 1) (text_at s k) (is_alike_at s k) (text_at s (k + 1)) (is_alike_at s (k + 1))

-- the line of the first range
abbrev first_line : SweepOf → ℕ → List ℕ
first_line s k = range_text k [] (text_at s k) (is_alike_at s k)

later_more : (s : SweepOf) (n k m : ℕ) → m ≡ k + n → later_text s (suc n) k ≡ later_text s n k ++ line_after s m
later_more s zero k m at =
    let here : k ≡ m = omega (arith, at) in
    append-nil (line_after s k) ∙ ap (λ i. line_after s i) here
later_more s (suc n) k m at =
    let next : m ≡ k + 1 + n = omega (arith, at) in
    ap (λ (t : List ℕ). line_after s k ++ t) (later_more s n (k + 1) m next)
    ∙ sym (append_assoc (line_after s k) (later_text s n (k + 1)) (line_after s m))

positions_more : (s : SweepOf) (n k m : ℕ) → 0 < n → m + 1 ≡ k + n → positions_text s (suc n) k ≡ positions_text s n k ++ line_after s m
positions_more s zero k m some at = absurd (omega (arith, some))
positions_more s (suc n) k m some at =
    ap (λ (t : List ℕ). first_line s k ++ t) (later_more s n k m (omega (arith, at)))
    ∙ sym (append_assoc (first_line s k) (later_text s n k) (line_after s m))

-- the first of them
later_front : (s : SweepOf) (m n k : ℕ) → m ≤ n → (rest : List ℕ) × (later_text s n k ≡ later_text s m k ++ rest)
later_front s zero n k few = (later_text s n k, refl)
later_front s (suc m) zero k few = absurd (omega (arith, few))
later_front s (suc m) (suc n) k few =
    let h = later_front s m n (k + 1) (omega (arith, few)) in
    (h.0, ap (λ (t : List ℕ). line_after s k ++ t) h.1 ∙ sym (append_assoc (line_after s k) (later_text s m (k + 1)) h.0))

positions_front : (s : SweepOf) (m n k : ℕ) → m ≤ n → (rest : List ℕ) × (positions_text s n k ≡ positions_text s m k ++ rest)
positions_front s zero n k few = (positions_text s n k, refl)
positions_front s (suc m) zero k few = absurd (omega (arith, few))
positions_front s (suc m) (suc n) k few =
    let h = later_front s m n k (omega (arith, few)) in
    (h.0, ap (λ (t : List ℕ). first_line s k ++ t) h.1 ∙ sym (append_assoc (first_line s k) (later_text s m k) h.0))

-- ---- those of a sweep so far

-- The lines of the positions from one to the one above p are printed, and these are counted; the last of them ends so, as
-- without the fault or not.
pub record PrintedSoFar (s : SweepOf) (from end p : ℕ) (old now : Option (List ℕ)) (before : List ℕ) (was : Bool) (total : Total) : Type 0 where
  pub above : from < p
  pub within : p ≤ end
  pub last : before ≡ text_at s (p - 1)
  pub alike : was ≡ is_alike_at s (p - 1)
  pub printed : Appends old now (positions_text s (p - from) from)
  pub positions : total.positions ≡ p - from
  pub few : total.blocks ≤ p - from
  pub counted_alike : Counted (is_alike_at s) from end p total.alike
  pub counted_refused : Counted (is_refused_at s) from end p total.refused
  pub counted_full : Counted (is_full_at s) from end p total.full

module _ (s : SweepOf) (from end : ℕ) where
  -- the first line
  module _ (text : List ℕ) (found : Findings) (same : text ≡ text_at s from) (is : found ≡ findings_at s from) where
    pub first_is : range_text from [] text found.is_alike ≡ positions_text s (from + 1 - from) from
    first_is =
        let one : suc zero ≡ from + 1 - from = omega arith in
        ap (λ (t : List ℕ). range_text from [] t found.is_alike) same
        ∙ ap (λ (f : Findings). range_text from [] (text_at s from) f.is_alike) is
        ∙ sym (append-nil (first_line s from)) ∙ ap (λ n. positions_text s n from) one

    pub first_printed : (old now : Option (List ℕ)) (total : Total) → from < end → total ≡ total_one found → Appends old now (range_text from [] text found.is_alike)
        → PrintedSoFar s from end (from + 1) old now text found.is_alike total
    first_printed old now total some counted line =
        let here : from ≡ from + 1 - 1 = omega arith in
        let one : total ≡ total_one (findings_at s from) = counted ∙ ap total_one is in
        record {
          above = omega arith;
          within = omega (arith, some);
          last = same ∙ ap (text_at s) here;
          alike = ap (λ (f : Findings). f.is_alike) is ∙ ap (is_alike_at s) here;
          printed = subst (λ (t : List ℕ). Appends old now t) first_is line;
          positions = let n = ap (λ (t : Total). t.positions) one in omega (arith, n);
          few = let b = ap (λ (t : Total). t.blocks) one in omega (arith, b);
          counted_alike = count_first (is_alike_at s) from end total.alike some (ap (λ (t : Total). t.alike) one);
          counted_refused = count_first (is_refused_at s) from end total.refused some (ap (λ (t : Total). t.refused) one);
          counted_full = count_first (is_full_at s) from end total.full some (ap (λ (t : Total). t.full) one);
        }

  -- a front of the lines of some positions is one of all
  pub front_of_all : (p : ℕ) (old now : Option (List ℕ)) → p ≤ end → PrintsFront (λ t. Appends old now t) (positions_text s (p - from) from)
      → PrintsFront (λ t. Appends old now t) (positions_text s (end - from) from)
  front_of_all p old now few begun =
      let h = positions_front s (p - from) (end - from) from (omega (arith, few)) in
      subst (λ (t : List ℕ). PrintsFront (λ u. Appends old now u) t) (sym h.1)
      (front_more (λ t. Appends old now t) (positions_text s (p - from) from) h.0 begun)

  module _ (p : ℕ) (old now : Option (List ℕ)) (before : List ℕ) (was : Bool) (total : Total) (so_far : PrintedSoFar s from end p old now before was total) where
    pub some_begun : PrintsFront (λ t. Appends old now t) (positions_text s (end - from) from)
    some_begun =
        let h = positions_front s (p - from) (end - from) from (let w = so_far.within in omega (arith, w)) in
        (positions_text s (p - from) from, h.0, h.1, so_far.printed)

    -- the counts of all
    pub all_counts : p ≡ end → AreCounts s (end - from) from total
    all_counts last = (
      so_far.positions ∙ ap (λ i. i - from) last,
      count_last (is_alike_at s) from end p total.alike so_far.counted_alike last,
      count_last (is_refused_at s) from end p total.refused so_far.counted_refused last,
      count_last (is_full_at s) from end p total.full so_far.counted_full last,
    )

    -- one position more
    module _ (text : List ℕ) (found : Findings) (more : p < end) (same : text ≡ text_at s p) (is : found ≡ findings_at s p) where
      next_is : positions_text s (p - from) from ++ beginning_text p before was text found.is_alike ≡ positions_text s (p + 1 - from) from
      next_is =
          let m = p - 1 in
          let back : p ≡ m + 1 = let a = so_far.above in omega (arith, a) in
          let many : suc (p - from) ≡ p + 1 - from = let a = so_far.above in omega (arith, a) in
          let some : 0 < p - from = let a = so_far.above in omega (arith, a) in
          let at : m + 1 ≡ from + (p - from) = let a = so_far.above in omega (arith, a) in
          let line : beginning_text p before was text found.is_alike ≡ line_after s m =
          ap (λ (t : List ℕ). beginning_text p t was text found.is_alike) so_far.last
          ∙ ap (λ (b : Bool). beginning_text p (text_at s m) b text found.is_alike) so_far.alike
          ∙ ap (λ (t : List ℕ). beginning_text p (text_at s m) (is_alike_at s m) t found.is_alike) same
          ∙ ap (λ (f : Findings). beginning_text p (text_at s m) (is_alike_at s m) (text_at s p) f.is_alike) is
          ∙ ap (λ i. beginning_text i (text_at s m) (is_alike_at s m) (text_at s i) (is_alike_at s i)) back in
          ap (λ (t : List ℕ). positions_text s (p - from) from ++ t) line ∙ sym (positions_more s (p - from) from m some at)
          ∙ ap (λ n. positions_text s n from) many

      pub next_begun : (next : Option (List ℕ)) → PrintsFront (λ t. Appends now next t) (beginning_text p before was text found.is_alike)
          → PrintsFront (λ t. Appends old next t) (positions_text s (end - from) from)
      next_begun next begun =
          front_of_all (p + 1) old next (omega (arith, more))
          (subst (λ (t : List ℕ). PrintsFront (λ u. Appends old next u) t) next_is
          (front_after old now next (positions_text s (p - from) from) (beginning_text p before was text found.is_alike) so_far.printed begun))

      pub next_printed : (next : Option (List ℕ)) (sum : Total) → sum ≡ both total (total_one found) → Appends now next (beginning_text p before was text found.is_alike)
          → PrintedSoFar s from end (p + 1) old next text found.is_alike sum
      next_printed next sum counted line =
          let here : p ≡ p + 1 - 1 = omega arith in
          let one : sum ≡ both total (total_one (findings_at s p)) = counted ∙ ap (λ (f : Findings). both total (total_one f)) is in
          record {
            above = let a = so_far.above in omega (arith, a);
            within = omega (arith, more);
            last = same ∙ ap (text_at s) here;
            alike = ap (λ (f : Findings). f.is_alike) is ∙ ap (is_alike_at s) here;
            printed = subst (λ (t : List ℕ). Appends old next t) next_is
                (Appends-trans old now next (positions_text s (p - from) from) (beginning_text p before was text found.is_alike) so_far.printed line);
            positions = let n = ap (λ (t : Total). t.positions) one in let a = so_far.above in let b = so_far.positions in omega (arith, n, a, b);
            few = let n = ap (λ (t : Total). t.blocks) one in let a = so_far.above in let b = so_far.few in omega (arith, n, a, b);
            counted_alike = count_next (is_alike_at s) from end p total.alike sum.alike so_far.counted_alike so_far.above more (ap (λ (t : Total). t.alike) one);
            counted_refused = count_next (is_refused_at s) from end p total.refused sum.refused so_far.counted_refused so_far.above more (ap (λ (t : Total). t.refused) one);
            counted_full = count_next (is_full_at s) from end p total.full sum.full so_far.counted_full so_far.above more (ap (λ (t : Total). t.full) one);
          }

-- where there is no position nothing is printed, and nothing counted
pub nothing_printed : (s : SweepOf) (from end : ℕ) (old : Option (List ℕ)) → end ≤ from → Appends old old (positions_text s (end - from) from)
nothing_printed s from end old few =
    let none : 0 ≡ end - from = omega (arith, few) in
    subst (λ n. Appends old old (positions_text s n from)) none (Appends-nil old)

pub nothing_counted : (s : SweepOf) (from end : ℕ) (total : Total) → end ≤ from → total ≡ record { positions = 0; blocks = 0; alike = 0; refused = 0; full = 0 } → AreCounts s (end - from) from total
nothing_counted s from end total few counted =
    let none : 0 ≡ end - from = omega (arith, few) in
    subst (λ n. AreCounts s n from total) none
    (ap (λ (t : Total). t.positions) counted, ap (λ (t : Total). t.alike) counted, ap (λ (t : Total). t.refused) counted, ap (λ (t : Total). t.full) counted)

pub nothing_shown : (before : List Part) (from end : ℕ) → end ≤ from → before ≡ before ++ parts_shown (end - from) (end - from)
nothing_shown before from end few =
    let none : 0 ≡ end - from = omega (arith, few) in
    sym (append-nil before) ∙ ap (λ n. before ++ parts_shown n n) none

-- ---- how it ended

by_untested : (o : Option Untested) (t u : Total) → t.positions ≡ u.positions → t.alike ≡ u.alike → ended o t ≡ ended o u
by_untested (Some why) t u positions alike = refl
by_untested None t u positions alike =
    λ i. (let x : Total = record { positions = positions i; blocks = 0; alike = alike i; refused = 0; full = 0 } in ended None x)

-- the counts say it, but for blocks
pub ending_is : (s : SweepOf) (from to first end : ℕ) → first ≡ from → end ≡ min to (length s.records) + 1 → (total : Total) → AreCounts s (end - first) first total → (how : Swept) (why : Option Refusal)
    → (first < end → why ≡ refusal_at s first) → how ≡ ended (untested_by (length s.fault) from to total why) total → how ≡ ending_of s from to
ending_is s from to first end at by total counts how why refused h =
    let x = total_of s (end - first) first in
    let same : untested_by (length s.fault) from to total why ≡ untested_by (length s.fault) from to x why =
    λ i. (let t : Total = record { positions = counts.0 i; blocks = 0; alike = 0; refused = counts.2 i; full = counts.3 i } in untested_by (length s.fault) from to t why) in
    how_is s s refl from to first end (length s.records) at refl by x refl how why (λ some. refused some ∙ ap (refusal_at s) at)
    (h ∙ ap (λ (o : Option Untested). ended o total) same ∙ by_untested (untested_by (length s.fault) from to x why) total x counts.0 counts.1)

-- ---- the machine of the rows

kernel_services : (m : MachineState) → (world_of m).services ≡ m.kernel.boot.services
unfolding world_of replay
kernel_services m = services_stay m.kernel.boot (events_of_history m.kernel.history)

-- what it was made of is what it was made of before its records
pub same_services : (m n : MachineState) (w : World) (records : List Record) (services : List Service) → world_of m ≡ w → world_of n ≡ world_after_events w (events_of_history records)
    → services ≡ n.kernel.boot.services → services ≡ w.services
same_services m n w records services is after own =
    own ∙ sym (kernel_services n) ∙ ap (λ (v : World). v.services) after ∙ services_stay w (events_of_history records)

pub same_boot : (config : Config) (w : World) (services : List Service) → w ≡ world_at_boot config w.services → services ≡ w.services → world_at_boot config services ≡ w
same_boot config w services booted same = ap (world_at_boot config) same ∙ sym booted

-- ---- the page

module _ (r : Run) (s : SweepOf) (fault : List ℕ) (from to : ℕ) where
  abbrev all : ℕ
  all = positions_in s from to

  abbrev strip : Strip
  strip = strip_in s fault from to

  -- what is swept isn't refused
  page_printed : (Prints : List ℕ → Type 0) (how : Swept) → AreAccepted s.boot (events_of_history s.records) → how ≡ ending_of s from to → Prints (swept_page_text r s strip)
      → IsSweptPagePrinted r s fault from to how Prints
  page_printed Prints Alike accepted is printed = (accepted, is, printed)
  page_printed Prints Differs accepted is printed = (accepted, is, printed)
  page_printed Prints (Nothing why) accepted is printed = (accepted, is, printed)
  page_printed Prints Refused accepted is printed =
      absurd (not_refused (untested_by (length s.fault) from to (total_in s from to) (refusal_at s from)) (total_in s from to) is)

  all_shown : (how : Swept) (ps : List Part) → how ≡ ending_of s from to → ps ≡ parts_shown all all → ArePositionsShown s from to how ps
  all_shown Alike ps is shown = shown
  all_shown Differs ps is shown = shown
  all_shown (Nothing why) ps is shown = shown
  all_shown Refused ps is shown =
      absurd (not_refused (untested_by (length s.fault) from to (total_in s from to) (refusal_at s from)) (total_in s from to) is)

  -- a failure before the first position
  pub failed : (Prints : List ℕ → Type 0) (f : Kind) (e : Result Swept Kind) → IsErrAnd e (λ y. y ≡ f) → IsWanting f → IsSweptPageBegun r s fault from to Prints
      → IsSweptPageDone r s fault from to [] Prints e
  failed Prints f (Ok how) is why begun = absurd is
  failed Prints f (Err y) is why begun = (subst IsWanting (sym is) why, begun, (0, omega arith, refl))

  -- what stands below the rows, after these
  module _ (x y z u : Option (List ℕ)) (front : Appends x y (front_text r s.boot)) (rows : Appends y z (rows_text s.boot 1 s.records)) (accepted : AreAccepted s.boot (events_of_history s.records)) where
    abbrev top : List ℕ
    top = front_text r s.boot ++ rows_text s.boot 1 s.records

    top_printed : Appends x z top
    top_printed = Appends-trans x y z (front_text r s.boot) (rows_text s.boot 1 s.records) front rows

    pub below_done : (before after : List Part) (n : ℕ) (told : Strip) (e : Result Swept Kind) → n ≡ all → told ≡ strip → IfErr e IsWanting
        → IfErr e (λ _. PrintsFront (λ t. Appends z u t) (strip_text s (length s.records) told)) → OnOk e (Appends z u (strip_text s (length s.records) told))
        → IfOk e (λ how. how ≡ ending_of s from to) → IsShown before after n e
        → (ps : List Part) × (after ≡ before ++ ps) × IsSweptPageDone r s fault from to ps (λ t. Appends x u t) e
    below_done before after n told (Ok how) many same wanting begun printed is shown =
        let below = subst (λ (t : Strip). Appends z u (strip_text s (length s.records) t)) same printed in (
          parts_shown n n,
          shown,
          (
            page_printed (λ t. Appends x u t) how accepted is (Appends-trans x z u top (strip_text s (length s.records) strip) top_printed below),
            all_shown how (parts_shown n n) is (ap (λ i. parts_shown i i) many),
          ),
        )
    below_done before after n told (Err f) many same wanting begun printed is shown =
        let below = subst (λ (t : Strip). PrintsFront (λ v. Appends z u v) (strip_text s (length s.records) t)) same begun in (
          parts_shown n shown.0,
          shown.2,
          (
            wanting,
            inr (inr (
              ending_of s from to,
              page_printed (PrintsFront (λ t. Appends x u t)) (ending_of s from to) accepted refl (front_after x z u top (strip_text s (length s.records) strip) top_printed below),
            )),
            (shown.0, (let few = shown.1 in omega (arith, few, many)), ap (λ i. parts_shown i shown.0) many),
          ),
        )

-- what a sweep is of, with this actor for what comes from outside
abbrev pub of_other : SweepOf → ℕ → SweepOf
of_other s n = record { boot = s.boot; other = n; records = s.records; fault = s.fault; bound = s.bound }

pub strip_is : (x y : Strip) → x.fault ≡ y.fault → x.turns ≡ y.turns → x.from ≡ y.from → x.positions ≡ y.positions → x ≡ y
strip_is x y f t from n = λ i. record { fault = f i; turns = t i; from = from i; positions = n i }

pub swept_done : (q r : Run) (t s : SweepOf) (fault : List ℕ) (from to : ℕ) (ps : List Part) (Prints : List ℕ → Type 0) (e : Result Swept Kind) → q ≡ r → t ≡ s
    → IsSweptPageDone q t fault from to ps Prints e → IsSweptPageDone r s fault from to ps Prints e
swept_done q r t s fault from to ps Prints e run of h =
    subst (λ (z : SweepOf). IsSweptPageDone r z fault from to ps Prints e) of (subst (λ (z : Run). IsSweptPageDone z t fault from to ps Prints e) run h)
