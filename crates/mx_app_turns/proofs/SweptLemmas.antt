-- What is done of a history.
use Rattle.std.proofs.Common.{◌≡◌, ◌∙◌, ◌<◌, ◌≤◌, ◌+◌, ◌-◌, ◌==◌, ◌⊎◌, ℕ, zero, suc, Bool, true, false, cond, List, [], ◌++◌, length, min, Option, Some, None, Result, Ok, Err, inl, inr, refl, ap, ap₂, arith, subst, sym}
use Rattle.std.proofs.KnownBytes.{Appends-trans}
use Rattle.std.specs.Io.KnownBytes.{Appends}
use Rattle.std.proofs.lemmas.List.{append-nil}
use Rattle.std.specs.List.{flat_map}
use Rattle.std.specs.Prelude.{IfErr, IfOk, IsErrAnd}
use Rattle.mx_app_start.specs.Log.{lines_above}
use Rattle.mx_app_start.specs.Programs.{over_program}
use Rattle.mx_machine.specs.Boot.{world_at_boot}
use Rattle.mx_machine.specs.declared.events.Refusal.{Refusal}
use Rattle.mx_machine.specs.declared.history.Record.{Record}
use Rattle.mx_machine.specs.World.{World}
use Rattle.mx_machine.specs.History.{AreAccepted, BootAndHistory, events_of_history}
use Rattle.mx_walk.specs.declared.progress.Part.{Part}
use Rattle.mx_walk.specs.Parts.{parts_shown}
use Rattle.mx_app_failure.specs.declared.failure.Failure.{Failure as Kind}
use Rattle.mx_app_failure.specs.Failure.{IsWanting}
use Rattle.mx_app_step.specs.Asked.{Asked}
use Rattle.mx_app_step.specs.Config.{Config}
use Rattle.mx_app_step.specs.Kept.{text_kept}
use Rattle.mx_app_step.specs.Records.{IsRefusedAt, refused_record_line}
use Rattle.mx_app_step.specs.Service.{Service}
use Rattle.mx_app_step.specs.Written.{Written}
use Rattle.mx_app_turns.specs.declared.blocks.Total.{Total}
use Rattle.mx_turns.specs.declared.faults.FaultLine.{FaultLine}
use Rattle.mx_app_turns.specs.Blocks.{block_text, count_of, total_text}
use Rattle.mx_app_turns.specs.declared.sweeping.Swept.{Swept}
use Rattle.mx_app_turns.specs.declared.sweeping.Swept.TheVariants.{Alike, Differs, Nothing, Refused}
use Rattle.mx_app_turns.specs.declared.nothing_tested.Untested.{Untested}
use Rattle.mx_app_turns.specs.declared.nothing_tested.Untested.TheVariants.{NoLine, NoPosition}
use Rattle.mx_app_turns.specs.Untested.{refused_or_full, untested_by}
use Rattle.mx_app_turns.specs.Begun.{IsDone}
use Rattle.mx_app_turns.specs.Sweeping.{IsBegun, IsNotBegun, IsShown, IsSweptThrough, IsUnsaved, SweepOf, Sweeps, blocks_at, ended, ending_of, is_alike_at, last_text, of, positions_in, refusal_at, run_at, saved_if, saves_program, sweep_text, total_in, total_of}

-- ---- how it ended

by_test : (b : Bool) → Refused ≡ cond b Alike Differs → ⊥
by_test true h = absurd cc
by_test false h = absurd cc

-- what is swept isn't refused
pub not_refused : (o : Option Untested) (total : Total) → Refused ≡ ended o total → ⊥
not_refused (Some why) total h = absurd cc
not_refused None total h = by_test (total.alike == total.positions) h

-- what is printed and saved, however it ended
module _ (s : SweepOf) (from to : ℕ) (save : Option (List ℕ)) (ws : List Written) (ps : List Part) (Prints : List ℕ → Type 0) where
  abbrev positions : ℕ
  positions = positions_in s from to

  pub through : (how : Swept) → AreAccepted s.boot (events_of_history s.records) → how ≡ ending_of s from to → Prints (sweep_text s from to)
      → ws ≡ saved_if (last_text s to) positions save → ps ≡ parts_shown positions positions → IsSweptThrough s from to save ws ps Prints how
  through Alike accepted is printed written shown = (shown, accepted, is, printed, written)
  through Differs accepted is printed written shown = (shown, accepted, is, printed, written)
  through (Nothing why) accepted is printed written shown = (shown, accepted, is, printed, written)
  through Refused accepted is printed written shown = absurd (not_refused (untested_by (length s.fault) from to (total_in s from to) (refusal_at s from)) (total_in s from to) is)

-- ---- the counts

-- why nothing was tested doesn't depend on a refusal if there is no position
by_count : (lines from to n : ℕ) (total : Total) (x y : Option Refusal) → total.positions ≡ n → (0 < n → x ≡ y) → untested_by lines from to total x ≡ untested_by lines from to total y
by_count lines from to zero total x y none same =
    let by : Option Refusal → Bool → Option Untested =
    λ z b. cond (lines == 0) (Some NoLine) (cond b (Some (NoPosition from to)) (refused_or_full (cond (total.refused == total.positions) z None) (total.full == total.positions))) in
    let at : (total.positions == 0) ≡ true = ap (λ n. n == 0) none in
    ap (by x) at ∙ sym (ap (by y) at)
by_count lines from to (suc n) total x y some same = ap (untested_by lines from to total) (same (omega arith))

last_position : (from to end records n : ℕ) → end ≡ min to records + 1 → n ≡ end - from → 0 < n → (from < end) × (end - 1 ≡ min to records)
last_position from to end records n is many some = (omega (arith, many, some), omega (arith, is))

saved_last : (s : SweepOf) (text : List ℕ) (to n : ℕ) (save : Option (List ℕ)) → (0 < n → text ≡ last_text s to) → saved_if text n save ≡ saved_if (last_text s to) n save
saved_last s text to n None same = refl
saved_last s text to zero (Some name) same = refl
saved_last s text to (suc n) (Some name) same = ap (λ t. saved_if t (suc n) (Some name)) (same (omega arith))

-- the positions of a range, which ends after the last, are swept and counted
module _ (t s : SweepOf) (same : t ≡ s) (from to first end records : ℕ) (at : first ≡ from) (many : records ≡ length s.records) (by : end ≡ min to records + 1) (total : Total) (counted : total ≡ total_of t (end - first) first) where
  in_all : end - first ≡ positions_in s from to
  in_all = ap (λ f. end - f) at ∙ ap (λ n. n - from) by ∙ ap (λ n. min to n + 1 - from) many

  counted_here : total ≡ total_of s (positions_in s from to) from
  counted_here = counted ∙ ap (λ (x : SweepOf). total_of x (end - first) first) same ∙ ap₂ (λ m f. total_of s m f) in_all at

  pub all_printed : (old mid now : Option (List ℕ)) → Appends old mid (flat_map block_text (blocks_at t (end - first) first)) → Appends mid now (total_text total.positions total.blocks total.alike) → Appends old now (sweep_text s from to)
  all_printed old mid now above below =
      let one = subst (λ (x : SweepOf). Appends old mid (flat_map block_text (blocks_at x (end - first) first))) same above in
      let two = subst (λ n. Appends old mid (flat_map block_text (blocks_at s n first))) in_all one in
      let three = subst (λ f. Appends old mid (flat_map block_text (blocks_at s (positions_in s from to) f))) at two in
      let n = positions_in s from to in
      let bs = blocks_at s n from in
      Appends-trans old mid now (flat_map block_text bs) (total_text n (length bs) (count_of (is_alike_at s) n from)) three
      (subst (λ (x : Total). Appends mid now (total_text x.positions x.blocks x.alike)) counted_here below)

  pub how_is : (how : Swept) (why : Option Refusal) → (first < end → why ≡ refusal_at s from) → how ≡ ended (untested_by (length s.fault) from to total why) total → how ≡ ending_of s from to
  how_is how why refused h =
      let some : 0 < total.positions → why ≡ refusal_at s from = λ m. refused (let n = ap (λ (x : Total). x.positions) counted in omega (arith, m, n)) in
      h ∙ ap (λ (o : Option Untested). ended o total) (by_count (length s.fault) from to total.positions total why (refusal_at s from) refl some)
      ∙ ap (λ (x : Total). ended (untested_by (length s.fault) from to x (refusal_at s from)) x) counted_here

  -- what is kept after the last position, if there is one
  pub last_kept : (k : BootAndHistory) → (first < end → k ≡ (run_at t (end - 1)).kernel) → 0 < total.positions → text_kept k ≡ last_text s to
  last_kept k kernel some =
      let p = last_position first to end records total.positions by (ap (λ (x : Total). x.positions) counted) some in
      ap text_kept (kernel p.0) ∙ ap (λ (x : SweepOf). text_kept (run_at x (end - 1)).kernel) same ∙ ap (λ i. text_kept (run_at s i).kernel) (p.1 ∙ ap (λ r. min to r) many)

  pub last_saved : (k : BootAndHistory) (save : Option (List ℕ)) → (first < end → k ≡ (run_at t (end - 1)).kernel) → saved_if (text_kept k) total.positions save ≡ saved_if (last_text s to) (positions_in s from to) save
  last_saved k save kernel =
      saved_last s (text_kept k) to total.positions save (last_kept k kernel) ∙ ap (λ n. saved_if (last_text s to) n save) (ap (λ (x : Total). x.positions) counted_here)

-- how many positions a range has
pub positions_are : (s : SweepOf) (from to first end records : ℕ) → first ≡ from → records ≡ length s.records → end ≡ min to records + 1 → end - first ≡ positions_in s from to
positions_are s from to first end records at many by = ap (λ f. end - f) at ∙ ap (λ n. n - from) by ∙ ap (λ n. min to n + 1 - from) many

-- what was shown if a sweep failed
pub shown_failed : {X : Type 0} (before after : List Part) (all n : ℕ) (f : Kind) (r : Result X Kind) → IsErrAnd r (λ y. y ≡ f) → n ≤ all → after ≡ before ++ parts_shown all n → IsShown before after all r
shown_failed before after all n f (Ok x) h few shown = absurd h
shown_failed before after all n f (Err y) h few shown = (n, few, shown)

-- ---- what ends it

module _ (s : SweepOf) (from to : ℕ) (save : Option (List ℕ)) (ps : List Part) (n : ℕ) (few : n ≤ positions_in s from to) (shown : ps ≡ parts_shown (positions_in s from to) n) (Prints : List ℕ → Type 0) where
  pub wanting : (f : Kind) (r : Result Swept Kind) → IsWanting f → IsErrAnd r (λ y. y ≡ f) → IsDone s from to save [] ps Prints r
  wanting f (Ok how) why h = absurd h
  wanting f (Err y) why h = (n, few, shown, inl (refl, subst IsWanting (sym h) why))

  pub unsaved : (text : List ℕ) (ws : List Written) (f : Kind) (r : Result Swept Kind) → text ≡ last_text s to → IsUnsaved text save ws f → IsErrAnd r (λ y. y ≡ f) → IsDone s from to save ws ps Prints r
  unsaved text ws f (Ok how) same why h = absurd h
  unsaved text ws f (Err y) same why h =
      (n, few, shown, inr (subst (λ t. IsUnsaved t save ws y) same (subst (λ z. IsUnsaved text save ws z) (sym h) why)))

-- an event of the history is refused
pub refused : (s : SweepOf) (from to : ℕ) (save : Option (List ℕ)) (Prints : List ℕ → Type 0) (n line : ℕ) (x : Refusal) (r : Result Swept Kind) → IsRefusedAt s.boot s.records n x → line ≡ lines_above s.boot.table.rules + n
    → IfErr r IsWanting → IfOk r (λ how. (how ≡ Refused) × Prints (refused_record_line line x)) → IsDone s from to save [] [] Prints r
refused s from to save Prints n line x (Ok how) at above err ok =
    subst (λ h. IsSweptThrough s from to save [] [] Prints h) (sym ok.0) (refl, refl, (n, x, at, subst (λ i. Prints (refused_record_line i x)) above ok.1))
refused s from to save Prints n line x (Err y) at above err ok = (0, omega arith, refl, inl (refl, err))

-- its positions are swept, and then it ends
module _ (s : SweepOf) (from to first end : ℕ) (at : first ≡ from) (by : end ≡ min to (length s.records) + 1) (total : Total) (counted : total ≡ total_of s (end - first) first) (k : BootAndHistory) (kernel : first < end → k ≡ (run_at s (end - 1)).kernel)
    (why : Option Refusal) (refusal : first < end → why ≡ refusal_at s from) (save : Option (List ℕ)) (old mid now : Option (List ℕ)) (printed : Appends old mid (flat_map block_text (blocks_at s (end - first) first))) (before after : List Written) where
  all_in : end - first ≡ positions_in s from to
  all_in = positions_are s from to first end (length s.records) at refl by

  abbrev Ends : Result Swept Kind → Type 0
  Ends r = (ws : List Written) × (after ≡ before ++ ws) × IsDone s from to save ws (parts_shown (end - first) (end - first)) (λ (text : List ℕ). Appends old now text) r

  unended : (f : Kind) → ((after ≡ before) × IsWanting f) ⊎ ((0 < total.positions) × (ws : List Written) × (after ≡ before ++ ws) × IsUnsaved (text_kept k) save ws f) → Ends (Err f)
  unended f (inl h) =
      let n = end - first in (
        [],
        h.0 ∙ sym (append-nil before),
        wanting s from to save (parts_shown n n) n (omega (arith, all_in)) (ap (λ a. parts_shown a n) all_in) (λ (text : List ℕ). Appends old now text) f (Err f) h.1 refl,
      )
  unended f (inr h) =
      let n = end - first in (
        h.1,
        h.2,
        unsaved s from to save (parts_shown n n) n (omega (arith, all_in)) (ap (λ a. parts_shown a n) all_in) (λ (text : List ℕ). Appends old now text) (text_kept k) h.1 f (Err f)
            (last_kept s s refl from to first end (length s.records) at refl by total counted k kernel h.0) h.3 refl,
      )

  pub ends : (r : Result Swept Kind) → AreAccepted s.boot (events_of_history s.records)
      → IfOk r (λ how. (how ≡ ended (untested_by (length s.fault) from to total why) total) × Appends mid now (total_text total.positions total.blocks total.alike) × (after ≡ before ++ saved_if (text_kept k) total.positions save))
      → IfErr r (λ f. ((after ≡ before) × IsWanting f) ⊎ ((0 < total.positions) × (ws : List Written) × (after ≡ before ++ ws) × IsUnsaved (text_kept k) save ws f)) → Ends r
  ends (Ok how) accepted ok err =
      let n = end - first in
      let records = length s.records in
      let ws = saved_if (text_kept k) total.positions save in (
        ws,
        ok.2,
        through s from to save ws (parts_shown n n) (λ (text : List ℕ). Appends old now text) how accepted (how_is s s refl from to first end records at refl by total counted how why refusal ok.0)
            (all_printed s s refl from to first end records at refl by total counted old mid now printed ok.1) (last_saved s s refl from to first end records at refl by total counted k save kernel) (ap (λ a. parts_shown a a) all_in),
      )
  ends (Err f) accepted ok err = unended f err

-- ---- all of it

module _ (config log fault : List ℕ) (save : Option (List ℕ)) (from to n : ℕ) (qs : List Asked) (Prints : List ℕ → Type 0) where
  pub not_begun : (f : Kind) (r : Result Swept Kind) → IsNotBegun config log fault qs f → Prints [] → IsErrAnd r (λ y. y ≡ f) → Sweeps config log fault save from to n qs [] [] Prints r
  not_begun f (Ok how) why printed h = absurd h
  not_begun f (Err y) why printed h = inl (refl, refl, printed, subst (λ z. IsNotBegun config log fault qs z) (sym h) why)

  -- a program isn't written over
  pub spared : (c : Config) (vs : List Service) (records : List Record) (said : List FaultLine) (f : Kind) (r : Result Swept Kind) → IsBegun config log fault qs c vs records said → saves_program c save ≡ true → Prints [] → f ≡ over_program → IsErrAnd r (λ y. y ≡ f)
      → Sweeps config log fault save from to n qs [] [] Prints r
  spared c vs records said f (Ok how) begun named printed over h = absurd h
  spared c vs records said f (Err y) begun named printed over h = inr (inl (c, vs, records, said, begun, named, refl, refl, printed, h ∙ over))

  module _ (c : Config) (vs : List Service) (records : List Record) (said : List FaultLine) (begun : IsBegun config log fault qs c vs records said) (unnamed : saves_program c save ≡ false) (ws : List Written) (ps : List Part) where
    by_result : (r : Result Swept Kind) → IsDone (of c vs records said n) from to save ws ps Prints r → Sweeps config log fault save from to n qs ws ps Prints r
    by_result (Ok how) h = (c, vs, records, said, begun, unnamed, h)
    by_result (Err f) h = inr (inr (c, vs, records, said, begun, unnamed, h))

    pub done : (boot : World) (other : ℕ) (r : Result Swept Kind) → boot ≡ world_at_boot c vs → other ≡ c.cpus
        → IsDone (record { boot = boot; other = other; records = records; fault = said; bound = n }) from to save ws ps Prints r → Sweeps config log fault save from to n qs ws ps Prints r
    done boot other r at first h =
        let same : ◌≡◌ {A = SweepOf} (record { boot = boot; other = other; records = records; fault = said; bound = n }) (of c vs records said n) =
        ap₂ (λ (w : World) (o : ℕ). record { boot = w; other = o; records = records; fault = said; bound = n }) at first in
        by_result r (subst (λ (x : SweepOf). IsDone x from to save ws ps Prints r) same h)
