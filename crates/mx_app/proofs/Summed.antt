-- What is done of a command line with a file of sums, from what its parts do.
use Rattle.std.proofs.Common.{◌≡◌, ◌⊎◌, ◌∙◌, ◌++◌, ap, append_assoc, Bool, List, [], ◌∷◌, Option, Some, Result, Ok, Err, false, true, inl, inr, refl, subst, sym}
use Rattle.std.specs.Prelude.{ℕ}
use Rattle.std.specs.Io.KnownBytes.{Appends}
use Rattle.std.proofs.lemmas.List.{append-nil}
use Rattle.mx_app_start.proofs.SetupLemmas.{asked_on}
use Rattle.mx_walk.specs.declared.progress.Part.{Part}
use Rattle.mx_app_command.specs.declared.command_line.CommandRequest.{CommandRequest}
use Rattle.mx_app_command.specs.Files.{names_file}
use Rattle.mx_app_failure.specs.declared.failure.Failure.{Failure as Kind}
use Rattle.mx_app_db.specs.Asked.{Asked, file_given}
use Rattle.mx_app_db.specs.Config.{Config}
use Rattle.mx_app_db.specs.Service.{Service}
use Rattle.mx_app_db.specs.Setup.{IsSetup}
use Rattle.mx_app_db.specs.Written.{Written}
use Rattle.mx_app_live.specs.declared.outside.Heard.{Heard}
use Rattle.mx_app_live.specs.declared.outside.Note.{Note}
use Rattle.mx_app_explain.specs.Sums.{machine_sums, sums_text}
use Rattle.mx_app_explain.specs.declared.sums_fault.SumsFault.{SumsFault}
use Rattle.mx_app_explain.specs.declared.sums_fault.SumsFault.TheVariants.{NameTaken}
use Rattle.mx_app_explain.specs.declared.sums.PartSum.{PartSum}
use Rattle.mx_app.specs.Deeds.{Deeds, nothing_done}
use Rattle.mx_app.specs.Requests.{Performs}
use Rattle.mx_app.specs.Summing.{ComparesSums, IsCompared, IsUnsummed, PerformsBy, PerformsCompared, PerformsSparing, PerformsSummed, PerformsWith, WritesSums, by_request, first_name, writes_sums}
use Rattle.mx_app.specs.Sparing.{SparesSums}
use Rattle.mx_app.specs.declared.performing.Done.{Done}
use Rattle.mx_app.specs.declared.summing.LineFailure.{LineFailure}
use Rattle.mx_app.specs.declared.summing.LineFailure.TheVariants.{Request, Sums}
use Rattle.mx_app_start.proofs.Appended.{appends_nothing}
use Rattle.mx_app.proofs.Doing.{Grows}

-- files that were written in two steps
written_on : (a b c ws xs : List Written) → b ≡ a ++ ws → c ≡ b ++ xs → c ≡ a ++ (ws ++ xs)
written_on a b c ws xs e f = f ∙ ap (λ (x : List Written). x ++ xs) e ∙ append_assoc a ws xs

-- the machine has sums, and these were compared with those of a file
module _ (asked between now : List Asked) (config name : List ℕ) (slice sums : List PartSum) (same : slice ≡ sums)
    (summed : (qs : List Asked) × (c : Config) × (vs : List Service) × (between ≡ asked ++ qs) × IsSetup config qs c vs × (sums ≡ machine_sums c vs)) where
  pub compared_so : (q : Asked) × (now ≡ between ++ q ∷ []) × ComparesSums name slice q (Ok tt)
      → (qs : List Asked) × (now ≡ asked ++ qs) × IsCompared config name qs (Ok tt)
  compared_so h =
      let last : h.0 ≡ file_given name (sums_text (machine_sums summed.1 summed.2)) = h.2 ∙ ap (λ (x : List PartSum). file_given name (sums_text x)) (same ∙ summed.5) in (
        summed.0 ++ h.0 ∷ [],
        asked_on asked between now summed.0 (h.0 ∷ []) summed.3 h.1,
        (summed.0, summed.1, summed.2, summed.4, ap (λ (x : Asked). summed.0 ++ x ∷ []) last),
      )

  pub compared_other : (f : SumsFault) → (q : Asked) × (now ≡ between ++ q ∷ []) × ComparesSums name slice q (Err f)
      → (qs : List Asked) × (now ≡ asked ++ qs) × IsCompared config name qs (Err (Sums f))
  compared_other f h = (
    summed.0 ++ h.0 ∷ [],
    asked_on asked between now summed.0 (h.0 ∷ []) summed.3 h.1,
    (summed.0, h.0, summed.1, summed.2, summed.4, refl, subst (λ (x : List PartSum). ComparesSums name x h.0 (Err f)) (same ∙ summed.5) h.2),
  )

module _ (WasShown : Part → Type 0) (asks force : Bool) (request : CommandRequest) (name config : List ℕ) (named : config ≡ first_name request) (asked : List Asked) (files : List Written) (given : List (Option (List ℕ))) (heard : List Heard) (told : List Note) (shown : List Part) where
  -- nothing but files that were asked for
  abbrev Idles : List Asked → (Deeds → Type 0) → Type 0
  Idles now Holds = Grows asked now files files given given heard heard told told shown shown Holds

  pub not_compared : (now : List Asked) (known : Option (List ℕ)) (f : LineFailure) (r : Result Done LineFailure)
      → (qs : List Asked) × (now ≡ asked ++ qs) × IsCompared config name qs (Err f) → r ≡ Err f
      → Idles now (λ did. PerformsCompared WasShown request force name asks did (λ text. Appends known known text) r)
  not_compared now known f r p e =
      (record nothing_done { asked = p.0 }, p.1, sym (append-nil files), sym (append-nil given), sym (append-nil heard), sym (append-nil told), sym (append-nil shown), inl (f, (refl, refl, (refl, refl), refl, appends_nothing known), subst (λ (x : List ℕ). IsCompared x name p.0 (Err f)) named p.2, e))

  pub not_summed : (now : List Asked) (known : Option (List ℕ)) (f : Kind) (r : Result Done LineFailure)
      → (qs : List Asked) × (now ≡ asked ++ qs) × IsUnsummed config qs f → r ≡ Err (Request f)
      → Idles now (λ did. PerformsSummed WasShown request force name asks did (λ text. Appends known known text) r)
  not_summed now known f r p e =
      (record nothing_done { asked = p.0 }, p.1, sym (append-nil files), sym (append-nil given), sym (append-nil heard), sym (append-nil told), sym (append-nil shown), inl (f, (refl, refl, (refl, refl), refl, appends_nothing known), subst (λ (x : List ℕ). IsUnsummed x p.0 f) named p.2, e))

  module _ (between now : List Asked) (middle : List Written) (given_now : List (Option (List ℕ))) (heard_now : List Heard) (told_now : List Note) (later : List Part) (Prints : List ℕ → Type 0) (d : Result Done Kind) (r : Result Done LineFailure)
      (done : Grows between now files middle given given_now heard heard_now told told_now shown later (λ did. Performs WasShown request force asks did Prints d)) where
    -- what the request did, after the files that were asked for before it
    abbrev did_after : List Asked → Deeds
    did_after qs = record done.0 { asked = qs ++ done.0.asked }

    pub compared : (qs : List Asked) × (between ≡ asked ++ qs) × IsCompared config name qs (Ok tt) → r ≡ by_request d
        → Grows asked now files middle given given_now heard heard_now told told_now shown later (λ did. PerformsCompared WasShown request force name asks did Prints r)
    compared p e =
        (did_after p.0, asked_on asked between now p.0 done.0.asked p.1 done.1, done.2, done.3, done.4, done.5, done.6, inr (p.0, done.0.asked, d, refl, subst (λ (x : List ℕ). IsCompared x name p.0 (Ok tt)) named p.2, done.7, e))

    abbrev IsSummed : List ℕ → Type 0
    IsSummed text = (qs : List Asked) × (c : Config) × (vs : List Service) × (between ≡ asked ++ qs) × IsSetup config qs c vs × (text ≡ sums_text (machine_sums c vs))

    pub failed_summed : (text : List ℕ) (f : Kind) → IsSummed text → d ≡ Err f → r ≡ Err (Request f)
        → Grows asked now files middle given given_now heard heard_now told told_now shown later (λ did. PerformsSummed WasShown request force name asks did Prints r)
    failed_summed text f p failed e = (
      did_after p.0,
      asked_on asked between now p.0 done.0.asked p.3 done.1,
      done.2,
      done.3,
      done.4,
      done.5,
      done.6,
      inr (p.0, done.0.asked, p.1, p.2, done.0.written, [], d, refl, sym (append-nil done.0.written), subst (λ (x : List ℕ). IsSetup x p.0 p.1 p.2) named p.4, done.7, rw failed (refl, e)),
    )

    pub summed : (text slice : List ℕ) → slice ≡ text → (written : List Written) (so : Done) (end : Result (Unit {0}) SumsFault) → IsSummed text → d ≡ Ok so
        → (w : Written) × (written ≡ middle ++ w ∷ []) × WritesSums name slice w end
        → (end ≡ Ok tt) × (r ≡ Ok so) ⊎ ((f : SumsFault) × (end ≡ Err f) × (r ≡ Err (Sums f)))
        → Grows asked now files written given given_now heard heard_now told told_now shown later (λ did. PerformsSummed WasShown request force name asks did Prints r)
    summed text slice same written so end p was w how = (
      record done.0 { asked = p.0 ++ done.0.asked; written = done.0.written ++ w.0 ∷ [] },
      asked_on asked between now p.0 done.0.asked p.3 done.1,
      written_on files middle written done.0.written (w.0 ∷ []) done.2 w.1,
      done.3,
      done.4,
      done.5,
      done.6,
      inr (p.0, done.0.asked, p.1, p.2, done.0.written, w.0 ∷ [], d, refl, refl, subst (λ (x : List ℕ). IsSetup x p.0 p.1 p.2) named p.4, done.7, rw was (w.0, refl, ending how)),
    )
      where
        own : List ℕ
        own = sums_text (machine_sums p.1 p.2)

        writes : (x : Result (Unit {0}) SumsFault) → end ≡ x → WritesSums name own w.0 x
        writes x e = subst (λ (t : List ℕ). WritesSums name t w.0 x) (same ∙ p.5) (subst (λ (y : Result (Unit {0}) SumsFault). WritesSums name slice w.0 y) e w.2)

        ending : (end ≡ Ok tt) × (r ≡ Ok so) ⊎ ((f : SumsFault) × (end ≡ Err f) × (r ≡ Err (Sums f)))
            → (WritesSums name own w.0 (Ok tt) × (r ≡ Ok so)) ⊎ ((f : SumsFault) × WritesSums name own w.0 (Err f) × (r ≡ Err (Sums f)))
        ending (inl h) = inl (writes (Ok tt) h.0, h.1)
        ending (inr h) = inr (h.0, writes (Err h.0) h.1, h.2)

-- ---- the line

module _ (WasShown : Part → Type 0) (asks force : Bool) (request : CommandRequest) (asked now : List Asked) (files written : List Written) (given given_now : List (Option (List ℕ))) (heard heard_now : List Heard) (told told_now : List Note) (shown later : List Part) (Prints : List ℕ → Type 0) (r : Result Done LineFailure) where
  abbrev DoesWith : List ℕ → Type 0
  DoesWith name = Grows asked now files written given given_now heard heard_now told told_now shown later (λ did. PerformsWith WasShown request force name asks did Prints r)

  pub with_summed : (name : List ℕ) → names_file request name ≡ false → writes_sums request ≡ true
      → Grows asked now files written given given_now heard heard_now told told_now shown later (λ did. PerformsSparing WasShown request force name asks did Prints r)
      → DoesWith name
  with_summed name free writes done = (done.0, done.1, done.2, done.3, done.4, done.5, done.6, inr (inl (free, writes, done.7)))

  pub with_compared : (name : List ℕ) → names_file request name ≡ false → writes_sums request ≡ false
      → Grows asked now files written given given_now heard heard_now told told_now shown later (λ did. PerformsCompared WasShown request force name asks did Prints r)
      → DoesWith name
  with_compared name free writes done = (done.0, done.1, done.2, done.3, done.4, done.5, done.6, inr (inr (free, writes, done.7)))

  -- with a file of sums the line is what is done with this file
  pub with_sums : (name : List ℕ) → DoesWith name → (sums : Option (List ℕ)) → sums ≡ Some name
      → Grows asked now files written given given_now heard heard_now told told_now shown later (λ did. PerformsBy WasShown request force sums asks did Prints r)
  with_sums name done sums some =
      subst (λ (o : Option (List ℕ)). Grows asked now files written given given_now heard heard_now told told_now shown later (λ did. PerformsBy WasShown request force o asks did Prints r)) (sym some) done

pub with_taken : (WasShown : Part → Type 0) (asks force : Bool) (request : CommandRequest) (asked : List Asked) (files : List Written) (given : List (Option (List ℕ))) (heard : List Heard) (told : List Note) (shown : List Part) (known : Option (List ℕ)) (r : Result Done LineFailure) (name : List ℕ)
    → names_file request name ≡ true → r ≡ Err (Sums NameTaken)
    → DoesWith WasShown asks force request asked asked files files given given heard heard told told shown shown (λ text. Appends known known text) r name
with_taken WasShown asks force request asked files given heard told shown known r name taken e =
    (nothing_done, sym (append-nil asked), sym (append-nil files), sym (append-nil given), sym (append-nil heard), sym (append-nil told), sym (append-nil shown), inl (taken, refl, (refl, refl, (refl, refl), refl, appends_nothing known), e))

-- ---- the file of sums

pub sums_spared : (WasShown : Part → Type 0) (asks force : Bool) (request : CommandRequest) (asked now : List Asked) (files : List Written) (given : List (Option (List ℕ))) (heard : List Heard) (told : List Note) (shown : List Part) (known : Option (List ℕ)) (f : SumsFault) (r : Result Done LineFailure) (name : List ℕ)
    → (qs : List Asked) × (now ≡ asked ++ qs) × SparesSums name force qs (Err f) → r ≡ Err (Sums f)
    → Grows asked now files files given given heard heard told told shown shown (λ did. PerformsSparing WasShown request force name asks did (λ text. Appends known known text) r)
sums_spared WasShown asks force request asked now files given heard told shown known f r name p e =
    (record nothing_done { asked = p.0 }, p.1, sym (append-nil files), sym (append-nil given), sym (append-nil heard), sym (append-nil told), sym (append-nil shown), inl (f, (refl, refl, (refl, refl), refl, appends_nothing known), p.2, e))

pub sums_free : (WasShown : Part → Type 0) (asks force : Bool) (request : CommandRequest) (asked between now : List Asked) (files written : List Written) (given given_now : List (Option (List ℕ))) (heard heard_now : List Heard) (told told_now : List Note) (shown later : List Part) (Prints : List ℕ → Type 0) (r : Result Done LineFailure) (name : List ℕ)
    → (qs : List Asked) × (between ≡ asked ++ qs) × SparesSums name force qs (Ok tt)
    → Grows between now files written given given_now heard heard_now told told_now shown later (λ did. PerformsSummed WasShown request force name asks did Prints r)
    → Grows asked now files written given given_now heard heard_now told told_now shown later (λ did. PerformsSparing WasShown request force name asks did Prints r)
sums_free WasShown asks force request asked between now files written given given_now heard heard_now told told_now shown later Prints r name p done =
    (record done.0 { asked = p.0 ++ done.0.asked }, asked_on asked between now p.0 done.0.asked p.1 done.1, done.2, done.3, done.4, done.5, done.6, inr (p.0, done.0.asked, refl, p.2, done.7))
