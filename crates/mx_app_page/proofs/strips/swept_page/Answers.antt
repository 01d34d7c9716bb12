use Rattle.std.proofs.Common.{◌≡◌, ◌∙◌, ◌+◌, ◌-◌, ℕ, List, [], Result, Ok, Err, ap, arith, inl, inr, length, min, refl, subst, sym, rules, vec_len}
use Rattle.std.proofs.KnownBytes.{Appends-nil}
use Rattle.std.proofs.lemmas.List.{append-nil}
use Rattle.std.specs.Io.KnownBytes.{Appends}
use Rattle.std.specs.Prelude.{IsErrAnd}
use Rattle.mx_machine.specs.Boot.{world_at_boot}
use Rattle.mx_machine.specs.declared.history.Record.{Record}
use Rattle.mx_walk.specs.declared.progress.Part.{Part}
use Rattle.mx_app_failure.specs.declared.failure.Failure.{Failure as Kind}
use Rattle.mx_app_step.specs.Asked.{Asked}
use Rattle.mx_app_step.specs.Config.{Config}
use Rattle.mx_app_step.specs.Machine.{world_of}
use Rattle.mx_app_step.specs.Service.{Service}
use Rattle.mx_turns.specs.declared.faults.FaultLine.{FaultLine}
use Rattle.mx_app_turns.specs.Begun.{IsReady}
use Rattle.mx_app_turns.specs.Sweeping.{IsBegun, IsNotBegun, of}
use Rattle.mx_app_turns.specs.declared.sweeping.Swept.{Swept}
use Rattle.mx_app_turns.proofs.ReadyLemmas.{same_sweep}
use Rattle.mx_app_page.specs.Pages.{run_of_files}
use Rattle.mx_app_page.specs.Strips.{IsSweptPageDone, PrintsSweptPage}
use Rattle.mx_app_page.proofs.StripLemmas.{of_other, swept_done}
use Rattle.mx_app_page.proofs.strips.swept_page.Goals as goal

-- by how it ended
module _ (config log fault : List ℕ) (from to n : ℕ) (qs : List Asked) (ps : List Part) (Prints : List ℕ → Type 0) (c : Config) (vs : List Service) (records : List Record) (said : List FaultLine)
    (begun : IsBegun config log fault qs c vs records said) where
  finished : (r : Result Swept Kind) → IsSweptPageDone (run_of_files config log 0 c) (of c vs records said n) fault from to ps Prints r → PrintsSweptPage config log fault from to n qs ps Prints r
  finished (Ok how) done = (c, vs, records, said, begun, done)
  finished (Err f) done = inr (c, vs, records, said, begun, done)

unbegun : (config log fault : List ℕ) (from to n : ℕ) (qs : List Asked) (Prints : List ℕ → Type 0) (f : Kind) (r : Result Swept Kind) → IsErrAnd r (λ y. y ≡ f) → Prints []
    → IsNotBegun config log fault qs f → PrintsSweptPage config log fault from to n qs [] Prints r
unbegun config log fault from to n qs Prints f (Ok how) is printed why = absurd is
unbegun config log fault from to n qs Prints f (Err e) is printed why = inl (refl, printed, subst (λ (k : Kind). IsNotBegun config log fault qs k) (sym is) why)

pub returns-in_err-begun : goal.returns-in_err-begun
returns-in_err-begun g c =
    let names = c.args.names in
    let wanted = c.args.wanted in
    let h = c.in_err-begun.ensures.fault in
    let x = g.W.Write.contents c.args.out.now in (
      h.0,
      [],
      h.1,
      sym (append-nil _),
      unbegun names.config.now names.log.now names.fault.now wanted.from wanted.to wanted.bound h.0 (λ (text : List ℕ). Appends x x text)
          c.in_err-begun.field-0.0 c.from_residual.result c.from_residual.ensures.1 (Appends-nil x) h.2,
    )

pub returns-then-len : goal.returns-then-len
returns-then-len g c =
    let b = c.in_ok-begun.ensures.begun in
    let begun = c.in_ok-begun.begun in
    (b.0, [], b.3, sym (append-nil _), inr (b.1, b.2, begun.started.lines.items, begun.fault.items, b.4, (inr refl, inl (Appends-nil _), (0, omega arith, refl))))

pub print_swept-requires-clause-ready : goal.print_swept-requires-clause-ready
print_swept-requires-clause-ready g c κs within =
    let started = c.in_ok-begun.begun.started in
    subst (λ (rs : List Record). IsReady started.machine started.config started.other rs) (sym c.as_slice.ensures.value) c.in_ok-begun.ensures.ready

pub print_swept-requires-clause-end : goal.print_swept-requires-clause-end
print_swept-requires-clause-end g c κs within =
    let records = c.in_ok-begun.begun.started.lines in
    let many : vec_len records ≡ length records.items = search rules in
    c.range_of.ensures.1 ∙ ap (λ n. min c.args.wanted.to n + 1) (c.len-2.ensures ∙ many ∙ ap length (sym c.as_slice.ensures.value))

pub returns : goal.returns
returns g c =
    let names = c.args.names in
    let wanted = c.args.wanted in
    let b = c.in_ok-begun.ensures.begun in
    let begun = c.in_ok-begun.begun in
    let started = begun.started in
    let records = started.lines.items in
    let w = world_of started.machine in
    let s = of b.1 b.2 records begun.fault.items wanted.bound in
    let Prints = λ (text : List ℕ). Appends (g.W.Write.contents c.args.out.now) (g.W.Write.contents c.print_swept.new.out) text in
    let run = ap (λ (k : Config). run_of_files names.config.now names.log.now 0 k) b.7 in
    let same = same_sweep w (world_at_boot b.1 b.2) started.other c.as_slice.result.now records c.as_slice-2.result.now begun.fault.items wanted.bound b.5 c.as_slice.ensures.value c.as_slice-2.ensures.value
    ∙ ap (λ n. of_other s n) b.6 in
    let h = c.print_swept.ensures in (
      b.0,
      h.0,
      b.3,
      h.1,
      finished names.config.now names.log.now names.fault.now wanted.from wanted.to wanted.bound b.0 h.0 Prints b.1 b.2 records begun.fault.items b.4 c.print_swept.result
          (swept_done _ _ _ s names.fault.now wanted.from wanted.to h.0 Prints c.print_swept.result run same h.2),
    )
