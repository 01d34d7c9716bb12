use Rattle.std.proofs.Common.{◌≡◌, ◌∙◌, ◌<◌, ap, arith, length, refl, subst, sym}
use Rattle.std.specs.Prelude.{option_map}
use Rattle.std.proofs.lemmas.Result.{err_from_is_err_and}
use Rattle.mx_explore.specs.Exploring.{setting}
use Rattle.mx_explore.specs.declared.outcomes.Tally.{Tally}
use Rattle.mx_app_explore.specs.Exploring.{found_of}
use Rattle.mx_app_explore.proofs.FoundLemmas.{none_so_far, so_far_all, so_far_cut, so_far_next, so_far_not}
use Rattle.mx_app_explore.proofs.exploring.print_found.Goals as goal

pub loop-place-init : goal.loop-place-init
loop-place-init g c = record {
  tally = refl;
  boot = refl;
  ready = c.requires;
  told = none_so_far (setting c.args.terms c.args.explored.now.boot) (option_map (λ s. s.now) c.args.name) c.args.explored.now.tally.outcomes.items (g.F.FileWriter.written c.args.files.now) (g.W.Write.contents c.args.out.now);
}

pub loop-place-preserved : goal.loop-place-preserved
loop-place-preserved g c =
    let inv = c.loop-place.invariant in
    let h = c.in_ok-print_outcome.ensures in
    record {
      tally = h.tally ∙ inv.tally;
      boot = h.boot ∙ inv.boot;
      ready = h.ready;
      told = so_far_next c.args.terms (option_map (λ s. s.now) c.args.name) _ _ _ _ inv.tally inv.boot c.loop-place.place _ _ _ _ inv.told _ _ h.told;
    }

pub returns-in_err-print_outcome-clause-untold : goal.returns-in_err-print_outcome-clause-untold
returns-in_err-print_outcome-clause-untold g c =
    let inv = c.loop-place.invariant in
    let p = err_from_is_err_and c.from_residual.result c.from_residual.ensures.1 in
    rw (p.1, p.2) (so_far_not c.args.terms (option_map (λ s. s.now) c.args.name) _ _ _ _ inv.tally inv.boot c.loop-place.place _ _ _ _ inv.told _ _ _ c.in_err-print_outcome.ensures.untold)

pub print_outcome-requires-clause-boot : goal.print_outcome-requires-clause-boot
print_outcome-requires-clause-boot g c = c.loop-place.invariant.ready

pub print_outcome-requires-clause-there : goal.print_outcome-requires-clause-there
print_outcome-requires-clause-there g c =
    subst (λ (k : Tally). c.loop-place.place < length k.outcomes.items) (sym c.loop-place.invariant.tally) (omega (arith, c.loop-place-test.true, c.len-place-end.ensures))

pub returns-in_err-print_total-clause-untold : goal.returns-in_err-print_total-clause-untold
returns-in_err-print_total-clause-untold g c =
    let inv = c.loop-place.invariant in
    let p = err_from_is_err_and c.from_residual-in_err-print_total.result c.from_residual-in_err-print_total.ensures.1 in
    let all : c.loop-place.place ≡ length c.args.explored.now.tally.outcomes.items = omega (arith, c.loop-place-test.false, c.loop-place.auto.place-end, c.len-place-end.ensures) in
    let h = c.in_err-print_total.ensures.untold in
    rw (p.1, p.2) (so_far_cut c.args.terms (option_map (λ s. s.now) c.args.name) _ _ _ _ inv.tally inv.boot c.loop-place.place _ _ _ _ inv.told all _ _ h.1 h.0)

pub returns-clause-told : goal.returns-clause-told
returns-clause-told g c =
    let inv = c.loop-place.invariant in
    let all : c.loop-place.place ≡ length c.args.explored.now.tally.outcomes.items = omega (arith, c.loop-place-test.false, c.loop-place.auto.place-end, c.len-place-end.ensures) in
    let h = so_far_all c.args.terms (option_map (λ s. s.now) c.args.name) _ _ _ _ inv.tally inv.boot c.loop-place.place _ _ _ _ inv.told all _ c.in_ok-print_total.ensures.told in
    (c.found_in.ensures ∙ ap found_of inv.tally, h.0, h.1)
