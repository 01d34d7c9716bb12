use Rattle.std.proofs.Common.{◌∙◌, ◌+◌, List, ℕ, ap, inl, inr, refl, subst}
use Rattle.std.specs.Prelude.{option_map}
use Rattle.std.proofs.lemmas.Result.{IfErr-weaker, err_from_is_err_and, on_ok_weaker}
use Rattle.std.specs.Io.KnownBytes.{Appends}
use Rattle.mx_app_failure.specs.Failure.{IsWanting, PrintsFront}
use Rattle.mx_app_step.proofs.FrontLemmas.{front_none}
use Rattle.mx_explore.specs.Exploring.{setting}
use Rattle.mx_explore.specs.declared.outcomes.Tally.{Tally}
use Rattle.mx_app_explore.proofs.FoundLemmas.{at_boot_again, err_both, lines_from, none_told, same_outcome, saved_as, unsaved_as}
use Rattle.mx_app_explore.proofs.exploring.print_outcome.Goals as goal

pub returns-in_err-ran-clause-untold : goal.returns-in_err-ran-clause-untold
returns-in_err-ran-clause-untold g c =
    let p = err_from_is_err_and c.from_residual.result c.from_residual.ensures.1 in
    rw (p.1, p.2) (none_told (setting c.args.terms c.args.explored.now.boot) (option_map (λ s. s.now) c.args.name) c.args.explored.now.tally.outcomes.items c.args.place _ _ _ c.requires.there (inr refl))

pub returns-in_err-text-clause-untold : goal.returns-in_err-text-clause-untold
returns-in_err-text-clause-untold g c =
    let p = err_from_is_err_and c.from_residual-in_err-text.result c.from_residual-in_err-text.ensures.1 in
    rw (p.1, p.2) (none_told (setting c.args.terms c.args.explored.now.boot) (option_map (λ s. s.now) c.args.name) c.args.explored.now.tally.outcomes.items c.args.place _ _ _ c.requires.there (inr refl))

pub returns-in_err-save-clause-untold : goal.returns-in_err-save-clause-untold
returns-in_err-save-clause-untold g c =
    let p = err_from_is_err_and c.from_residual-in_err-save.result c.from_residual-in_err-save.ensures.1 in
    let t = setting c.args.terms c.args.explored.now.boot in
    let r = c.in_ok-ran.ensures.ran in
    let h = c.in_err-save.ensures.unsaved in
    rw (p.1, p.2) (r.0, h.0, r.1, h.1, front_none _ _, inr (inl (unsaved_as t r.0 _ r.2 (option_map (λ s. s.now) c.args.name) (c.args.place + 1) h.0 _ h.2)))

pub returns-clause-ready : goal.returns-clause-ready
returns-clause-ready g c =
    let t = setting c.args.terms c.args.explored.now.boot in
    let r = c.in_ok-ran.ensures.ran in
    on_ok_weaker c.print_text.result (λ b. at_boot_again t r.0.departures.items c.args.explored.now.boot _ c.args.explored.now.services.items _ _ c.requires.boot refl r.2 (c.take_back.ensures.boot ∙ c.in_ok-ran.ensures.boot) c.take_back.ensures.services) c.print_text.ensures.bytes

pub returns-clause-told : goal.returns-clause-told
returns-clause-told g c =
    let t = setting c.args.terms c.args.explored.now.boot in
    let save = option_map (λ s. s.now) c.args.name in
    let n = c.args.place + 1 in
    let r = c.in_ok-ran.ensures.ran in
    let x = g.W.Write.contents c.args.out.now in
    let y = g.W.Write.contents c.print_text.new.out in
    let same = same_outcome t r.0 _ r.2 save n c.args.explored.now.tally.outcomes.items _ c.args.place c.index.result.now (ap (λ (k : Tally). k.outcomes.items) c.in_ok-ran.ensures.tally) r.1 c.index.ensures in
    let lines = c.as_slice.ensures.value ∙ lines_from t r.0 _ r.2 save n c.index.result.now _ same c.in_ok-text.ensures in
    on_ok_weaker c.print_text.result (λ b. (r.0, r.1, saved_as t r.0 _ r.2 save n _ _ c.in_ok-save.ensures.saved, subst (λ (text : List ℕ). Appends x y text) lines b)) c.print_text.ensures.bytes

pub returns-clause-untold : goal.returns-clause-untold
returns-clause-untold g c =
    let t = setting c.args.terms c.args.explored.now.boot in
    let save = option_map (λ s. s.now) c.args.name in
    let n = c.args.place + 1 in
    let r = c.in_ok-ran.ensures.ran in
    let x = g.W.Write.contents c.args.out.now in
    let y = g.W.Write.contents c.print_text.new.out in
    let same = same_outcome t r.0 _ r.2 save n c.args.explored.now.tally.outcomes.items _ c.args.place c.index.result.now (ap (λ (k : Tally). k.outcomes.items) c.in_ok-ran.ensures.tally) r.1 c.index.ensures in
    let lines = c.as_slice.ensures.value ∙ lines_from t r.0 _ r.2 save n c.index.result.now _ same c.in_ok-text.ensures in
    IfErr-weaker c.print_text.result (λ f. IsWanting f × PrintsFront (λ text. Appends x y text) c.as_slice.result.now) _
    (λ f h. (r.0, _, r.1, saved_as t r.0 _ r.2 save n _ _ c.in_ok-save.ensures.saved, subst (PrintsFront (λ text. Appends x y text)) lines h.1, inr (inr (refl, h.0))))
    (err_both c.print_text.result IsWanting (λ f. PrintsFront (λ text. Appends x y text) c.as_slice.result.now) c.print_text.ensures.err c.print_text.ensures.front)
