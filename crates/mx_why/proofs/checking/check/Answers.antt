use Rattle.std.proofs.Common.{◌≡◌, ◌∙◌, ◌==◌, List, ℕ, ap, inl, inr, length, not, refl, subst}
use Rattle.std.proofs.lemmas.Result.{err_from_is_err_and}
use Rattle.std.specs.Io.KnownBytes.{Appends}
use Rattle.mx_app_start.proofs.Appended.{appends_nothing}
use Rattle.mx_why.specs.declared.unfit.Unfit.{Unfit}
use Rattle.mx_why.specs.Checking.{check_text, unfit_services}
use Rattle.mx_why.proofs.checking.check.Goals as goal

pub returns-in_err-config : goal.returns-in_err-config
returns-in_err-config g c =
    let p = err_from_is_err_and c.from_residual.result c.from_residual.ensures.1 in
    let h = c.in_err-config.ensures.fault in
    rw (p.1, p.2) (h.0, h.1, inl (appends_nothing _, h.2))

pub returns-in_err-found : goal.returns-in_err-found
returns-in_err-found g c =
    let p = err_from_is_err_and c.from_residual-in_err-found.result c.from_residual-in_err-found.ensures.1 in
    let t = c.in_ok-config.ensures.read in
    rw (p.1, p.2) (t.0, t.1, inr (c.in_ok-config.config, c.in_ok-config.services.items, t.2, inr refl))

pub returns-in_err-text : goal.returns-in_err-text
returns-in_err-text g c =
    let p = err_from_is_err_and c.from_residual-in_err-text.result c.from_residual-in_err-text.ensures.1 in
    let t = c.in_ok-config.ensures.read in
    rw (p.1, p.2) (t.0, t.1, inr (c.in_ok-config.config, c.in_ok-config.services.items, t.2, inr refl))

pub returns-in_err-print_text : goal.returns-in_err-print_text
returns-in_err-print_text g c =
    let p = err_from_is_err_and c.from_residual-in_err-print_text.result c.from_residual-in_err-print_text.ensures.1 in
    let t = c.in_ok-config.ensures.read in
    rw (p.1, p.2) (t.0, t.1, inr (c.in_ok-config.config, c.in_ok-config.services.items, t.2, c.in_err-print_text.ensures.err))

pub returns : goal.returns
returns g c =
    let t = c.in_ok-config.ensures.read in
    let config = c.in_ok-config.config in
    let x = g.W.Write.contents c.args.out.now in
    let y = g.W.Write.contents c.print_text.new.out in
    let is : c.in_ok-found.found.items ≡ unfit_services config c.in_ok-config.services.items =
    c.in_ok-found.ensures ∙ ap (unfit_services config) c.as_slice.ensures.value in
    let text = c.as_slice-3.ensures.value ∙ c.in_ok-text.ensures ∙ ap (check_text config) (c.as_slice-2.ensures.value ∙ is) in
    (t.0, t.1, (config, c.in_ok-config.services.items, t.2, ap (λ (n : ℕ). not (n == 0)) (c.len.ensures ∙ c.in_ok-found.found.ok.0 ∙ ap (λ (us : List Unfit). length us) is), subst (λ (s : List ℕ). Appends x y s) text c.in_ok-print_text.ensures.bytes))
