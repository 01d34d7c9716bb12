use Rattle.std.proofs.Common.{◌∙◌, ℕ, ap, drop}
use Rattle.std.proofs.lemmas.List.{take_rest}
use Rattle.mx_app_live.proofs.screen.last_of.Goals as goal

pub returns : goal.returns
returns c =
    let bytes = c.args.bytes.now in
    take_rest bytes c.saturating_sub.result ∙ ap (λ (n : ℕ). drop n bytes) c.saturating_sub.ensures
