use Rattle.std.proofs.Common.{ℕ, List, map, slice_get, sym, ap, ◌∙◌}
use Rattle.mx_proc.proofs.CallerLemmas.{senders_of}
use Rattle.mx_proc.proofs.waits.Waits.get.Goals as goal

pub returns-clause-value : goal.returns-clause-value
returns-clause-value c =
    c.get.ensures.value
    ∙ ap (λ l. slice_get l c.args.place) (sym (senders_of _ _))
    ∙ ap (λ (l : List (ℕ × ℕ)). slice_get (map (λ (p : ℕ × ℕ). p.0) l) c.args.place) c.self.view_is
