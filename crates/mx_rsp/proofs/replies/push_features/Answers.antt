use Rattle.std.proofs.Common.{◌∙◌, ◌++◌, List, ℕ, ap, refl}
use Rattle.mx_rsp.proofs.Lists.{appended, three}
use Rattle.mx_rsp.proofs.replies.push_features.Goals as goal

pub returns : goal.returns
returns c =
    appended c.extend_from_slice-3.result c.extend_from_slice-3.new.self.items _ _ _ c.extend_from_slice-3.ensures.items
    (three c.args.out.now.items _ _ _ c.extend_from_slice.new.self.items c.extend_from_slice-2.new.self.items _ c.in_ok-extend_from_slice.ensures.items
    (c.in_ok-extend_from_slice-2.ensures.items ∙ ap (λ (xs : List ℕ). c.extend_from_slice.new.self.items ++ xs) c.process_feature.ensures) refl)
