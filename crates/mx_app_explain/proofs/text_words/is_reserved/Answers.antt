use Rattle.std.proofs.Common.{◌∙◌}
use Rattle.std.specs.Prelude.{◌||◌}
use Rattle.mx_app_explain.proofs.Reserved.{reserved_by}
use Rattle.mx_app_explain.proofs.text_words.is_reserved.Goals as goal

pub returns : goal.returns
returns c =
    (λ k. c.is_some.ensures k || c.is_some-2.ensures k)
    ∙ reserved_by c.args.word.now c.register_named-register.result c.size_named-size.result c.register_named-register.ensures c.size_named-size.ensures
