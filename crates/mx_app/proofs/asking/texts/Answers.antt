use Rattle.std.proofs.Common.{◌∙◌, ap, map, string_bytes}
use Rattle.std.proofs.lemmas.List.{take_all}
use Rattle.mx_app.proofs.Grown.{texts_next}
use Rattle.mx_app.proofs.asking.texts.Goals as goal

pub loop-word-preserved : goal.loop-word-preserved
loop-word-preserved c =
    texts_next (λ s. s.now) string_bytes c.args.words.now c.loop-word.word-index c.word-item.result c.loop-word.texts.items c.push.new.self.items c.as_str.result
    c.loop-word-test.true c.word-item.is c.in_ok-push.ensures.items c.loop-word.invariant c.as_str.ensures.value

pub returns-clause-texts : goal.returns-clause-texts
returns-clause-texts c = c.loop-word.invariant ∙ ap (map string_bytes) (take_all c.loop-word.word-index c.args.words.now c.loop-word-test.false)
