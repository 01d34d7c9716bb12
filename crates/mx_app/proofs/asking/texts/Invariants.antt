use Rattle.std.proofs.Common.{◌≡◌, map, string_bytes, take}
use Rattle.mx_app.proofs.asking.texts.Given as goal

abbrev pub invariant-loop-word : goal.invariant-loop-word
invariant-loop-word l = map (λ s. s.now) l.texts.items ≡ map string_bytes (take l.word-index l.words)
