use Rattle.std.proofs.Common.{◌≡◌, ◌++◌, drop}
use Rattle.std.specs.List.{flat_map}
use Rattle.mx_app_explain.specs.TextWords.{spaced_byte}
use Rattle.mx_app_explain.proofs.text_words.with_spaces.Given as goal

-- with those of the bytes that are left, all are there
abbrev pub invariant-loop-byte : goal.invariant-loop-byte
invariant-loop-byte l = l.out.items ++ flat_map spaced_byte (drop l.byte-index l.said) ≡ flat_map spaced_byte l.said
