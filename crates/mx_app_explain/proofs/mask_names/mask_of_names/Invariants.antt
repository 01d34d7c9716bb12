use Rattle.std.proofs.Common.{◌≡◌, ◌+◌, length}
use Rattle.mx_text.specs.Lines.{lines}
use Rattle.mx_app_explain.specs.MaskNames.{names_in, with_names}
use Rattle.mx_app_explain.proofs.mask_names.mask_of_names.Given as goal

-- so many names are in the mask
abbrev pub invariant-loop : goal.invariant-loop
invariant-loop l = record {
  names : with_names (lines l.text) l.key l.mask (names_in l.rest) ≡ with_names (lines l.text) l.key 0 (names_in l.word);
  count : length (names_in l.word) ≡ l.counter + length (names_in l.rest);
}
