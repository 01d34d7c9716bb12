-- Whether a text has a feature, a byte more.
use Rattle.std.proofs.Common.{◌≡◌, ◌∙◌, ◌+◌, ◌-◌, ◌≤◌, ◌<◌, ◌++◌, ℕ, suc, Bool, true, false, List, [], ◌∷◌, take, drop, get_or, length, sym, ap, arith}
use Rattle.std.specs.Prelude.{◌||◌, slice_range}
use Rattle.std.specs.Str.{bytes_eq}
use Rattle.std.proofs.Math.Seq.{drop-cons}
use Rattle.std.proofs.lemmas.List.{drop_all, length-drop, take_all}
use Rattle.mx_rsp.specs.Requests.{ends_feature, has_feature}
use Rattle.mx_rsp.proofs.PacketLemmas.{passed, taken}
use Rattle.mx_rsp.proofs.Lists.{range_more}

module _ (name text : List ℕ) (begin at : ℕ) (whole : Bool) (has : has_feature name (slice_range text begin at) (drop at text) ≡ whole) where
  abbrev front : List ℕ
  front = slice_range text begin at

  module _ (le : begin ≤ at) (lt : at < length text) where
    abbrev byte : ℕ
    byte = get_or text at 0

    abbrev rest : List ℕ
    rest = drop (at + 1) text

    apart : has_feature name front (byte ∷ rest) ≡ whole
    apart =
        let next : suc at ≡ at + 1 = omega arith in
        sym (ap (has_feature name front) (drop-cons text at 0 lt ∙ ap (λ n. byte ∷ drop n text) next)) ∙ has

    pub found : ends_feature byte ≡ true → bytes_eq front name ≡ true → true ≡ whole
    found ends same =
        sym (ap (λ q. q || has_feature name [] rest) same)
        ∙ sym (taken (ends_feature byte) (bytes_eq front name || has_feature name [] rest) (has_feature name (front ++ byte ∷ []) rest) ends) ∙ apart

    pub another : ends_feature byte ≡ true → bytes_eq front name ≡ false → has_feature name (slice_range text (at + 1) (at + 1)) rest ≡ whole
    another ends same =
        let none : at + 1 - (at + 1) ≡ 0 = omega arith in
        ap (λ n. has_feature name (take n (drop (at + 1) text)) rest) none
        ∙ sym (ap (λ q. q || has_feature name [] rest) same)
        ∙ sym (taken (ends_feature byte) (bytes_eq front name || has_feature name [] rest) (has_feature name (front ++ byte ∷ []) rest) ends) ∙ apart

    pub further : ends_feature byte ≡ false → has_feature name (slice_range text begin (at + 1)) rest ≡ whole
    further ends =
        ap (λ f. has_feature name f rest) (range_more text begin at 0 le lt)
        ∙ sym (passed (ends_feature byte) (bytes_eq front name || has_feature name [] rest) (has_feature name (front ++ byte ∷ []) rest) ends) ∙ apart

  pub last : length text ≤ at → bytes_eq (take (length text - begin) (drop begin text)) name ≡ whole
  last over =
      let n = length-drop begin text in
      let all : take (length text - begin) (drop begin text) ≡ drop begin text = take_all (length text - begin) (drop begin text) (omega (arith, n)) in
      let too : front ≡ drop begin text = take_all (at - begin) (drop begin text) (omega (arith, n, over)) in
      ap (λ f. bytes_eq f name) (all ∙ sym too) ∙ sym (ap (has_feature name front) (drop_all at text over)) ∙ has
