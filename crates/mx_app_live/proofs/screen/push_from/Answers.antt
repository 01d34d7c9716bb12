use Rattle.std.proofs.Common.{◌≡◌, ◌∙◌, ◌+◌, ◌<◌, ◌++◌, ◌∷◌, [], ℕ, List, ap, append_assoc, arith, drop, length, length-append, sym}
use Rattle.std.proofs.lemmas.Option.{slice_get_within}
use Rattle.std.proofs.lemmas.List.{append-nil}
use Rattle.mx_app_live.proofs.ScreenLemmas.{kept_more, kept_none}
use Rattle.mx_app_live.proofs.screen.push_from.Goals as goal

pub overflow_add-index : goal.overflow_add-index
overflow_add-index c =
    let counted = c.loop-byte.invariant.counted in
    let ok = c.loop-byte.out.ok in
    let small = c.loop-byte.out.small in
    omega (arith, counted, ok.0, ok.1, small, c.requires)

pub loop-byte-smaller : goal.loop-byte-smaller
loop-byte-smaller c =
    let within : c.loop-byte.index < length c.args.console.now.kept = slice_get_within c.args.console.now.kept c.loop-byte.index c.in-Some.byte (sym c.get.ensures ∙ c.in-Some.is) in
    omega (arith, within)

pub loop-byte-preserved : goal.loop-byte-preserved
loop-byte-preserved c =
    let next = kept_more c.args.console.now.kept c.loop-byte.index c.in-Some.byte (sym c.get.ensures ∙ c.in-Some.is) in
    record {
      items = ap (λ (z : List ℕ). z ++ drop (c.loop-byte.index + 1) c.args.console.now.kept) c.in_ok-push.ensures.items
          ∙ append_assoc c.loop-byte.out.items (c.in-Some.byte ∷ []) (drop (c.loop-byte.index + 1) c.args.console.now.kept)
          ∙ ap (λ (z : List ℕ). c.loop-byte.out.items ++ z) (sym next)
          ∙ c.loop-byte.invariant.items;
      counted = let counted = c.loop-byte.invariant.counted in
          let long : length c.push.new.self.items ≡ length c.loop-byte.out.items + 1 = ap length c.in_ok-push.ensures.items ∙ length-append c.loop-byte.out.items (c.in-Some.byte ∷ []) in
          omega (arith, counted, long);
    }

pub returns : goal.returns
returns c =
    let over = kept_none c.args.console.now.kept c.loop-byte.index (sym c.get.ensures ∙ c.in_default.is) in
    sym (append-nil c.loop-byte.out.items) ∙ ap (λ (z : List ℕ). c.loop-byte.out.items ++ z) (sym over) ∙ c.loop-byte.invariant.items
