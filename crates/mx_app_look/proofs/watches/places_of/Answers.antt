use Rattle.std.proofs.Common.{◌≡◌, ◌∙◌, ◌<◌, ◌≤◌, ℕ, suc, ◌+◌, ◌-◌, List, ◌++◌, append-nil, append_assoc, ap, sym, arith}
use Rattle.std.specs.List.{flat_map, range_with_len}
use Rattle.mx_walk.specs.declared.watching.BytePlace.{BytePlace}
use Rattle.mx_app_look.specs.Watches.{place_at, places_of}
use Rattle.mx_app_look.proofs.watches.places_of.Goals as goal

one_less : (n i : ℕ) → i < n → n - i ≡ suc (n - (i + 1))
one_less n i lt = omega (arith, lt)

none_left : (n i : ℕ) → n ≤ i → n - i ≡ 0
none_left n i ge = omega (arith, ge)

-- the place of one byte more, if there is one
one_more : (slot at n i : ℕ) (so_far more whole : List BytePlace) → i < n → more ≡ so_far ++ place_at slot (at + i)
    → so_far ++ flat_map (place_at slot) (range_with_len (at + i) (n - i)) ≡ whole → more ++ flat_map (place_at slot) (range_with_len (at + (i + 1)) (n - (i + 1))) ≡ whole
one_more slot at n i so_far more whole lt e h =
    let next : at + (i + 1) ≡ at + i + 1 = omega arith in
    ap (λ xs. xs ++ flat_map (place_at slot) (range_with_len (at + (i + 1)) (n - (i + 1)))) e
    ∙ append_assoc so_far (place_at slot (at + i)) (flat_map (place_at slot) (range_with_len (at + (i + 1)) (n - (i + 1))))
    ∙ ap (λ j. so_far ++ (place_at slot (at + i) ++ flat_map (place_at slot) (range_with_len j (n - (i + 1))))) next
    ∙ ap (λ k. so_far ++ flat_map (place_at slot) (range_with_len (at + i) k)) (sym (one_less n i lt)) ∙ h

pub loop-offset-preserved : goal.loop-offset-preserved
loop-offset-preserved c =
    one_more c.args.watch.slot c.args.watch.address c.args.watch.count c.loop-offset.offset c.loop-offset.places.items c.push_place.new.places.items (places_of c.args.watch)
    c.loop-offset-test.true c.in_ok-push_place.ensures c.loop-offset.invariant

pub returns : goal.returns
returns c =
    let i = c.loop-offset.offset in
    sym (append-nil c.loop-offset.places.items)
    ∙ ap (λ k. c.loop-offset.places.items ++ flat_map (place_at c.args.watch.slot) (range_with_len (c.args.watch.address + i) k)) (sym (none_left c.args.watch.count i c.loop-offset-test.false)) ∙ c.loop-offset.invariant
