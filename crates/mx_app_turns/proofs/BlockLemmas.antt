-- Positions that are swept and printed.
use Rattle.std.proofs.Common.{◌≡◌, ◌∙◌, ◌<◌, ◌≤◌, ◌+◌, ◌-◌, ℕ, suc, Bool, true, false, cond, List, [], ◌∷◌, ◌++◌, length, length-append, Option, Some, None, Vec, Global, append_assoc, refl, ap, sym, subst, arith}
use Rattle.std.proofs.KnownBytes.{Appends-nil, Appends-trans}
use Rattle.std.proofs.lemmas.List.{append-nil}
use Rattle.std.proofs.lemmas.Grind.{flat_map-append}
use Rattle.std.specs.Io.KnownBytes.{Appends}
use Rattle.std.specs.List.{flat_map}
use Rattle.std.specs.Str.{bytes_eq}
use Rattle.mx_machine.specs.History.{BootAndHistory}
use Rattle.mx_turns.specs.declared.trials.Findings.{Findings}
use Rattle.mx_app_turns.specs.declared.blocks.Total.{Total}
use Rattle.mx_app_turns.specs.declared.sweeping.Tally.{Tally}
use Rattle.mx_app_turns.specs.Blocks.{Positions, block_at, block_text, blocks_from, count_of, longer, positions_of}
use Rattle.mx_app_turns.specs.Sweeping.{SweepOf, blocks_at, findings_at, is_alike_at, is_full_at, is_refused_at, run_at, text_at, total_of}
use Rattle.mx_app_turns.specs.Tallied.{both, one_if, tally_of, total_one, with_next}

-- ---- counts

-- Of the positions from `from` to the one above p, n are so.
pub record Counted (is : ℕ → Bool) (from end p n : ℕ) : Type 0 where
  pub sum : n + count_of is (end - p) p ≡ count_of is (end - from) from
  pub few : n ≤ p - from

pub small : (b : Bool) → one_if b ≤ 1
small true = omega arith
small false = omega arith

next_left : (end p : ℕ) → p < end → end - p ≡ suc (end - (p + 1))
next_left end p h = omega (arith, h)

module _ (is : ℕ → Bool) (from end : ℕ) where
  pub count_first : (n : ℕ) → from < end → n ≡ one_if (is from) → Counted is from end (from + 1) n
  count_first n h one = record {
    sum = ap (λ a. a + count_of is (end - (from + 1)) (from + 1)) one ∙ sym (ap (λ i. count_of is i from) (next_left end from h));
    few = let b = small (is from) in omega (arith, one, b);
  }

  pub count_next : (p n m : ℕ) → Counted is from end p n → from < p → p < end → m ≡ n + one_if (is p) → Counted is from end (p + 1) m
  count_next p n m so_far above h one =
      let step : count_of is (end - p) p ≡ one_if (is p) + count_of is (end - (p + 1)) (p + 1) = ap (λ i. count_of is i p) (next_left end p h) in
      record {
        sum = omega (arith, one, step, so_far.sum);
        few = let b = small (is p) in omega (arith, one, b, so_far.few, above);
      }

  pub count_last : (p n : ℕ) → Counted is from end p n → p ≡ end → n ≡ count_of is (end - from) from
  count_last p n so_far last =
      let none_left : end - p ≡ 0 = omega (arith, last) in
      let none : count_of is (end - p) p ≡ 0 = ap (λ i. count_of is i p) none_left in
      omega (arith, none, so_far.sum)

total_parts : (t : Total) (positions blocks alike refused full : ℕ) → t.positions ≡ positions → t.blocks ≡ blocks → t.alike ≡ alike → t.refused ≡ refused → t.full ≡ full
    → t ≡ record { positions = positions; blocks = blocks; alike = alike; refused = refused; full = full }
total_parts t positions blocks alike refused full p b a r f =
    ap (λ n. let u : Total = record t { positions = n } in u) p ∙ ap (λ n. let u : Total = record t { positions = positions; blocks = n } in u) b
    ∙ ap (λ n. let u : Total = record t { positions = positions; blocks = blocks; alike = n } in u) a
    ∙ ap (λ n. let u : Total = record t { positions = positions; blocks = blocks; alike = alike; refused = n } in u) r
    ∙ ap (λ n. let u : Total = record { positions = positions; blocks = blocks; alike = alike; refused = refused; full = n } in u) f

-- ---- positions

-- Positions from `from` to the one above p are swept and counted, and the blocks above the current one are printed.
pub record SweptSoFar (s : SweepOf) (from end p : ℕ) (old now : Option (List ℕ)) (current : Positions) (total : Total) (k : BootAndHistory) : Type 0 where
  pub closed : List Positions
  pub printed : Appends old now (flat_map block_text closed)
  pub whole : blocks_at s (end - from) from ≡ closed ++ blocks_from (text_at s) (is_alike_at s) (end - p) p current
  pub counted : total.blocks ≡ length closed + 1
  pub few : total.blocks ≤ p - from
  pub positions : total.positions ≡ p - from
  pub alike : Counted (is_alike_at s) from end p total.alike
  pub refused : Counted (is_refused_at s) from end p total.refused
  pub full : Counted (is_full_at s) from end p total.full
  pub above : from < p
  pub within : p ≤ end
  pub kernel : k ≡ (run_at s (p - 1)).kernel

module _ (s : SweepOf) (from end : ℕ) where
  abbrev f : ℕ → List ℕ
  f = text_at s

  abbrev is : ℕ → Bool
  is = is_alike_at s

  -- the first position
  pub first_swept : (old : Option (List ℕ)) (current : Positions) (total : Total) (k : BootAndHistory) → from < end → current ≡ block_at f is from → total ≡ total_one (findings_at s from)
      → k ≡ (run_at s from).kernel → SweptSoFar s from end (from + 1) old old current total k
  first_swept old current total k h same one kept = record {
    closed = [];
    printed = Appends-nil old;
    whole = ap (λ i. blocks_at s i from) (next_left end from h) ∙ ap (blocks_from f is (end - (from + 1)) (from + 1)) (sym same);
    counted = ap (λ (t : Total). t.blocks) one;
    few = let b = ap (λ (t : Total). t.blocks) one in omega (arith, b);
    positions = let n = ap (λ (t : Total). t.positions) one in omega (arith, n);
    alike = count_first is from end total.alike h (ap (λ (t : Total). t.alike) one);
    refused = count_first (is_refused_at s) from end total.refused h (ap (λ (t : Total). t.refused) one);
    full = count_first (is_full_at s) from end total.full h (ap (λ (t : Total). t.full) one);
    above = omega arith;
    within = omega (arith, h);
    kernel = kept ∙ (let one : from ≡ from + 1 - 1 = omega arith in ap (λ i. (run_at s i).kernel) one);
  }

  module _ (p : ℕ) (old now : Option (List ℕ)) (current : Positions) (total : Total) (k : BootAndHistory) (so_far : SweptSoFar s from end p old now current total k) (h : p < end) where
    abbrev more : Total
    more = both total (total_one (findings_at s p))

    there : p ≡ p + 1 - 1
    there = omega arith

    alike_next : Counted is from end (p + 1) more.alike
    alike_next = count_next is from end p total.alike more.alike so_far.alike so_far.above h refl

    refused_next : Counted (is_refused_at s) from end (p + 1) more.refused
    refused_next = count_next (is_refused_at s) from end p total.refused more.refused so_far.refused so_far.above h refl

    full_next : Counted (is_full_at s) from end (p + 1) more.full
    full_next = count_next (is_full_at s) from end p total.full more.full so_far.full so_far.above h refl

    by_text : (b : Bool) → bytes_eq (f p) current.text ≡ b → blocks_from f is (end - p) p current ≡ cond b (blocks_from f is (end - (p + 1)) (p + 1) (longer current (block_at f is p))) (current ∷ blocks_from f is (end - (p + 1)) (p + 1) (block_at f is p))
    by_text b e =
        ap (λ i. blocks_from f is i p current) (next_left end p h)
        ∙ ap (λ b. cond b (blocks_from f is (end - (p + 1)) (p + 1) (longer current (block_at f is p))) (current ∷ blocks_from f is (end - (p + 1)) (p + 1) (block_at f is p))) e

    -- the current block goes on
    pub goes_on : (l : BootAndHistory) → bytes_eq (f p) current.text ≡ true → l ≡ (run_at s p).kernel → SweptSoFar s from end (p + 1) old now (longer current (block_at f is p)) (record more { blocks = total.blocks }) l
    goes_on l e kept = record {
      closed = so_far.closed;
      printed = so_far.printed;
      whole = so_far.whole ∙ ap (λ bs. so_far.closed ++ bs) (by_text true e);
      counted = so_far.counted;
      few = omega (arith, so_far.few, so_far.above);
      positions = omega (arith, so_far.positions, so_far.above);
      alike = alike_next;
      refused = refused_next;
      full = full_next;
      above = omega (arith, so_far.above);
      within = omega (arith, h);
      kernel = kept ∙ ap (λ i. (run_at s i).kernel) there;
    }

    text_more : flat_map block_text so_far.closed ++ block_text current ≡ flat_map block_text (so_far.closed ++ current ∷ [])
    text_more = ap (λ t. flat_map block_text so_far.closed ++ t) (sym (append-nil (block_text current))) ∙ sym (flat_map-append block_text so_far.closed (current ∷ []))

    -- it ends, and another begins
    pub begins : (then : Option (List ℕ)) (other : Positions) (l : BootAndHistory) → bytes_eq (f p) current.text ≡ false → Appends now then (block_text current)
        → other ≡ block_at f is p → l ≡ (run_at s p).kernel → SweptSoFar s from end (p + 1) old then other more l
    begins then other l e printed same kept = record {
      closed = so_far.closed ++ current ∷ [];
      printed = subst (Appends old then) text_more (Appends-trans old now then (flat_map block_text so_far.closed) (block_text current) so_far.printed printed);
      whole = so_far.whole ∙ ap (λ bs. so_far.closed ++ bs) (by_text false e ∙ ap (λ b. current ∷ blocks_from f is (end - (p + 1)) (p + 1) b) (sym same)) ∙ sym (append_assoc so_far.closed (current ∷ []) (blocks_from f is (end - (p + 1)) (p + 1) other));
      counted = let longer = length-append so_far.closed (current ∷ []) in omega (arith, longer, so_far.counted);
      few = omega (arith, so_far.few, so_far.above);
      positions = omega (arith, so_far.positions, so_far.above);
      alike = alike_next;
      refused = refused_next;
      full = full_next;
      above = omega (arith, so_far.above);
      within = omega (arith, h);
      kernel = kept ∙ ap (λ i. (run_at s i).kernel) there;
    }

  -- whichever it is
  pub goes : (p : ℕ) (old now then : Option (List ℕ)) (k l : BootAndHistory) (x y next : Tally) (text : Vec ℕ Global) (found : Findings) (b : Bool) → SweptSoFar s from end p old now (positions_of x.block) x.total k → p < end
      → found ≡ findings_at s p → next ≡ tally_of p text found → text.items ≡ f p → bytes_eq (f p) x.block.text.items ≡ b
      → (bytes_eq next.block.text.items x.block.text.items ≡ true → (y ≡ record { block = with_next x.block next.block; total = record (both x.total next.total) { blocks = x.total.blocks } }) × (then ≡ now))
      → (bytes_eq next.block.text.items x.block.text.items ≡ false → (y ≡ record { block = next.block; total = both x.total next.total }) × Appends now then (block_text (positions_of x.block)))
      → l ≡ (run_at s p).kernel → SweptSoFar s from end (p + 1) old then (positions_of y.block) y.total l
  goes p old now then k l x y next text found true so_far h which one told e on new kept =
      let same : bytes_eq text.items x.block.text.items ≡ true = ap (λ u. bytes_eq u x.block.text.items) told ∙ e in
      let here : next ≡ tally_of p text (findings_at s p) = one ∙ ap (tally_of p text) which in
      let r = subst (λ (n : Tally). bytes_eq n.block.text.items x.block.text.items ≡ true → (y ≡ record { block = with_next x.block n.block; total = record (both x.total n.total) { blocks = x.total.blocks } }) × (then ≡ now)) here on same in
      let wide = goes_on p old now (positions_of x.block) x.total k so_far h l e kept in
      subst (λ (z : Tally). SweptSoFar s from end (p + 1) old then (positions_of z.block) z.total l) (sym r.0)
      (subst (λ o. SweptSoFar s from end (p + 1) old o (longer (positions_of x.block) (block_at f is p)) (record (both x.total (total_one (findings_at s p))) { blocks = x.total.blocks }) l) (sym r.1) wide)
  goes p old now then k l x y next text found false so_far h which one told e on new kept =
      let other : bytes_eq text.items x.block.text.items ≡ false = ap (λ u. bytes_eq u x.block.text.items) told ∙ e in
      let here : next ≡ tally_of p text (findings_at s p) = one ∙ ap (tally_of p text) which in
      let r = subst (λ (n : Tally). bytes_eq n.block.text.items x.block.text.items ≡ false → (y ≡ record { block = n.block; total = both x.total n.total }) × Appends now then (block_text (positions_of x.block))) here new other in
      let begun = begins p old now (positions_of x.block) x.total k so_far h then (positions_of (tally_of p text (findings_at s p)).block) l e r.1
      (ap (λ (u : List ℕ). let o : Positions = record { first = p; last = p; text = u; differs = cond (is p) None (Some p) } in o) told) kept in
      subst (λ (z : Tally). SweptSoFar s from end (p + 1) old then (positions_of z.block) z.total l) (sym r.0) begun

  module _ (p : ℕ) (old now : Option (List ℕ)) (current : Positions) (total : Total) (k : BootAndHistory) (so_far : SweptSoFar s from end p old now current total k) (last : p ≡ end) where
    none_left : end - p ≡ 0
    none_left = omega (arith, last)

    whole_last : blocks_at s (end - from) from ≡ so_far.closed ++ current ∷ []
    whole_last = so_far.whole ∙ ap (λ i. so_far.closed ++ blocks_from f is i p current) none_left

    -- all is printed
    pub last_printed : (then : Option (List ℕ)) → Appends now then (block_text current) → Appends old then (flat_map block_text (blocks_at s (end - from) from))
    last_printed then printed =
        let more : flat_map block_text so_far.closed ++ block_text current ≡ flat_map block_text (so_far.closed ++ current ∷ []) =
        ap (λ t. flat_map block_text so_far.closed ++ t) (sym (append-nil (block_text current))) ∙ sym (flat_map-append block_text so_far.closed (current ∷ [])) in
        subst (Appends old then) (more ∙ sym (ap (flat_map block_text) whole_last))
        (Appends-trans old now then (flat_map block_text so_far.closed) (block_text current) so_far.printed printed)

    last_blocks : total.blocks ≡ length (blocks_at s (end - from) from)
    last_blocks = let longer = length-append so_far.closed (current ∷ []) in let same = ap length whole_last in omega (arith, longer, same, so_far.counted)

    -- and counted
    pub last_total : total ≡ total_of s (end - from) from
    last_total =
        let a = count_last is from end p total.alike so_far.alike last in
        let r = count_last (is_refused_at s) from end p total.refused so_far.refused last in
        let w = count_last (is_full_at s) from end p total.full so_far.full last in
        let n : total.positions ≡ end - from = so_far.positions ∙ ap (λ i. i - from) last in
        total_parts total (end - from) (length (blocks_at s (end - from) from)) (count_of is (end - from) from) (count_of (is_refused_at s) (end - from) from) (count_of (is_full_at s) (end - from) from) n last_blocks a r w

    pub last_kernel : k ≡ (run_at s (end - 1)).kernel
    last_kernel = so_far.kernel ∙ ap (λ i. (run_at s (i - 1)).kernel) last
