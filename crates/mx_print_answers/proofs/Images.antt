-- Which processor has a slot's process.
use Rattle.std.proofs.Common.{◌≡◌, ◌∙◌, ◌<◌, ℕ, zero, suc, ◌+◌, Option, Some, None, refl, ap, sym, subst, arith}
use Rattle.std.specs.List.{range_with_len}
use Rattle.mx_exec.specs.declared.image.Image.{Image}
use Rattle.mx_machine.specs.World.{World, held_by}
use Rattle.std.specs.Option.{option_or}
use Rattle.mx_print_answers.specs.Slots.{image_at_home, image_in, image_of_held, image_on}

first_none : (p q : Option Image) → option_or p q ≡ None → p ≡ None
first_none (Some x) q e = absurd cc
first_none None q e = refl

second_none : (p q : Option Image) → option_or p q ≡ None → q ≡ None
second_none (Some x) q e = absurd cc
second_none None q e = e

module _ (w : World) (s : ℕ) where
  abbrev pub held : ℕ → Option Image
  held a = image_of_held (held_by w a) s

  none_more : (n a : ℕ) → image_on w s (range_with_len a n) ≡ None → held (a + n) ≡ None → image_on w s (range_with_len a (suc n)) ≡ None
  none_more zero a e h =
      let same : a + 0 ≡ a = omega arith in
      ap (λ (o : Option Image). option_or o None) (ap held (sym same) ∙ h)
  none_more (suc n) a e h =
      let same : a + suc n ≡ a + 1 + n = omega arith in
      ap (λ (o : Option Image). option_or o (image_on w s (range_with_len (a + 1) (suc n)))) (first_none (held a) (image_on w s (range_with_len (a + 1) n)) e)
      ∙ none_more n (a + 1) (second_none (held a) (image_on w s (range_with_len (a + 1) n)) e) (ap held (sym same) ∙ h)

  -- one processor more doesn't have it
  pub none_yet : (i : ℕ) → image_on w s (range_with_len 0 i) ≡ None → held i ≡ None → image_on w s (range_with_len 0 (i + 1)) ≡ None
  none_yet i e h =
      let one : suc i ≡ i + 1 = omega arith in
      let same : i ≡ 0 + i = omega arith in
      subst (λ k. image_on w s (range_with_len 0 k) ≡ None) one (none_more i 0 e (subst (λ k. held k ≡ None) same h))

  found_on : (n i a : ℕ) (m : Image) → i < n → image_on w s (range_with_len a i) ≡ None → held (a + i) ≡ Some m → image_on w s (range_with_len a n) ≡ Some m
  found_on zero i a m lt e h = absurd (omega (arith, lt))
  found_on (suc n) zero a m lt e h =
      let same : a + 0 ≡ a = omega arith in
      ap (λ (o : Option Image). option_or o (image_on w s (range_with_len (a + 1) n))) (ap held (sym same) ∙ h)
  found_on (suc n) (suc i) a m lt e h =
      let same : a + suc i ≡ a + 1 + i = omega arith in
      ap (λ (o : Option Image). option_or o (image_on w s (range_with_len (a + 1) n))) (first_none (held a) (image_on w s (range_with_len (a + 1) i)) e)
      ∙ found_on n i (a + 1) m (omega (arith, lt)) (second_none (held a) (image_on w s (range_with_len (a + 1) i)) e) (ap held (sym same) ∙ h)

  -- the first that has it
  pub on_processor : (i : ℕ) (m : Image) → i < 8 → image_on w s (range_with_len 0 i) ≡ None → held i ≡ Some m → Some m ≡ image_in w s
  unfolding image_in
  on_processor i m lt e h =
      let same : i ≡ 0 + i = omega arith in
      sym (ap (λ (o : Option Image). option_or o (image_at_home w s)) (found_on 8 i 0 m lt e (subst (λ k. held k ≡ Some m) same h)))

  pub at_home : (i : ℕ) (o : Option Image) → i ≡ 8 → image_on w s (range_with_len 0 i) ≡ None → o ≡ image_at_home w s → o ≡ image_in w s
  unfolding image_in
  at_home i o all e h = h ∙ sym (ap (λ (p : Option Image). option_or p (image_at_home w s)) (subst (λ k. image_on w s (range_with_len 0 k) ≡ None) all e))
