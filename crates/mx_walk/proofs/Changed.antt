-- A byte of a process that one processor alone has, and a step of it.
use Rattle.std.proofs.Common.{◌≡◌, ◌≢◌, ◌∙◌, ◌<◌, ◌⊎◌, ℕ, zero, suc, ◌+◌, nat_eq, cond, not, ◌&&◌, true, false, List, [], ◌∷◌, slice_get, Option, Some, None, refl, ap, sym, subst, inl, inr, arith}
use Rattle.std.specs.List.{range_with_len}
use Rattle.std.proofs.lemmas.Bool.{eq-eqb}
use Rattle.std.proofs.lemmas.Bool.Decides.{eqb_tells}
use Rattle.mx_machine.specs.Proc.TableState.{memory_at}
use Rattle.mx_machine.specs.declared.holding.Out.{Out}
use Rattle.mx_machine.specs.Move.{with_held}
use Rattle.mx_machine.specs.World.{HeldProcess, World, held_by}
use Rattle.mx_walk.specs.declared.watching.BytePlace.{BytePlace}
use Rattle.mx_walk.specs.Running.{IsAlone, with_out}
use Rattle.mx_walk.specs.Watching.{byte_by, byte_in, byte_of_held, byte_on, is_changed, is_changed_by_step, or_else, same_byte}
use Rattle.mx_walk.proofs.Apart.{held_after, held_as, still_alone}
use Rattle.mx_walk.proofs.Bytes.{found_here, none_yet}

same_bytes : (x : Option ℕ) → not (same_byte x x) ≡ false
same_bytes None = refl
same_bytes (Some n) = ap not (eq-eqb n n refl)

module _ (b : BytePlace) where
  -- which processor has it
  elsewhere_by : (x : Option HeldProcess) → ((m : HeldProcess) → x ≡ Some m → m.slot ≢ b.slot) → byte_of_held x b ≡ None
  elsewhere_by None h = refl
  elsewhere_by (Some m) h = elim (eqb_tells m.slot b.slot) [
    | inl it ↦ absurd (h m refl it.1)
    | inr it ↦ ap (λ c. let o : Option (Option ℕ) = cond c (Some (slice_get m.out.image.memory b.address)) None in o) it.0
  ]

  none_before : (w : World) (i : ℕ) → ((c : ℕ) → c < i → byte_of_held (held_by w c) b ≡ None) → byte_on w b (range_with_len 0 i) ≡ None
  none_before w zero h = refl
  none_before w (suc i) h =
      let e : i + 1 ≡ suc i = omega arith in
      subst (λ j. byte_on w b (range_with_len 0 j) ≡ None) e (none_yet w b i (none_before w i (λ c lt. h c (omega (arith, lt)))) (h i (omega arith)))

  pub byte_there : (w : World) (a : ℕ) (l : HeldProcess) → IsAlone w a l → l.slot ≡ b.slot → byte_in w b ≡ slice_get l.out.image.memory b.address
  byte_there w a l h same =
      let here : byte_of_held (held_by w a) b ≡ Some (slice_get l.out.image.memory b.address) =
      ap (λ (x : Option HeldProcess). byte_of_held x b) h.held
      ∙ ap (λ c. let o : Option (Option ℕ) = cond c (Some (slice_get l.out.image.memory b.address)) None in o) (eq-eqb l.slot b.slot same) in
      sym (found_here w b a (slice_get l.out.image.memory b.address) h.few (none_before w a (λ c lt. elsewhere_by (held_by w c) (λ m there is. let e = h.alone c m there (is ∙ sym same) in omega (arith, e, lt)))) here)

  byte_as : (w u : World) (cs : List ℕ) → ((c : ℕ) → byte_of_held (held_by w c) b ≡ byte_of_held (held_by u c) b) → byte_on w b cs ≡ byte_on u b cs
  byte_as w u [] h = refl
  byte_as w u (c ∷ cs) h =
      ap (λ (o : Option (Option ℕ)). or_else o (byte_on w b cs)) (h c) ∙ ap (λ (o : Option (Option ℕ)). or_else (byte_of_held (held_by u c) b) o) (byte_as w u cs h)

  byte_of_others : (w : World) (a : ℕ) (l : HeldProcess) (o : Out) → IsAlone w a l → l.slot ≢ b.slot → byte_in w b ≡ byte_in (with_held w a (Some (with_out l o))) b
  unfolding byte_in
  byte_of_others w a l o h other =
      ap (λ (x : Option (Option ℕ)). byte_by x (slice_get (memory_at w.table b.slot) b.address)) (byte_as w (with_held w a (Some (with_out l o))) (range_with_len 0 8) (λ c. by_number c (eqb_tells c a)))
    where
      by_number : (c : ℕ) → ((nat_eq c a ≡ true) × (c ≡ a)) ⊎ ((nat_eq c a ≡ false) × (c ≢ a)) → byte_of_held (held_by w c) b ≡ byte_of_held (held_by (with_held w a (Some (with_out l o))) c) b
      by_number c (inl it) =
          subst (λ d. byte_of_held (held_by w d) b ≡ byte_of_held (held_by (with_held w a (Some (with_out l o))) d) b) (sym it.1)
          (ap (λ (x : Option HeldProcess). byte_of_held x b) h.held
          ∙ elsewhere_by (Some l) (λ m is. subst (λ (x : HeldProcess). x.slot ≢ b.slot) (let s : l ≡ m = cc in s) other)
          ∙ sym (elsewhere_by (Some (with_out l o)) (λ m is. subst (λ (x : HeldProcess). x.slot ≢ b.slot) (let s : with_out l o ≡ m = cc in s) other))
          ∙ sym (ap (λ (x : Option HeldProcess). byte_of_held x b) (held_after w a l o h)))
      by_number c (inr it) = ap (λ (x : Option HeldProcess). byte_of_held x b) (sym (held_as w a c (Some (with_out l o)) it.1))

  -- a step changes it if it changes it in the memory of the process that makes the step
  pub changed_by_step : (w : World) (a : ℕ) (l : HeldProcess) (o : Out) → IsAlone w a l → is_changed b w (with_held w a (Some (with_out l o))) ≡ is_changed_by_step b l o
  changed_by_step w a l o h = elim (eqb_tells l.slot b.slot) [
    | inl it ↦
        ap (λ x. not (same_byte x (byte_in (with_held w a (Some (with_out l o))) b))) (byte_there w a l h it.1)
        ∙ ap (λ x. not (same_byte (slice_get l.out.image.memory b.address) x)) (byte_there (with_held w a (Some (with_out l o))) a (with_out l o) (still_alone w a l o h) it.1)
        ∙ sym (ap (λ t. t && not (same_byte (slice_get l.out.image.memory b.address) (slice_get o.image.memory b.address))) it.0)
    | inr it ↦
        ap (λ x. not (same_byte (byte_in w b) x)) (sym (byte_of_others w a l o h it.1))
        ∙ same_bytes (byte_in w b)
        ∙ sym (ap (λ t. t && not (same_byte (slice_get l.out.image.memory b.address) (slice_get o.image.memory b.address))) it.0)
  ]
