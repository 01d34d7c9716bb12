-- Of a slot without a service nothing is printed.
use Rattle.std.proofs.Common.{◌≡◌, ◌∙◌, ◌+◌, ◌&&◌, ◌||◌, ℕ, Bool, true, false, cond, List, [], ◌++◌, Option, Some, None, get_or, refl, ap}
use Rattle.std.specs.Prelude.{codes, is_some}
use Rattle.mx_look.specs.declared.slot_glances.SlotGlance.{SlotGlance}
use Rattle.mx_look.specs.declared.transition.Transition.{Transition}
use Rattle.mx_look.specs.Doings.{is_waiting, is_listening, seen_is}
use Rattle.mx_look.specs.Going.{calls_receive, gone_on, got, is_acted, is_zero, result_in}
use Rattle.mx_look.specs.Deliveries.{delivery_to, got_from, is_new_bit}
use Rattle.mx_look.specs.Slots.{has_changed, is_renewed}
use Rattle.mx_look.specs.Transition.{slot_in}
use Rattle.mx_look.specs.Trace.{change_line, changed_if, delivery_line, delivery_line_by, kept_line, kept_lines, kept_lines_by, new_quantum, quantum_line, source_text}
use Rattle.mx_look.specs.Numbers.{margin}
use Rattle.mx_look.specs.Words.{who_of}

either : {A : Type 0} (b : Bool) (x y : A) → x ≡ y → cond b x y ≡ y
either true x y e = e
either false x y e = refl

module _ (x : Transition) (s : ℕ) (none : is_some (slot_in x.after s) ≡ false) where
  unseen : slot_in x.after s ≡ None
  unseen = by_option (slot_in x.after s) none
    where
      by_option : (o : Option SlotGlance) → is_some o ≡ false → o ≡ None
      by_option None e = refl
      by_option (Some u) e = cc

  not_got : got x s ≡ false
  unfolding got gone_on
  not_got =
      let waits = seen_is is_waiting (slot_in x.before s) || is_acted x s in
      let listens = seen_is is_listening (slot_in x.before s) || (is_acted x s && calls_receive x) in
      ap (λ (o : Option ℕ). is_zero o && listens) (either waits (result_in (slot_in x.after s)) None (ap result_in unseen))

  pub no_delivery : delivery_line x s ≡ []
  unfolding delivery_line delivery_to
  no_delivery = ap (λ (b : Bool). delivery_line_by x s (cond b (get_or x.after.deliveries (got_from x (s + 1)) None) None)) not_got

  pub none_kept : kept_lines x s ≡ []
  unfolding kept_lines
  none_kept = ap (kept_lines_by x (slot_in x.before s)) unseen ∙ by_option (slot_in x.before s)
    where
      by_option : (o : Option SlotGlance) → kept_lines_by x o None ≡ []
      by_option None = refl
      by_option (Some v) = refl

  no_change : change_line x s ≡ []
  unfolding change_line
  no_change = either (has_changed x s) (changed_if x s (slot_in x.before s) (slot_in x.after s)) [] (ap (changed_if x s (slot_in x.before s)) unseen ∙ by_option (slot_in x.before s))
    where
      by_option : (o : Option SlotGlance) → changed_if x s o None ≡ []
      by_option None = refl
      by_option (Some v) = refl

  no_quantum : quantum_line x s ≡ []
  unfolding quantum_line
  no_quantum = either (is_renewed x s) (new_quantum x (slot_in x.after s)) [] (ap (new_quantum x) unseen)

  pub none_changed : change_line x s ++ quantum_line x s ≡ []
  none_changed = ap (λ (l : List ℕ). l ++ quantum_line x s) no_change ∙ no_quantum

-- of a notification that isn't kept neither
pub not_new : (x : Transition) (v u : SlotGlance) (place : ℕ) → is_new_bit v u place ≡ false → kept_line x v u place ≡ []
unfolding kept_line
not_new x v u place e = ap (λ b. cond b (margin x ++ codes "notify " ++ source_text x.after place ++ codes " to " ++ who_of u ++ codes ", pending\n") []) e
