use Rattle.std.proofs.Common.{◌∙◌, ◌<◌, ℕ, ◌+◌, List, [], ◌∷◌, ◌++◌, Option, drop, subst, sym, ap, arith, append_assoc}
use Rattle.std.proofs.Common.{IfSome}
use Rattle.std.proofs.lemmas.List.{append-nil}
use Rattle.mx_look_page.proofs.Places.{one_more, no_more}
use Rattle.mx_look_page.specs.Shown.{waiting_order}
use Rattle.mx_look_page.proofs.shown.push_waiting.Goals as goal

pub overflow_add-place : goal.overflow_add-place
overflow_add-place c = omega (arith, subst (λ (o : Option ℕ). IfSome o (λ s. c.loop-slot.place < 32)) c.in-Some.is c.waiting_at.ensures.few)

pub loop-slot-smaller : goal.loop-slot-smaller
loop-slot-smaller c = omega (arith, subst (λ (o : Option ℕ). IfSome o (λ s. c.loop-slot.place < 32)) c.in-Some.is c.waiting_at.ensures.few)

pub loop-slot-preserved : goal.loop-slot-preserved
loop-slot-preserved c =
    let rest = drop (c.loop-slot.place + 1) (waiting_order c.args.table.now) in
    ap (λ (z : List ℕ). z ++ rest) c.in_ok-push.ensures.items
    ∙ append_assoc c.loop-slot.out.items (c.in-Some.slot ∷ []) rest
    ∙ ap (λ (z : List ℕ). c.loop-slot.out.items ++ z) (sym (one_more (waiting_order c.args.table.now) c.loop-slot.place c.in-Some.slot (sym c.waiting_at.ensures.value ∙ c.in-Some.is)))
    ∙ c.loop-slot.invariant

pub returns : goal.returns
returns c =
    let over = no_more (waiting_order c.args.table.now) c.loop-slot.place (sym c.waiting_at.ensures.value ∙ c.in_default.is) in
    sym (append-nil c.loop-slot.out.items) ∙ ap (λ (z : List ℕ). c.loop-slot.out.items ++ z) (sym over) ∙ c.loop-slot.invariant
