use Rattle.std.proofs.Common.{◌≡◌, ◌∙◌, ℕ, Vec, Global, refl, ap, sym, arith}
use Rattle.mx_look.specs.Trace.{delivery_line, delivery_lines}
use Rattle.mx_look.proofs.TraceRows.{next_row, empty_row, all_rows}
use Rattle.mx_look.proofs.Unserved.{no_delivery}
use Rattle.mx_look.proofs.record.push_deliveries.Goals as goal
use Rattle.mx_look.proofs.record.push_deliveries.Goals.{then-has_service+in_ok-push_delivery, else-has_service}

pub loop-slot-preserved : goal.loop-slot-preserved
loop-slot-preserved c =
    let line = delivery_line c.args.transition.now in
    let slot = c.loop-slot.slot in
    elim c.if-has_service.branch [
      | then-has_service+in_ok-push_delivery w ↦
          ap (λ (v : Vec ℕ Global). v.items) w.out-is
          ∙ next_row line slot c.args.out.now.items c.loop-slot.out.items w.push_delivery.new.out.items _ c.loop-slot.invariant w.in_ok-push_delivery.ensures refl
      | else-has_service w ↦
          ap (λ (v : Vec ℕ Global). v.items) w.out-is
          ∙ empty_row line slot c.args.out.now.items c.loop-slot.out.items c.loop-slot.invariant
          (no_delivery c.args.transition.now slot (sym c.has_service.ensures ∙ w.if-has_service.false))
    ]

pub returns : goal.returns
unfolding delivery_lines
returns c =
    let all : c.loop-slot.slot ≡ 32 = omega arith in
    all_rows (delivery_line c.args.transition.now) c.loop-slot.slot 32 c.args.out.now.items c.loop-slot.out.items all c.loop-slot.invariant
