use Rattle.std.proofs.Common.{◌≡◌, ◌∙◌, ℕ, Vec, Global, refl, ap, sym, arith}
use Rattle.mx_look.specs.Trace.{kept_lines, all_kept_lines}
use Rattle.mx_look.proofs.TraceRows.{next_row, empty_row, all_rows}
use Rattle.mx_look.proofs.Unserved.{none_kept}
use Rattle.mx_look.proofs.record.push_all_kept.Goals as goal
use Rattle.mx_look.proofs.record.push_all_kept.Goals.{then-has_service+in_ok-push_kept_lines, else-has_service}

pub loop-slot-preserved : goal.loop-slot-preserved
loop-slot-preserved c =
    let line = kept_lines c.args.transition.now in
    let slot = c.loop-slot.slot in
    elim c.if-has_service.branch [
      | then-has_service+in_ok-push_kept_lines w ↦
          ap (λ (v : Vec ℕ Global). v.items) w.out-is
          ∙ next_row line slot c.args.out.now.items c.loop-slot.out.items w.push_kept_lines.new.out.items _ c.loop-slot.invariant w.in_ok-push_kept_lines.ensures refl
      | else-has_service w ↦
          ap (λ (v : Vec ℕ Global). v.items) w.out-is
          ∙ empty_row line slot c.args.out.now.items c.loop-slot.out.items c.loop-slot.invariant
          (none_kept c.args.transition.now slot (sym c.has_service.ensures ∙ w.if-has_service.false))
    ]

pub returns : goal.returns
unfolding all_kept_lines
returns c =
    let all : c.loop-slot.slot ≡ 32 = omega arith in
    all_rows (kept_lines c.args.transition.now) c.loop-slot.slot 32 c.args.out.now.items c.loop-slot.out.items all c.loop-slot.invariant
