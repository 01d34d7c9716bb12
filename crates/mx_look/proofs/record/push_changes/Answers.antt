use Rattle.std.proofs.Common.{◌≡◌, ◌∙◌, ◌++◌, ℕ, List, Vec, Global, refl, append_assoc, ap, sym, arith}
use Rattle.mx_look.specs.Trace.{change_line, quantum_line, change_lines}
use Rattle.mx_look.proofs.TraceRows.{next_row, empty_row, all_rows}
use Rattle.mx_look.proofs.Unserved.{none_changed}
use Rattle.mx_look.proofs.record.push_changes.Goals as goal
use Rattle.mx_look.proofs.record.push_changes.Goals.{then-has_service+in_ok-push_change+in_ok-push_quantum, else-has_service}

pub loop-slot-preserved : goal.loop-slot-preserved
loop-slot-preserved c =
    let lines : ℕ → List ℕ = λ s. change_line c.args.transition.now s ++ quantum_line c.args.transition.now s in
    let slot = c.loop-slot.slot in
    elim c.if-has_service.branch [
      | then-has_service+in_ok-push_change+in_ok-push_quantum w ↦
          ap (λ (v : Vec ℕ Global). v.items) w.out-is
          ∙ next_row lines slot c.args.out.now.items c.loop-slot.out.items w.push_quantum.new.out.items _ c.loop-slot.invariant (w.in_ok-push_quantum.ensures ∙ ap (λ (v : List ℕ). v ++ quantum_line c.args.transition.now slot) w.in_ok-push_change.ensures ∙ append_assoc c.loop-slot.out.items (change_line c.args.transition.now slot) (quantum_line c.args.transition.now slot)) refl
      | else-has_service w ↦
          ap (λ (v : Vec ℕ Global). v.items) w.out-is
          ∙ empty_row lines slot c.args.out.now.items c.loop-slot.out.items c.loop-slot.invariant
          (none_changed c.args.transition.now slot (sym c.has_service.ensures ∙ w.if-has_service.false))
    ]

pub returns : goal.returns
unfolding change_lines
returns c =
    let all : c.loop-slot.slot ≡ 32 = omega arith in
    all_rows (λ s. change_line c.args.transition.now s ++ quantum_line c.args.transition.now s) c.loop-slot.slot 32 c.args.out.now.items c.loop-slot.out.items all c.loop-slot.invariant
