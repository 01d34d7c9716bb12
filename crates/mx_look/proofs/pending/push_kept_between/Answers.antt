use Rattle.std.proofs.Common.{◌≡◌, ◌∙◌, ℕ, Vec, Global, refl, ap, sym, arith}
use Rattle.mx_look.specs.Trace.{kept_line, kept_between}
use Rattle.mx_look.proofs.TraceRows.{next_row, empty_row, all_rows}
use Rattle.mx_look.proofs.Unserved.{not_new}
use Rattle.mx_look.proofs.pending.push_kept_between.Goals as goal
use Rattle.mx_look.proofs.pending.push_kept_between.Goals.{then-is_new_bit+in_ok-push_kept, else-is_new_bit}

pub loop-place-preserved : goal.loop-place-preserved
loop-place-preserved c =
    let line = kept_line c.args.transition.now c.args.before.now c.args.after.now in
    let place = c.loop-place.place in
    elim c.if-is_new_bit.branch [
      | then-is_new_bit+in_ok-push_kept w ↦
          ap (λ (v : Vec ℕ Global). v.items) w.out-is
          ∙ next_row line place c.args.out.now.items c.loop-place.out.items w.push_kept.new.out.items _ c.loop-place.invariant w.in_ok-push_kept.ensures refl
      | else-is_new_bit w ↦
          ap (λ (v : Vec ℕ Global). v.items) w.out-is
          ∙ empty_row line place c.args.out.now.items c.loop-place.out.items c.loop-place.invariant
          (not_new c.args.transition.now c.args.before.now c.args.after.now place (sym c.is_new_bit.ensures ∙ w.if-is_new_bit.false))
    ]

pub returns : goal.returns
unfolding kept_between
returns c =
    let all : c.loop-place.place ≡ 34 = omega arith in
    all_rows (kept_line c.args.transition.now c.args.before.now c.args.after.now) c.loop-place.place 34 c.args.out.now.items c.loop-place.out.items all c.loop-place.invariant
