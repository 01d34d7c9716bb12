use Rattle.std.proofs.Common.{ℕ, List, ap, length, replicate, ◌∙◌}
use Rattle.mx_load.proofs.loading.room_for.Goals.{then-program+in_ok-text_room, else-program}
use Rattle.mx_load.proofs.loading.room_for.Goals as goal

pub returns-clause-text : goal.returns-clause-text
returns-clause-text c = elim c.if-program.branch [
  | then-program+in_ok-text_room w ↦ rw w.text-is (w.if-program.true, w.in_ok-text_room.ensures.zeros ∙ ap (λ (l : List ℕ). replicate (length l) 0) w.as_slice.ensures, w.in_ok-text_room.ensures.cached)
  | else-program w ↦ rw w.text-is w.if-program.false
]
