use Rattle.std.proofs.Common.{◌≡◌, ◌∙◌, ℕ, ◌<◌, ◌++◌, ◌∷◌, [], length, slice_set, length-set, get_or-set_same, sym, ap, subst}
use Rattle.std.proofs.lemmas.List.{set-set}
use Rattle.mx_load.specs.Image.{blank}
use Rattle.mx_load.specs.Load.{image_of_program}
use Rattle.mx_ipc.specs.Proc.declared.process.Process.{Process}
use Rattle.mx_ipc.specs.Proc.Frame.{Frame, frame_with_process}
use Rattle.mx_ipc.specs.Proc.Queues.{list_at}
use Rattle.mx_ipc.specs.Proc.TableState.{TableState, nobody, process_at, with_image, process_after, table_after_revival}
use Rattle.mx_respawn.specs.declared.service.Service.{Service}
use Rattle.mx_respawn.specs.Respawn.{next_process, table_after_respawn}

-- the dead process without its image
pub emptied : (w t : TableState) (s : ℕ) → s < length w.slots → t ≡ with_image w s blank → process_at t s ≡ record (process_at w s) { image = blank }
emptied w t s b e = ap (λ x. process_at x s) e ∙ get_or-set_same w.slots s _ nobody b

-- the one after it is that after the dead process
pub next_is : (w t : TableState) (s : ℕ) (image : _) (v : Service) → s < length w.slots → t ≡ with_image w s blank → image ≡ image_of_program v.program → process_after (process_at t s) image v.terms ≡ next_process (process_at w s) v
next_is w t s image v b e f = ap (λ p. process_after p image v.terms) (emptied w t s b e) ∙ ap (λ i. process_after (process_at w s) i v.terms) f

put_twice : (w : TableState) (s : ℕ) (p : Process) → table_after_revival (with_image w s blank) s p ≡ table_after_revival w s p
put_twice w s p = ap (λ l. let n : TableState = record w { slots = l; ready = slice_set w.ready p.schedule.level (list_at w.ready p.schedule.level ++ s ∷ []) } in n) (set-set w.slots s _ p)

pub respawned_is : (w t n : TableState) (s : ℕ) (p : Process) (v : Service) → t ≡ with_image w s blank → n ≡ table_after_revival t s p → p ≡ next_process (process_at w s) v → n ≡ table_after_respawn w s v
unfolding table_after_respawn
respawned_is w t n s p v f h e = h ∙ ap (λ x. table_after_revival x s p) f ∙ put_twice w s p ∙ ap (table_after_revival w s) e

pub reframed_twice : (f : Frame) (s : ℕ) (x p : Process) → frame_with_process (frame_with_process f s x) s p ≡ frame_with_process f s p
reframed_twice f s x p = ap (λ l. let g : Frame = record (frame_with_process (frame_with_process f s x) s p) { fixed = l } in g) (set-set f.fixed s _ _) ∙ ap (λ l. let g : Frame = record (frame_with_process f s p) { loans = l } in g) (set-set f.loans s _ _)

-- what is put into a slot is there
pub stands : (w t n : TableState) (s : ℕ) (p : Process) → s < length w.slots → t ≡ with_image w s blank → n ≡ table_after_revival t s p → process_at n s ≡ p
stands w t n s p b f e = ap (λ x. process_at x s) e ∙ get_or-set_same t.slots s p nobody (subst (λ k. s < k) (sym (ap (λ (x : TableState). length x.slots) f ∙ length-set w.slots s _)) b)
