use Rattle.std.proofs.Common.{◌≡◌, ℕ, ◌<◌, zero, suc, map, List, [], ◌∷◌, length, get_or, slice_set, Option, Some, true, false, refl, sym, ap, ◌∙◌, subst}
use Rattle.mx_proc.specs.declared.process.Process.{Process}
use Rattle.mx_proc.specs.declared.devices.Devices.{Devices}
use Rattle.mx_proc.specs.States.{is_out}
use Rattle.mx_proc.specs.TableState.{TableState, process_at, with_process}
use Rattle.mx_proc.specs.Frame.{FixedOfProcess, Frame, fixed_of, loan_of, frame, frame_with_process}
use Rattle.mx_proc.specs.declared.deliveries.Delivery.{Delivery}
use Rattle.mx_proc.proofs.SoundLemmas.{process-same}
use Rattle.mx_proc.proofs.TableLemmas.{the_process, home_of}

-- a list of what f shows, where one item was replaced by one that shows the same
map-set : {X Y : Type 0} (f : X → Y) (xs : List X) (i : ℕ) (d p : X) → f p ≡ f (get_or xs i d) → map f (slice_set xs i p) ≡ map f xs
map-set f [] i d p e = refl
map-set f (x ∷ xs) zero d p e = ap (λ y. y ∷ map f xs) e
map-set f (x ∷ xs) (suc i) d p e = ap (λ l. f x ∷ l) (map-set f xs i d p e)

-- or by another
pub map-put : {X Y : Type 0} (f : X → Y) (xs : List X) (i : ℕ) (p : X) → map f (slice_set xs i p) ≡ slice_set (map f xs) i (f p)
map-put f [] i p = refl
map-put f (x ∷ xs) zero p = refl
map-put f (x ∷ xs) (suc i) p = ap (λ l. f x ∷ l) (map-put f xs i p)

pub no_loan : (p q : Process) → is_out p.state ≡ false → is_out q.state ≡ false → loan_of p ≡ loan_of q
no_loan p q a b = rw a (rw b refl)

pub out_loan : (p q : Process) → is_out p.state ≡ true → is_out q.state ≡ true → p.schedule.ticks ≡ q.schedule.ticks → loan_of p ≡ loan_of q
out_loan p q a b t = rw a (rw b (ap Some t))

same : (a b : List FixedOfProcess) (c d : List (Option ℕ)) (t : ℕ) (x : Devices) → a ≡ b → c ≡ d
    → (let f : Frame = record { fixed = a; loans = c; uptime = t; devices = x } in f) ≡ record { fixed = b; loans = d; uptime = t; devices = x }
same a b c d t x e f = cc

-- a process is changed, and the frame isn't
pub framed : (w n : TableState) (s : ℕ) (q p : Process) (r : List (List ℕ)) (v : List (ℕ × ℕ)) (k : Option ℕ) (l : List Delivery) → w ≡ n → q ≡ get_or w.slots s q → fixed_of p ≡ fixed_of q → loan_of p ≡ loan_of q
    → frame (record w { slots = slice_set w.slots s p; ready = r; waits = v; renewed = k; deliveries = l }) ≡ frame n
unfolding frame
framed w n s q p r v k l is e fixed loan =
    same (map fixed_of (slice_set w.slots s p)) (map fixed_of w.slots) (map loan_of (slice_set w.slots s p)) (map loan_of w.slots) w.uptime w.devices
    (map-set fixed_of w.slots s q p (fixed ∙ ap fixed_of e)) (map-set loan_of w.slots s q p (loan ∙ ap loan_of e)) ∙ ap frame is

-- a process that is home before and after
pub framed_home : (w n : TableState) (s : ℕ) (q p : Process) (r : List (List ℕ)) (v : List (ℕ × ℕ)) (k : Option ℕ) (l : List Delivery) → w ≡ n → s < length n.slots → q ≡ get_or w.slots s q → fixed_of p ≡ fixed_of q
    → is_out p.state ≡ false → is_out (process_at n s).state ≡ false → frame (record w { slots = slice_set w.slots s p; ready = r; waits = v; renewed = k; deliveries = l }) ≡ frame n
framed_home w n s q p r v k l is b e fixed a h = framed w n s q p r v k l is e fixed (no_loan p q a (home_of w n s q is b e h))

-- one that is out before and after
pub framed_out : (w n : TableState) (s : ℕ) (q p : Process) (r : List (List ℕ)) (v : List (ℕ × ℕ)) (k : Option ℕ) (l : List Delivery) → w ≡ n → s < length n.slots → q ≡ get_or w.slots s q → fixed_of p ≡ fixed_of q
    → is_out p.state ≡ true → is_out (process_at n s).state ≡ true → p.schedule.ticks ≡ q.schedule.ticks → frame (record w { slots = slice_set w.slots s p; ready = r; waits = v; renewed = k; deliveries = l }) ≡ frame n
framed_out w n s q p r v k l is b e fixed a h t = framed w n s q p r v k l is e fixed (out_loan p q a (ap (λ (x : Process). is_out x.state) (the_process w n s q is b e) ∙ h) t)

-- one slot is another process's
pub put_new : (w n : TableState) (s : ℕ) (p : Process) (r : List (List ℕ)) → w ≡ n → frame (record w { slots = slice_set w.slots s p; ready = r }) ≡ frame_with_process (frame n) s p
unfolding frame
put_new w n s p r v =
    same (map fixed_of (slice_set w.slots s p)) (slice_set (map fixed_of w.slots) s (fixed_of p)) (map loan_of (slice_set w.slots s p)) (slice_set (map loan_of w.slots) s (loan_of p)) w.uptime w.devices
    (map-put fixed_of w.slots s p) (map-put loan_of w.slots s p) ∙ ap (λ x. frame_with_process (frame x) s p) v

-- and the frame has that process
pub put : (w n : TableState) (s : ℕ) (p : Process) (r : List (List ℕ)) → w ≡ n → s < length n.slots
    → frame (record w { slots = slice_set w.slots s p; ready = r }) ≡ frame_with_process (frame n) s (process_at (with_process w s p) s)
put w n s p r v b = put_new w n s p r v ∙ ap (frame_with_process (frame n) s) (sym (process-same w (with_process w s p) s p (subst (λ (x : TableState). s < length x.slots) (sym v) b) refl))
