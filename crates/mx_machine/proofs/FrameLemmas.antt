-- What frames say of each slot.
use Rattle.std.proofs.Common.{◌≡◌, ◌∙◌, ℕ, zero, suc, List, [], ◌∷◌, map, length, None, get_or, slice_set, get_or-set_other, length-set, refl, ap, sym, arith}
use Rattle.std.proofs.lemmas.List.{length-map}
use Rattle.mx_ipc.specs.Proc.declared.process.Process.{Process}
use Rattle.mx_ipc.specs.Proc.declared.devices.Devices.{Devices}
use Rattle.mx_ipc.specs.Proc.Console.{ConsoleState}
use Rattle.mx_ipc.specs.Proc.Frame.{Frame, fixed_of, loan_of, frame, frame_with_process}
use Rattle.mx_ipc.specs.Proc.TableState.{TableState, nobody, process_at}
use Rattle.mx_machine.specs.Serving.{KeepsBut, WritesAtMostOne}

-- All slots keep what is fixed of them, and whether they are out.
pub record Keeps (t u : TableState) : Type 0 where
  pub fixed : (q : ℕ) → fixed_of (process_at u q) ≡ fixed_of (process_at t q)
  pub loans : (q : ℕ) → loan_of (process_at u q) ≡ loan_of (process_at t q)
  pub used : length u.slots ≡ length t.slots

get_or-mapped : {X Y : Type 0} (f : X → Y) (xs : List X) (i : ℕ) (d : X) → get_or (map f xs) i (f d) ≡ f (get_or xs i d)
get_or-mapped f [] i d = refl
get_or-mapped f (x ∷ xs) zero d = refl
get_or-mapped f (x ∷ xs) (suc i) d = get_or-mapped f xs i d

fixed-at : (t : TableState) (s : ℕ) → get_or (frame t).fixed s (fixed_of nobody) ≡ fixed_of (process_at t s)
unfolding frame
fixed-at t s = get_or-mapped fixed_of t.slots s nobody

loan-at : (t : TableState) (s : ℕ) → get_or (frame t).loans s None ≡ loan_of (process_at t s)
unfolding frame
loan-at t s = get_or-mapped loan_of t.slots s nobody

slots-of : (t : TableState) → length (frame t).fixed ≡ length t.slots
unfolding frame
slots-of t = length-map t.slots fixed_of

devices-of : (t : TableState) → (frame t).devices ≡ t.devices
unfolding frame
devices-of t = refl

uptime-of : (t : TableState) → (frame t).uptime ≡ t.uptime
unfolding frame
uptime-of t = refl

-- the same processes out, and the same fixed of each
pub keeps : (t u : TableState) (f : Frame) → frame u ≡ f → f.fixed ≡ (frame t).fixed → f.loans ≡ (frame t).loans → Keeps t u
keeps t u f e fixed loans =
    let x : (frame u).fixed ≡ (frame t).fixed = ap (λ (f : Frame). f.fixed) e ∙ fixed in
    let l : (frame u).loans ≡ (frame t).loans = ap (λ (f : Frame). f.loans) e ∙ loans in
    record {
      fixed = λ q. sym (fixed-at u q) ∙ ap (λ xs. get_or xs q (fixed_of nobody)) x ∙ fixed-at t q;
      loans = λ q. sym (loan-at u q) ∙ ap (λ xs. get_or xs q None) l ∙ loan-at t q;
      used = sym (slots-of u) ∙ ap length x ∙ slots-of t;
    }

-- a frame where all is as it was
pub keeps_frame : (t u : TableState) → frame u ≡ frame t → Keeps t u
keeps_frame t u e = keeps t u (frame t) e refl refl

-- or all but the devices
pub keeps_but_devices : (t u : TableState) (d : Devices) → frame u ≡ (let f : Frame = record (frame t) { devices = d } in f) → Keeps t u
keeps_but_devices t u d e = keeps t u (record (frame t) { devices = d }) e refl refl

pub keeps_but_uptime : (t u : TableState) (n : ℕ) → frame u ≡ (let f : Frame = record (frame t) { uptime = n } in f) → Keeps t u
keeps_but_uptime t u n e = keeps t u (record (frame t) { uptime = n }) e refl refl

-- one slot is another process's
pub keeps_others : (t u : TableState) (s : ℕ) (p : Process) → frame u ≡ frame_with_process (frame t) s p → KeepsBut s t u
keeps_others t u s p e =
    let x : (frame u).fixed ≡ slice_set (frame t).fixed s (fixed_of p) = ap (λ (f : Frame). f.fixed) e in
    let l : (frame u).loans ≡ slice_set (frame t).loans s (loan_of p) = ap (λ (f : Frame). f.loans) e in
    record {
      fixed = λ q n. sym (fixed-at u q) ∙ ap (λ xs. get_or xs q (fixed_of nobody)) x ∙ get_or-set_other (frame t).fixed s q (fixed_of p) (fixed_of nobody) n ∙ fixed-at t q;
      loans = λ q n. sym (loan-at u q) ∙ ap (λ xs. get_or xs q None) l ∙ get_or-set_other (frame t).loans s q (loan_of p) None n ∙ loan-at t q;
      used = sym (slots-of u) ∙ ap length x ∙ length-set (frame t).fixed s (fixed_of p) ∙ slots-of t;
    }

pub same_devices : (t u : TableState) (f : Frame) → frame u ≡ f → f.devices ≡ (frame t).devices → u.devices ≡ t.devices
same_devices t u f e d = sym (devices-of u) ∙ ap (λ (f : Frame). f.devices) e ∙ d ∙ devices-of t

pub same_uptime : (t u : TableState) (f : Frame) → frame u ≡ f → f.uptime ≡ (frame t).uptime → u.uptime ≡ t.uptime
same_uptime t u f e d = sym (uptime-of u) ∙ ap (λ (f : Frame). f.uptime) e ∙ d ∙ uptime-of t

-- one after another
pub then_but : (s : ℕ) (t u v : TableState) → KeepsBut s t u → KeepsBut s u v → KeepsBut s t v
then_but s t u v a b = record {
  fixed = λ q n. b.fixed q n ∙ a.fixed q n;
  loans = λ q n. b.loans q n ∙ a.loans q n;
  used = b.used ∙ a.used;
}

pub but_all : (s : ℕ) (t u : TableState) → Keeps t u → KeepsBut s t u
but_all s t u k = record { fixed = λ q n. k.fixed q; loans = λ q n. k.loans q; used = k.used }

-- a frame that stays has its devices
pub kept_frame : (t u : TableState) → frame u ≡ frame t → frame u ≡ (let f : Frame = record (frame t) { devices = u.devices } in f)
unfolding frame
kept_frame t u e = ap (λ (f : Frame). let g : Frame = record f { devices = u.devices } in g) e

pub same_written : (t u : TableState) → frame u ≡ frame t → WritesAtMostOne t u
same_written t u e = let d : u.devices.console.count ≡ t.devices.console.count = ap (λ (d : Devices). d.console.count) (same_devices t u (frame t) e refl) in omega (arith, d)

pub uptime_is : (t u : TableState) (n : ℕ) → frame u ≡ (let f : Frame = record (frame t) { uptime = n } in f) → u.uptime ≡ n
uptime_is t u n e = sym (uptime-of u) ∙ ap (λ (f : Frame). f.uptime) e

pub uptime_written : (t u : TableState) (n : ℕ) → frame u ≡ (let f : Frame = record (frame t) { uptime = n } in f) → WritesAtMostOne t u
uptime_written t u n e = let d : u.devices.console.count ≡ t.devices.console.count = ap (λ (d : Devices). d.console.count) (same_devices t u (record (frame t) { uptime = n }) e refl) in omega (arith, d)

pub same_console : (t u : TableState) → u.devices.console ≡ t.devices.console → WritesAtMostOne t u
same_console t u e = let d : u.devices.console.count ≡ t.devices.console.count = ap (λ (c : ConsoleState). c.count) e in omega (arith, d)
