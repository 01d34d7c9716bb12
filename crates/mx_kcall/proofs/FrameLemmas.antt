use Rattle.std.proofs.Common.{◌≡◌, ◌∙◌, ap, sym, length}
use Rattle.std.proofs.lemmas.List.{length-map}
use Rattle.mx_respawn.specs.Proc.Frame.{Frame, frame, fixed_of}
use Rattle.mx_respawn.specs.Proc.TableState.{TableState}

-- a frame that stays has its devices
pub kept_frame : (w n : TableState) → frame w ≡ frame n → frame w ≡ record (frame n) { devices = w.devices }
unfolding frame
kept_frame w n e = ap (λ (f : Frame). let g : Frame = record f { devices = w.devices } in g) e

pub same_devices : (w n : TableState) → frame w ≡ frame n → w.devices ≡ n.devices
unfolding frame
same_devices w n e = ap (λ (f : Frame). f.devices) e

pub same_uptime : (w n : TableState) → frame w ≡ frame n → w.uptime ≡ n.uptime
unfolding frame
same_uptime w n e = ap (λ (f : Frame). f.uptime) e

pub same_used : (w n : TableState) → frame w ≡ frame n → length w.slots ≡ length n.slots
unfolding frame
same_used w n e = sym (length-map w.slots fixed_of) ∙ ap (λ (f : Frame). length f.fixed) e ∙ length-map n.slots fixed_of
