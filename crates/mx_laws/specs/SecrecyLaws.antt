-- The laws of secrecy, as statements.
use Rattle.std.specs.Prelude.{◌≡◌, ◌≢◌, ℕ, List, Some, length}
use Rattle.mx_exec.specs.declared.image.Image.{Image}
use Rattle.mx_proc.specs.Sound.{Sound}
use Rattle.mx_proc.specs.TableState.{memory_at, process_at, with_image}
use Rattle.mx_machine.specs.declared.events.Event.{Event}
use Rattle.mx_machine.specs.Move.{move, moves}
use Rattle.mx_machine.specs.World.{World, HeldProcess, held_by}
use Rattle.mx_laws.specs.Apart.{IsApart, AreApart}
use Rattle.mx_laws.specs.Same.{SameBut, without_image, world_with_image, world_with_image_held}

-- ---- secrecy

-- An event is answered alike by two machines, and they are the same but for q's image after it.
pub record AnsweredAlike (q : ℕ) (w v : World) (a : ℕ) (e : Event) : Type 0 where
  pub answer : (move w a e).0 ≡ (move v a e).0
  pub world : SameBut q (move w a e).1 (move v a e).1

-- So are events in a row.
pub record AllAnsweredAlike (q : ℕ) (w v : World) (xs : List (ℕ × Event)) : Type 0 where
  pub answers : (moves w xs).0 ≡ (moves v xs).0
  pub world : SameBut q (moves w xs).1 (moves v xs).1

-- SECRECY: an event that is apart from q reveals nothing of q's image
abbrev pub TellsNothing : ℕ → World → World → ℕ → Event → Type 0
TellsNothing q w v a e = SameBut q w v → IsApart q w a e → AnsweredAlike q w v a e

-- nor do events in a row
abbrev pub TellNothing : ℕ → World → World → List (ℕ × Event) → Type 0
TellNothing q w v xs = SameBut q w v → AreApart q w xs → AllAnsweredAlike q w v xs

-- ---- rules

-- a machine runs by the same rules after an event, refused or not
abbrev pub KeepsRules : World → ℕ → Event → Type 0
KeepsRules w a e = (move w a e).1.table.rules ≡ w.table.rules

-- and after events in a row
abbrev pub KeepRules : World → List (ℕ × Event) → Type 0
KeepRules w xs = (moves w xs).1.table.rules ≡ w.table.rules

-- ---- what is the same

-- All of two machines but q's image is the same.
pub record IsElsewhereSame (q : ℕ) (w v : World) : Type 0 where
  -- every other process, and of q's all but the image
  pub others : (s : ℕ) → q ≢ s → process_at w.table s ≡ process_at v.table s
  pub own : without_image (process_at w.table q) ≡ without_image (process_at v.table q)
  -- what a processor holds of another process
  pub held : (a : ℕ) (l : HeldProcess) → held_by w a ≡ Some l → q ≢ l.slot → held_by v a ≡ Some l
  -- devices and console, the deliveries that are kept, and how many records there are
  pub devices : w.table.devices ≡ v.table.devices
  pub deliveries : w.table.deliveries ≡ v.table.deliveries
  pub records : w.records ≡ v.records

-- ---- where two such machines come from

-- Another image of the same limit may be in slot q: the table is sound with either.
pub record MayStandIn (w : World) (q : ℕ) (m : Image) : Type 0 where
  pub before : Sound w.table
  pub after : Sound (with_image w.table q m)
  pub limit : length m.memory ≡ length (memory_at w.table q)

abbrev pub HomeImageIsHidden : World → ℕ → Image → Type 0
HomeImageIsHidden w q m = MayStandIn w q m → SameBut q w (world_with_image w q m)

-- any image may be on a processor in place of the one that it holds
abbrev pub HeldImageIsHidden : World → ℕ → HeldProcess → Image → Type 0
HeldImageIsHidden w a l m = Sound w.table → held_by w a ≡ Some l → SameBut l.slot w (world_with_image_held w a l m)
