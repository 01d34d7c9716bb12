-- Sound machines with different images of one process are the same but for it; and what is the same of two such.
use Rattle.std.proofs.Common.{◌≡◌, ◌≢◌, ◌∙◌, ℕ, zero, suc, Bool, true, List, [], ◌∷◌, map, Option, Some, None, length, refl, sym, ap, get_or, slice_set}
use Rattle.mx_exec.specs.declared.image.Image.{Image}
use Rattle.mx_exec.specs.Image.{blank}
use Rattle.mx_proc.specs.declared.process.Process.{Process}
use Rattle.mx_proc.specs.Sound.{Sound}
use Rattle.mx_proc.specs.TableState.{TableState, nobody, with_image, memory_at}
use Rattle.mx_machine.specs.World.{World, HeldProcess, held_by}
use Rattle.mx_laws.proofs.Twins.{image_seen, is_slot, HasRoom, AllAlike}
use Rattle.mx_laws.specs.Same.{world_with_image, world_with_image_held}
use Rattle.mx_laws.proofs.TwinWorlds.{held_seen, TwinWorlds}
use Rattle.mx_laws.specs.SecrecyLaws.{IsElsewhereSame}
use Rattle.mx_laws.proofs.TwinLemmas.{other_slot, other_at, all_but_image_at, devices_of}
use Rattle.mx_laws.proofs.MoveLemmas.{same_held, held_alike}

alike_imaged : (q : ℕ) (ps : List Process) (r : Process) → r ≡ (let n : Process = record (get_or ps q nobody) { image = r.image } in n) → length r.image.memory ≡ length (get_or ps q nobody).image.memory
    → HasRoom true (get_or ps q nobody) → HasRoom true (get_or (slice_set ps q r) q nobody) → AllAlike q ps (slice_set ps q r)
alike_imaged q [] r e n f g = tt
alike_imaged zero (p ∷ ps) r e n f g = (record { same = ap (λ (x : Process). let y : Process = record x { image = blank } in y) (sym e); limit = sym n; left = f; right = g }, refl)
alike_imaged (suc q) (p ∷ ps) r e n f g = (refl, alike_imaged q ps r e n f g)

pub sound_twins : (q : ℕ) (w : World) (m : Image) → Sound w.table → Sound (with_image w.table q m) → length m.memory ≡ length (memory_at w.table q) → TwinWorlds q w (world_with_image w q m)
sound_twins q w m h k n = record {
  table = record { rest = refl; slots = alike_imaged q w.table.slots (record (get_or w.table.slots q nobody) { image = m }) refl n (λ t z. (h.each q).process.buffer z) (λ t z. (k.each q).process.buffer z) };
  cpus = refl;
  frame = refl;
}

-- ---- another image on a processor

pub is_own_slot : (s : ℕ) → is_slot s s ≡ true
is_own_slot zero = refl
is_own_slot (suc s) = is_own_slot s

all_alike_itself : (q : ℕ) (ps : List Process) → HasRoom true (get_or ps q nobody) → AllAlike q ps ps
all_alike_itself q [] f = tt
all_alike_itself zero (p ∷ ps) f = (record { same = refl; limit = refl; left = f; right = f }, refl)
all_alike_itself (suc q) (p ∷ ps) f = (refl, all_alike_itself q ps f)

seen_set : (q : ℕ) (xs : List (Option HeldProcess)) (a : ℕ) (x y : Option HeldProcess) → get_or xs a None ≡ x → held_seen q x ≡ held_seen q y → map (held_seen q) xs ≡ map (held_seen q) (slice_set xs a y)
seen_set q [] a x y e f = refl
seen_set q (z ∷ xs) zero x y e f = ap (λ k. k ∷ map (held_seen q) xs) (ap (held_seen q) e ∙ f)
seen_set q (z ∷ xs) (suc a) x y e f = ap (λ k. held_seen q z ∷ k) (seen_set q xs a x y e f)

abbrev with_seen : HeldProcess → Bool → Image → Option HeldProcess
with_seen l b m = Some (record l { out = record l.out { image = image_seen b m } })

image_hidden : (l : HeldProcess) (m : Image) → with_seen l (is_slot l.slot l.slot) l.out.image ≡ with_seen l (is_slot l.slot l.slot) m
image_hidden l m = ap (λ b. with_seen l b l.out.image) (is_own_slot l.slot) ∙ sym (ap (λ b. with_seen l b m) (is_own_slot l.slot))

pub held_twins : (w : World) (a : ℕ) (l : HeldProcess) (m : Image) → Sound w.table → held_by w a ≡ Some l → TwinWorlds l.slot w (world_with_image_held w a l m)
held_twins w a l m h e = record {
  table = record { rest = refl; slots = all_alike_itself l.slot w.table.slots (λ t z. (h.each l.slot).process.buffer z) };
  cpus = seen_set l.slot w.cpus a (Some l) (Some (record l { out = record l.out { image = m } })) e (image_hidden l m);
  frame = refl;
}

-- ---- what is the same

other_held : (q : ℕ) (w v : World) (a : ℕ) (l : HeldProcess) → TwinWorlds q w v → held_by w a ≡ Some l → q ≢ l.slot → held_by v a ≡ Some l
other_held q w v a l h e n =
    let f : held_seen q (Some l) ≡ held_seen q (held_by v a) = ap (held_seen q) (sym e) ∙ held_alike h a in
    sym (same_held q (Some l) (held_by v a) f n)

pub else_same : (q : ℕ) (w v : World) → TwinWorlds q w v → IsElsewhereSame q w v
else_same q w v h = record {
  others = λ s n. other_at h.table s (other_slot q s n);
  own = all_but_image_at h.table q;
  held = λ a l e n. other_held q w v a l h e n;
  devices = devices_of h.table;
  deliveries = ap (λ (t : TableState). t.deliveries) h.table.rest;
  records = ap (λ (x : World). x.records) h.frame;
}
