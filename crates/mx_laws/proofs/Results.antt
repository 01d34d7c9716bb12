-- The result that items leave in EAX.
use Rattle.std.proofs.Common.{◌≡◌, ◌≢◌, ◌∙◌, ℕ, ◌==◌, ◌&&◌, ◌||◌, Bool, true, false, cond, List, [], ◌∷◌, Some, None, refl, sym, ap, inl, inr}
use Rattle.mx_exec.specs.declared.image.Image.{Image}
use Rattle.mx_proc.specs.States.{is_blocked}
use Rattle.mx_proc.specs.TableState.{process_at}
use Rattle.mx_machine.specs.declared.events.Event.{Event}
use Rattle.mx_machine.specs.declared.events.Event.TheVariants.{Step}
use Rattle.mx_machine.specs.World.{World}
use Rattle.mx_laws.specs.Diary.{Item, items_for, play}
use Rattle.mx_laws.specs.Diary.Item.{Ran, Result, Message, Copy}
use Rattle.mx_laws.specs.Entries.{AreEntries, caller_in}
use Rattle.mx_laws.specs.Told.{result_after, result_written}
use Rattle.mx_laws.proofs.ReadyCalls.{gives, is_result}

-- some item is a result
abbrev pub has_result : List Item → Bool
has_result [] = false
has_result (x ∷ xs) = is_result x || has_result xs

-- none is a step
abbrev pub HaveNoStep : List Item → Type 0
HaveNoStep [] = Unit {0}
HaveNoStep (Ran ∷ xs) = ⊥
HaveNoStep (Result r ∷ xs) = HaveNoStep xs
HaveNoStep (Message bytes ∷ xs) = HaveNoStep xs
HaveNoStep (Copy place bytes ∷ xs) = HaveNoStep xs

pub result_for : (q : ℕ) (xs : List (ℕ × Item)) → has_result (items_for q xs) ≡ gives q xs
result_for q [] = refl
result_for q (x ∷ xs) = by_bool (x.0 == q) (result_for q xs)
  where
    by_bool : (b : Bool) → has_result (items_for q xs) ≡ gives q xs → has_result (cond b (x.1 ∷ items_for q xs) (items_for q xs)) ≡ ((b && is_result x.1) || gives q xs)
    by_bool true f = ap (λ z. is_result x.1 || z) f
    by_bool false f = f

last_result : (xs : List Item) (m : Image) → HaveNoStep xs → Some (play xs m).regs.eax ≡ result_after (Some m.regs.eax) xs
last_result [] m h = refl
last_result (Ran ∷ xs) m h = absurd h
last_result (Result r ∷ xs) m h = last_result xs (record m { regs = record m.regs { eax = r } }) h
last_result (Message bytes ∷ xs) m h = last_result xs _ h
last_result (Copy place bytes ∷ xs) m h = last_result xs _ h

-- EAX after the items, if one of them is a result
pub result_played : (xs : List Item) (m : Image) → HaveNoStep xs → cond (has_result xs) (Some (play xs m).regs.eax) None ≡ result_written xs
result_played [] m h = refl
result_played (Ran ∷ xs) m h = absurd h
result_played (Result r ∷ xs) m h = last_result xs (record m { regs = record m.regs { eax = r } }) h
result_played (Message bytes ∷ xs) m h = result_played xs _ h
result_played (Copy place bytes ∷ xs) m h = result_played xs _ h

pub none_written : (xs : List Item) (m : Image) → HaveNoStep xs → has_result xs ≡ false → result_written xs ≡ None
none_written xs m h e = sym (result_played xs m h) ∙ ap (λ b. cond b (Some (play xs m).regs.eax) None) e

-- ---- by the entries of a diary

pub entries_no_step : (w : World) (a : ℕ) (e : Event) (s : ℕ) (xs : List Item) → e ≢ Step → AreEntries w a e s xs → HaveNoStep xs
entries_no_step w a e s [] n h = tt
entries_no_step w a e s (Ran ∷ xs) n h = n h.0.0
entries_no_step w a e s (Result r ∷ xs) n h = entries_no_step w a e s xs n h.1
entries_no_step w a e s (Message bytes ∷ xs) n h = entries_no_step w a e s xs n h.1
entries_no_step w a e s (Copy place bytes ∷ xs) n h = entries_no_step w a e s xs n h.1

-- who neither calls nor waits has no result
pub entries_no_result : (w : World) (a : ℕ) (e : Event) (s : ℕ) (xs : List Item) → caller_in w a e ≢ Some s → is_blocked (process_at w.table s).state ≡ false
    → AreEntries w a e s xs → has_result xs ≡ false
entries_no_result w a e s [] n idle h = refl
entries_no_result w a e s (Ran ∷ xs) n idle h = entries_no_result w a e s xs n idle h.1
entries_no_result w a e s (Result r ∷ xs) n idle h = elim h.0 [
  | inl own ↦ absurd (n own)
  | inr waits ↦ absurd (both waits idle)
]
  where
    both : {b : Bool} → b ≡ true → b ≡ false → ⊥
    both e f = cc
entries_no_result w a e s (Message bytes ∷ xs) n idle h = entries_no_result w a e s xs n idle h.1
entries_no_result w a e s (Copy place bytes ∷ xs) n idle h = entries_no_result w a e s xs n idle h.1
