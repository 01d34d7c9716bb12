-- Machines that are the same but for one image are twins, and twins are such machines.
use Rattle.std.proofs.Common.{◌≡◌, ◌≢◌, ◌∙◌, ℕ, zero, suc, ◌==◌, Bool, true, false, cond, List, [], ◌∷◌, map, length, Option, Some, None, refl, sym, ap, subst, get_or, inl, inr, arith}
use Rattle.std.proofs.lemmas.Bool.{cases_eq, eq-eqb, ne_eqb}
use Rattle.mx_exec.specs.Image.{blank}
use Rattle.mx_proc.specs.declared.process.Process.{Process}
use Rattle.mx_proc.specs.TableState.{TableState, nobody, process_at}
use Rattle.mx_machine.specs.World.{World, HeldProcess}
use Rattle.mx_laws.specs.Same.{held_but, SameBut, SameTableBut}
use Rattle.mx_laws.proofs.Twins.{is_slot, image_seen, Alike, AllAlike, Twins}
use Rattle.mx_laws.proofs.TwinWorlds.{held_seen, TwinWorlds}
use Rattle.mx_laws.proofs.TwinLemmas.{at, other_at, other_slot, slots_of}
use Rattle.mx_laws.proofs.SoundTwins.{is_own_slot}

-- ---- lists of processes

list_same : (ps rs : List Process) → length ps ≡ length rs → ((s : ℕ) → get_or ps s nobody ≡ get_or rs s nobody) → ps ≡ rs
list_same [] [] n f = refl
list_same [] (r ∷ rs) n f = absurd (omega (arith, n))
list_same (p ∷ ps) [] n f = absurd (omega (arith, n))
list_same (p ∷ ps) (r ∷ rs) n f = ap (λ x. x ∷ ps) (f zero) ∙ ap (λ xs. r ∷ xs) (list_same ps rs (omega (arith, n)) (λ s. f (suc s)))

all_alike : (q : ℕ) (ps rs : List Process) → length ps ≡ length rs → ((s : ℕ) → s ≢ q → get_or ps s nobody ≡ get_or rs s nobody) → Alike true (get_or ps q nobody) (get_or rs q nobody) → AllAlike q ps rs
all_alike q [] [] n f a = tt
all_alike q [] (r ∷ rs) n f a = absurd (omega (arith, n))
all_alike q (p ∷ ps) [] n f a = absurd (omega (arith, n))
all_alike zero (p ∷ ps) (r ∷ rs) n f a = (a, list_same ps rs (omega (arith, n)) (λ s. f (suc s) (λ e. cc)))
all_alike (suc q) (p ∷ ps) (r ∷ rs) n f a = (f zero (λ e. cc), all_alike q ps rs (omega (arith, n)) (λ s m. f (suc s) (λ e. m (omega (arith, e)))) a)

-- ---- tables

twins_of : (q : ℕ) (w v : TableState) → SameTableBut q w v → Twins q w v
twins_of q w v h = record {
  rest = h.rest;
  slots = all_alike q w.slots v.slots h.slots h.others (record { same = h.own.same; limit = h.own.limit; left = λ b z. h.own.left z; right = λ b z. h.own.right z });
}

of_twins : (q : ℕ) (w v : TableState) → Twins q w v → SameTableBut q w v
of_twins q w v h =
    let k : Alike true (process_at w q) (process_at v q) = subst (λ b. Alike b (process_at w q) (process_at v q)) (is_own_slot q) (at h q) in
    record {
      slots = slots_of h;
      others = λ s n. other_at h s (other_slot q s (λ e. n (sym e)));
      own = record { same = k.same; limit = k.limit; left = λ z. k.left refl z; right = λ z. k.right refl z };
      rest = h.rest;
    }

-- ---- what processors hold

slot_test : (q s : ℕ) → (s == q) ≡ is_slot q s
slot_test q s = elim (cases_eq s q) [
  | inl e ↦ eq-eqb s q e ∙ sym (subst (λ n. is_slot q n ≡ true) (sym e) (is_own_slot q))
  | inr n ↦ ne_eqb s q n ∙ sym (other_slot q s (λ e. n (sym e)))
]

abbrev blanked : HeldProcess → HeldProcess
blanked l = record l { out = record l.out { image = blank } }

shown_by : (l : HeldProcess) (b : Bool) → cond b (blanked l) l ≡ (let x : HeldProcess = record l { out = record l.out { image = image_seen b l.out.image } } in x)
shown_by l true = refl
shown_by l false = refl

held_is : (q : ℕ) (x : Option HeldProcess) → held_but q x ≡ held_seen q x
held_is q None = refl
held_is q (Some l) = ap (λ b. Some (cond b (blanked l) l)) (slot_test q l.slot) ∙ ap Some (shown_by l (is_slot q l.slot))

all_held_are : (q : ℕ) (xs : List (Option HeldProcess)) → map (held_but q) xs ≡ map (held_seen q) xs
all_held_are q [] = refl
all_held_are q (x ∷ xs) = ap (λ y. y ∷ map (held_but q) xs) (held_is q x) ∙ ap (λ ys. held_seen q x ∷ ys) (all_held_are q xs)

-- ---- machines

pub twin_worlds_of : (q : ℕ) (w v : World) → SameBut q w v → TwinWorlds q w v
twin_worlds_of q w v h = record {
  table = twins_of q w.table v.table h.table;
  cpus = sym (all_held_are q w.cpus) ∙ h.cpus ∙ all_held_are q v.cpus;
  frame = h.frame;
}

pub of_twin_worlds : (q : ℕ) (w v : World) → TwinWorlds q w v → SameBut q w v
of_twin_worlds q w v h = record {
  table = of_twins q w.table v.table h.table;
  cpus = all_held_are q w.cpus ∙ h.cpus ∙ sym (all_held_are q v.cpus);
  frame = h.frame;
}
