-- One service more at boot.
use Rattle.std.proofs.Common.{◌≡◌, ◌≢◌, ◌∙◌, ◌<◌, ◌≤◌, ◌^◌, ℕ, zero, suc, ◌+◌, ◌-◌, ◌*◌, Bool, true, false, List, [], ◌∷◌, ◌++◌, map, replicate, length, slice_set, slice_get, get_or, Option, Some, None, inl, inr, refl, sym, ap, arith, subst, length-append}
use Rattle.std.specs.List.{range_with_len}
use Rattle.std.proofs.lemmas.Bool.{cases_eq, eq-eqb, ne_eqb}
use Rattle.std.proofs.lemmas.List.{map-append, length-map, length-replicate}
use Rattle.std.proofs.lemmas.List.Elements.{All-nil}
use Rattle.std.proofs.lemmas.List.FromFn.{get_or-map-range_with_len}
use Rattle.mx_aout.specs.Limits.{rounded_to_pages, used_of}
use Rattle.mx_aout.specs.declared.program.Program.{Program}
use Rattle.mx_exec.specs.declared.image.Code.{Code}
use Rattle.mx_machine.specs.Load.{image_of_program, contents_of, filled_to, code_of_text, IsLoadedFrom}
use Rattle.mx_ipc.specs.Proc.declared.process.Process.{Process}
use Rattle.mx_ipc.specs.Proc.declared.process.State.TheVariants.{Home}
use Rattle.mx_ipc.specs.Proc.declared.windows.Rules.{Rules}
use Rattle.mx_ipc.specs.Proc.TableState.{TableState, empty_table, table_after_add, nobody}
use Rattle.mx_ipc.specs.Proc.Frame.{loan_of}
use Rattle.mx_ipc.specs.Proc.Queues.{list_at}
use Rattle.mx_machine.specs.Service.{Service}
use Rattle.mx_machine.specs.declared.holding.Lease.{Lease}
use Rattle.mx_machine.specs.declared.history.Record.{Record}
use Rattle.mx_machine.specs.World.{HeldProcess, out_count}
use Rattle.mx_machine.specs.Boot.{first_process, slots_from, first_table, world_at_boot_with}
use Rattle.mx_machine.specs.Sound.{IsConsistent, lease_of}
use Rattle.mx_machine.specs.History.{replay}
use Rattle.mx_machine.specs.Agrees.{IsAtReplay}
use Rattle.mx_machine.specs.KernelState.{KernelState}

same_values : {X : Type 0} (f g : ℕ → X) (a n : ℕ) → ((j : ℕ) → a ≤ j → g j ≡ f j) → map g (range_with_len a n) ≡ map f (range_with_len a n)
same_values f g a zero h = refl
same_values f g a (suc n) h = ap (λ x. x ∷ map g (range_with_len (a + 1) n)) (h a (omega arith))
    ∙ ap (λ l. f a ∷ l) (same_values f g (a + 1) n (λ j b. h j (omega arith)))

-- where two functions differ at one place only, so do their tables
pub map-set : {X : Type 0} (f g : ℕ → X) (a n i k : ℕ) → i < n → a + i ≡ k → ((j : ℕ) → j ≢ k → g j ≡ f j)
    → map g (range_with_len a n) ≡ slice_set (map f (range_with_len a n)) i (g k)
map-set f g a zero i k below is others = absurd (omega arith)
map-set f g a (suc n) zero k below is others = let e : a ≡ k = omega arith in
    ap (λ x. x ∷ map g (range_with_len (a + 1) n)) (ap g e) ∙ ap (λ l. g k ∷ l) (same_values f g (a + 1) n (λ j b. let m : j ≢ k = omega arith in others j m))
map-set f g a (suc n) (suc i) k below is others = let m : a ≢ k = omega arith in
    ap (λ x. x ∷ map g (range_with_len (a + 1) n)) (others a m) ∙ ap (λ l. f a ∷ l) (map-set f g (a + 1) n i k (omega arith) (omega arith) others)

-- the slots of a level with one service more after the others
slots-more_same : (n level : ℕ) (ss : List Service) (s : Service) → s.terms.level ≡ level → slots_from n level (ss ++ s ∷ []) ≡ slots_from n level ss ++ (n + length ss) ∷ []
slots-more_same n level [] s e = rw (eq-eqb s.terms.level level e) (let z : n ≡ n + 0 = omega arith in ap (λ k. k ∷ []) z)
slots-more_same n level (x ∷ xs) s e =
    let i : slots_from (n + 1) level (xs ++ s ∷ []) ≡ slots_from (n + 1) level xs ++ (n + length (x ∷ xs)) ∷ [] =
    slots-more_same (n + 1) level xs s e ∙ ap (λ k. slots_from (n + 1) level xs ++ k ∷ []) (let z : n + 1 + length xs ≡ n + suc (length xs) = omega arith in z) in
    elim (cases_eq x.terms.level level) [
      | inl y ↦ rw (eq-eqb x.terms.level level y) (ap (λ l. n ∷ l) i)
      | inr m ↦ rw (ne_eqb x.terms.level level m) i
    ]

slots-more_other : (n level : ℕ) (ss : List Service) (s : Service) → level ≢ s.terms.level → slots_from n level (ss ++ s ∷ []) ≡ slots_from n level ss
slots-more_other n level [] s e = rw (ne_eqb s.terms.level level (λ z. e (sym z))) refl
slots-more_other n level (x ∷ xs) s e = elim (cases_eq x.terms.level level) [
  | inl y ↦ rw (eq-eqb x.terms.level level y) (ap (λ l. n ∷ l) (slots-more_other (n + 1) level xs s e))
  | inr m ↦ rw (ne_eqb x.terms.level level m) (slots-more_other (n + 1) level xs s e)
]

pub first-empty : (rules : Rules) → first_table rules [] ≡ empty_table rules
unfolding first_table
first-empty rules = refl

-- the table of one service more
pub first-more : (rules : Rules) (ss : List Service) (s : Service) → s.terms.level ≤ 14 → first_table rules (ss ++ s ∷ []) ≡ table_after_add (first_table rules ss) (image_of_program s.program) s.terms
unfolding first_table
first-more rules ss s low =
    let f = λ (level : ℕ). slots_from 0 level ss in
    let g = λ (level : ℕ). slots_from 0 level (ss ++ s ∷ []) in
    let there : g s.terms.level ≡ list_at (map f (range_with_len 0 16)) s.terms.level ++ length (map first_process ss) ∷ [] =
    slots-more_same 0 s.terms.level ss s refl
    ∙ ap (λ l. l ++ (0 + length ss) ∷ []) (sym (get_or-map-range_with_len f 0 16 s.terms.level s.terms.level [] (omega arith) (omega arith)))
    ∙ ap (λ k. list_at (map f (range_with_len 0 16)) s.terms.level ++ k ∷ []) (let z : 0 + length ss ≡ length (map first_process ss) = omega (arith, length-map ss first_process) in z) in
    let ready : map g (range_with_len 0 16) ≡ slice_set (map f (range_with_len 0 16)) s.terms.level (list_at (map f (range_with_len 0 16)) s.terms.level ++ length (map first_process ss) ∷ []) =
    map-set f g 0 16 s.terms.level s.terms.level (omega arith) (omega arith) (λ j m. slots-more_other 0 j ss s m)
    ∙ ap (slice_set (map f (range_with_len 0 16)) s.terms.level) there in
    let slots : map first_process (ss ++ s ∷ []) ≡ map first_process ss ++ first_process s ∷ [] = map-append first_process ss (s ∷ []) in
    ap (λ l. let w : TableState = record (empty_table rules) { slots = l; ready = map g (range_with_len 0 16) } in w) slots
    ∙ ap (λ r. let w : TableState = record (empty_table rules) { slots = map first_process ss ++ first_process s ∷ []; ready = r } in w) ready

pub first-used : (rules : Rules) (ss : List Service) → length (first_table rules ss).slots ≡ length ss
unfolding first_table
first-used rules ss = length-map ss first_process

-- ---- what holds at boot

each_first : (P : Process → Type 0) → ((s : Service) → P (first_process s)) → P nobody → (ss : List Service) (n : ℕ) → P (get_or (map first_process ss) n nobody)
each_first P f z [] n = z
each_first P f z (s ∷ ss) zero = f s
each_first P f z (s ∷ ss) (suc n) = each_first P f z ss n

first-at : (ss : List Service) (n : ℕ) (v : Service) → slice_get ss n ≡ Some v → get_or (map first_process ss) n nobody ≡ first_process v
first-at [] n v h = cc
first-at (s ∷ ss) zero v h = ap first_process (let e : s ≡ v = cc in e)
first-at (s ∷ ss) (suc n) v h = first-at ss n v h

contents_fit : (sep : Bool) (text init : List ℕ) (bss limit : ℕ) → used_of sep (length text) (length init) bss ≤ limit → length (contents_of sep text init) ≤ limit
contents_fit true text init bss limit h = omega arith
contents_fit false text init bss limit h = omega (arith, length-append text init)

filled-length : (limit : ℕ) (bytes : List ℕ) → length bytes ≤ limit → length (filled_to limit bytes) ≡ limit
filled-length limit bytes h = omega (arith, length-append bytes (replicate (limit - length bytes) 0), length-replicate {A = ℕ} (limit - length bytes) 0)

loaded_from : (p : Program) → IsLoadedFrom (image_of_program p) p
loaded_from p = ap (λ (n : ℕ). let x : Code × ℕ = (code_of_text p.sep p.text, n) in x)
    (filled-length (rounded_to_pages p.total) (contents_of p.sep p.text p.init) (contents_fit p.sep p.text p.init p.bss (rounded_to_pages p.total) p.within.4))

-- as many times nothing
abbrev nothings : (X : Type 0) → ℕ → List (Option X)
nothings X n = replicate n None

none_at : (X : Type 0) (n a : ℕ) → get_or (nothings X n) a None ≡ None
none_at X zero a = refl
none_at X (suc n) zero = refl
none_at X (suc n) (suc a) = none_at X n a

none_out : (X : Type 0) (n : ℕ) → out_count (nothings X n) ≡ 0
none_out X zero = refl
none_out X (suc n) = none_out X n

pub boot_holds : (rules : Rules) (ss : List Service) (cpus capacity : ℕ) → capacity ≤ 2 ^ 20 → IsConsistent (first_table rules ss) (replicate cpus None) ss 0 capacity
unfolding first_table
boot_holds rules ss cpus capacity fits = record {
  room = omega (arith, none_out Lease cpus);
  size = fits;
  uptime = omega arith;
  console = omega arith;
  steps = λ s. each_first (λ p. p.steps ≤ 65535 * 0) (λ v. omega arith) (omega arith) ss s;
  settled = λ s. each_first (λ p. p.state ≢ Home) (λ v e. cc) (λ e. cc) ss s;
  leased = λ a x h. let z = none_at Lease cpus a in cc;
  lent = λ s n h. absurd (each_first (λ p. loan_of p ≡ Some n → ⊥) (λ v e. cc) (λ e. cc) ss s h);
  apart = λ a b x y h k same. let z = none_at Lease cpus a in cc;
  served = sym (length-map ss first_process);
  loaded = λ s v h home. subst (λ (p : Process). IsLoadedFrom p.image v.program) (sym (first-at ss s v h)) (loaded_from v.program);
}

no_lease : (n : ℕ) → map lease_of (replicate n None) ≡ replicate n None
no_lease zero = refl
no_lease (suc n) = ap (λ l. None ∷ l) (no_lease n)

pub boot_agrees : (rules : Rules) (ss : List Service) (cpus others capacity room : ℕ) (leases : List (Option Lease)) (items : List Record) → cpus ≤ 8 → leases ≡ replicate cpus None → items ≡ [] → capacity ≤ room
    → IsAtReplay (record { table = first_table rules ss; leases = leases; others = others; services = ss; records = 0; capacity = capacity }) room (record { boot = world_at_boot_with rules ss cpus others capacity; history = items })
unfolding replay
boot_agrees rules ss cpus others capacity room leases items eight idle none fits =
    subst (λ l. IsAtReplay (record { table = first_table rules ss; leases = leases; others = others; services = ss; records = 0; capacity = capacity }) room (record { boot = world_at_boot_with rules ss cpus others capacity; history = l })) (sym none)
    (record {
      present = ap (λ (l : List (Option Lease)). let d : KernelState = record { table = first_table rules ss; leases = l; others = others; services = ss; records = 0; capacity = capacity } in d) (idle ∙ sym (no_lease cpus));
      records = refl;
      space = fits;
      accepted = tt;
      sound = tt;
      few = omega (arith, length-replicate {A = Option HeldProcess} cpus None);
      as_many = refl;
      written = All-nil _;
      fresh = λ a l h. let z = none_at HeldProcess cpus a in cc;
    })
