-- What always holds of a kernel, after an event.
use Rattle.std.proofs.Common.{◌≡◌, ◌≢◌, ◌∙◌, ℕ, zero, suc, ◌+◌, ◌-◌, ◌<◌, ◌≤◌, List, [], ◌∷◌, length, Option, Some, None, get_or, slice_set, slice_get, get_or-set_same, get_or-set_other, inl, inr, refl, ap, sym, subst, arith}
use Rattle.std.proofs.lemmas.Bool.{cases_eq}
use Rattle.mx_machine.specs.Load.{IsLoadedFrom}
use Rattle.mx_ipc.specs.Proc.Frame.{FixedOfProcess, loan_of}
use Rattle.mx_ipc.specs.Proc.TableState.{TableState, process_at}
use Rattle.mx_machine.specs.Service.{Service}
use Rattle.mx_machine.specs.declared.holding.Lease.{Lease}
use Rattle.mx_machine.specs.Sound.{IsConsistent, lease_at}
use Rattle.mx_machine.specs.World.{out_count}
use Rattle.mx_machine.proofs.FrameLemmas.{Keeps}
use Rattle.mx_machine.specs.Serving.{KeepsBut, Settled, WritesAtMostOne}

-- ---- processors that hold something

pub holds_in : {X : Type 0} (xs : List (Option X)) (a : ℕ) (x : X) → get_or xs a None ≡ Some x → a < length xs
holds_in [] a x e = cc
holds_in (y ∷ ys) zero x e = omega arith
holds_in (y ∷ ys) (suc a) x e = let h = holds_in ys a x e in omega arith

out_count-more : {X : Type 0} (xs : List (Option X)) (a : ℕ) (x : X) → a < length xs → get_or xs a None ≡ None → out_count (slice_set xs a (Some x)) ≡ suc (out_count xs)
out_count-more [] a x b e = absurd (omega arith)
out_count-more (None ∷ ys) zero x b e = refl
out_count-more (Some y ∷ ys) zero x b e = cc
out_count-more (None ∷ ys) (suc a) x b e = out_count-more ys a x (omega arith) e
out_count-more (Some y ∷ ys) (suc a) x b e = ap (λ n. suc n) (out_count-more ys a x (omega arith) e)

pub out_count-less : {X : Type 0} (xs : List (Option X)) (a : ℕ) (x : X) → get_or xs a None ≡ Some x → suc (out_count (slice_set xs a None)) ≡ out_count xs
out_count-less [] a x e = cc
out_count-less (None ∷ ys) zero x e = cc
out_count-less (Some y ∷ ys) zero x e = refl
out_count-less (None ∷ ys) (suc a) x e = out_count-less ys a x e
out_count-less (Some y ∷ ys) (suc a) x e = ap (λ n. suc n) (out_count-less ys a x e)

pub out_count-most : {X : Type 0} (xs : List (Option X)) → out_count xs ≤ length xs
out_count-most [] = omega arith
out_count-most (None ∷ ys) = let h = out_count-most ys in omega arith
out_count-most (Some y ∷ ys) = let h = out_count-most ys in omega arith

-- ---- an event that changes no slot's loan

pub holds_on : (t u : TableState) (ls : List (Option Lease)) (ss : List Service) (r c : ℕ) → IsConsistent t ls ss r c → Keeps t u → Settled u → u.uptime ≤ t.uptime + 1 → WritesAtMostOne t u → 1 ≤ c - (r + out_count ls)
    → IsConsistent u ls ss (r + 1) c
holds_on t u ls ss r c h k settled up written room = record {
  room = omega (arith, h.room, room);
  size = h.size;
  uptime = omega (arith, up, h.uptime);
  console = omega (arith, written, h.console);
  steps = λ s. let e : (process_at u s).steps ≡ (process_at t s).steps = ap (λ (f : FixedOfProcess). f.steps) (k.fixed s) in omega (arith, e, h.steps s);
  settled = settled;
  leased = λ a x e. k.loans x.slot ∙ h.leased a x e;
  lent = λ s n e. h.lent s n (sym (k.loans s) ∙ e);
  apart = h.apart;
  served = h.served ∙ sym k.used;
  loaded = λ s v e n. ap (λ (f : FixedOfProcess). f.lasting) (k.fixed s) ∙ h.loaded s v e (sym (k.loans s) ∙ n);
}

-- ---- an event that changes one slot, which is at home before and after

pub holds_at : (t u : TableState) (ls : List (Option Lease)) (ss : List Service) (r c s : ℕ) → IsConsistent t ls ss r c → KeepsBut s t u → loan_of (process_at t s) ≡ None → loan_of (process_at u s) ≡ None
    → (process_at u s).steps ≡ 0 → ((v : Service) → slice_get ss s ≡ Some v → IsLoadedFrom (process_at u s).image v.program)
    → Settled u → u.uptime ≡ t.uptime → u.devices ≡ t.devices → 1 ≤ c - (r + out_count ls) → IsConsistent u ls ss (r + 1) c
holds_at t u ls ss r c s h k before after steps loaded settled up same room =
    let loans : (q : ℕ) → loan_of (process_at u q) ≡ loan_of (process_at t q) = λ q. elim (cases_eq q s) [
      | inl e ↦ ap (λ x. loan_of (process_at u x)) e ∙ after ∙ sym before ∙ ap (λ x. loan_of (process_at t x)) (sym e)
      | inr n ↦ k.loans q n
    ] in
    record {
      room = omega (arith, h.room, room);
      size = h.size;
      uptime = omega (arith, up, h.uptime);
      console = let e : u.devices.console.count ≡ t.devices.console.count = ap (λ d. d.console.count) same in omega (arith, e, h.console);
      steps = λ q. elim (cases_eq q s) [
        | inl e ↦ let z : (process_at u q).steps ≡ 0 = ap (λ x. (process_at u x).steps) e ∙ steps in omega (arith, z)
        | inr n ↦ let z : (process_at u q).steps ≡ (process_at t q).steps = ap (λ (f : FixedOfProcess). f.steps) (k.fixed q n) in omega (arith, z, h.steps q)
      ];
      settled = settled;
      leased = λ a x e. loans x.slot ∙ h.leased a x e;
      lent = λ q n e. h.lent q n (sym (loans q) ∙ e);
      apart = h.apart;
      served = h.served ∙ sym k.used;
      loaded = λ q v e n. elim (cases_eq q s) [
        | inl i ↦ subst (λ x. IsLoadedFrom (process_at u x).image v.program) (sym i) (loaded v (ap (λ x. slice_get ss x) (sym i) ∙ e))
        | inr m ↦ ap (λ (f : FixedOfProcess). f.lasting) (k.fixed q m) ∙ h.loaded q v e (sym (loans q) ∙ n)
      ];
    }

-- ---- a process is taken

pub holds_taken : (t u : TableState) (ls : List (Option Lease)) (ss : List Service) (r c a s n : ℕ) → IsConsistent t ls ss r c → a < length ls → lease_at ls a ≡ None → KeepsBut s t u
    → loan_of (process_at t s) ≡ None → loan_of (process_at u s) ≡ Some n → (process_at u s).steps ≡ (process_at t s).steps
    → Settled u → u.uptime ≡ t.uptime → u.devices ≡ t.devices → 2 ≤ c - (r + out_count ls) → IsConsistent u (slice_set ls a (Some (record { slot = s; budget = n }))) ss (r + 1) c
holds_taken t u ls ss r c a s n h below idle k before after steps settled up same room = let y : Lease = record { slot = s; budget = n } in
    -- what another processor holds isn't of this slot
    let elsewhere : (b : ℕ) (x : Lease) → lease_at ls b ≡ Some x → x.slot ≢ s = λ b x e i. let z : None ≡ Some x.budget = sym before ∙ ap (λ q. loan_of (process_at t q)) (sym i) ∙ h.leased b x e in cc in
    let older : (b : ℕ) (x : Lease) → b ≢ a → lease_at (slice_set ls a (Some y)) b ≡ Some x → lease_at ls b ≡ Some x = λ b x m e. sym (get_or-set_other ls a b (Some y) None m) ∙ e in
    let newer : (b : ℕ) (x : Lease) → b ≡ a → lease_at (slice_set ls a (Some y)) b ≡ Some x → y ≡ x = λ b x i e.
    let z : Some y ≡ Some x = sym (ap (λ q. lease_at (slice_set ls a (Some y)) q) i ∙ get_or-set_same ls a (Some y) None below) ∙ e in cc in
    record {
      room = omega (arith, h.room, room, out_count-more ls a y below idle);
      size = h.size;
      uptime = omega (arith, up, h.uptime);
      console = let e : u.devices.console.count ≡ t.devices.console.count = ap (λ d. d.console.count) same in omega (arith, e, h.console);
      steps = λ q. elim (cases_eq q s) [
        | inl e ↦ let z : (process_at u q).steps ≡ (process_at t q).steps = ap (λ x. (process_at u x).steps) e ∙ steps ∙ ap (λ x. (process_at t x).steps) (sym e) in omega (arith, z, h.steps q)
        | inr m ↦ let z : (process_at u q).steps ≡ (process_at t q).steps = ap (λ (f : FixedOfProcess). f.steps) (k.fixed q m) in omega (arith, z, h.steps q)
      ];
      settled = settled;
      leased = λ b x e. elim (cases_eq b a) [
        | inl i ↦ subst (λ (x : Lease). loan_of (process_at u x.slot) ≡ Some x.budget) (newer b x i e) after
        | inr m ↦ let o = older b x m e in k.loans x.slot (elsewhere b x o) ∙ h.leased b x o
      ];
      lent = λ q m e. elim (cases_eq q s) [
        | inl i ↦ let z : Some n ≡ Some m = sym after ∙ ap (λ x. loan_of (process_at u x)) (sym i) ∙ e in let w : n ≡ m = cc in
            (a, get_or-set_same ls a (Some y) None below ∙ ap (λ x. let l : Option Lease = Some (record { slot = x; budget = n }) in l) (sym i) ∙ ap (λ x. let l : Option Lease = Some (record { slot = q; budget = x }) in l) w)
        | inr d ↦ let o = h.lent q m (sym (k.loans q d) ∙ e) in
            let differs : o.0 ≢ a = λ i. let z : None ≡ Some (let l : Lease = record { slot = q; budget = m } in l) = sym idle ∙ ap (λ x. lease_at ls x) (sym i) ∙ o.1 in cc in
            (o.0, get_or-set_other ls a o.0 (Some y) None differs ∙ o.1)
      ];
      apart = λ b d x z e f i. elim (cases_eq b a) [
        | inl p ↦ elim (cases_eq d a) [
          | inl q ↦ p ∙ sym q
          | inr q ↦ absurd (elsewhere d z (older d z q f) (sym i ∙ ap (λ (l : Lease). l.slot) (sym (newer b x p e))))
        ]
        | inr p ↦ elim (cases_eq d a) [
          | inl q ↦ absurd (elsewhere b x (older b x p e) (i ∙ ap (λ (l : Lease). l.slot) (sym (newer d z q f))))
          | inr q ↦ h.apart b d x z (older b x p e) (older d z q f) i
        ]
      ];
      served = h.served ∙ sym k.used;
      loaded = λ q v e m. elim (cases_eq q s) [
        | inl i ↦ let z : None ≡ Some n = sym m ∙ ap (λ x. loan_of (process_at u x)) i ∙ after in cc
        | inr d ↦ ap (λ (f : FixedOfProcess). f.lasting) (k.fixed q d) ∙ h.loaded q v e (sym (k.loans q d) ∙ m)
      ];
    }

-- ---- a process comes back

pub holds_returned : (t u : TableState) (ls : List (Option Lease)) (ss : List Service) (r c a : ℕ) (x : Lease) → IsConsistent t ls ss r c → lease_at ls a ≡ Some x → KeepsBut x.slot t u
    → loan_of (process_at u x.slot) ≡ None → (process_at u x.slot).steps ≤ (process_at t x.slot).steps + 65535 → ((v : Service) → slice_get ss x.slot ≡ Some v → IsLoadedFrom (process_at u x.slot).image v.program)
    → Settled u → u.uptime ≡ t.uptime → WritesAtMostOne t u → IsConsistent u (slice_set ls a None) ss (r + 1) c
holds_returned t u ls ss r c a x h at k after steps loaded settled up written =
    let older : (b : ℕ) (y : Lease) → lease_at (slice_set ls a None) b ≡ Some y → (b ≢ a) × (lease_at ls b ≡ Some y) = λ b y e. elim (cases_eq b a) [
      | inl i ↦ let z : None ≡ Some y = sym (ap (λ q. lease_at (slice_set ls a None) q) i ∙ get_or-set_same ls a None None (holds_in ls a x at)) ∙ e in cc
      | inr m ↦ (m, sym (get_or-set_other ls a b None None m) ∙ e)
    ] in
    record {
      room = omega (arith, h.room, out_count-less ls a x at);
      size = h.size;
      uptime = omega (arith, up, h.uptime);
      console = omega (arith, written, h.console);
      steps = λ q. elim (cases_eq q x.slot) [
        | inl e ↦ let z : (process_at u q).steps ≡ (process_at u x.slot).steps = ap (λ y. (process_at u y).steps) e in omega (arith, z, steps, h.steps x.slot)
        | inr m ↦ let z : (process_at u q).steps ≡ (process_at t q).steps = ap (λ (f : FixedOfProcess). f.steps) (k.fixed q m) in omega (arith, z, h.steps q)
      ];
      settled = settled;
      leased = λ b y e. let o = older b y e in k.loans y.slot (λ i. o.0 (h.apart b a y x o.1 at i)) ∙ h.leased b y o.1;
      lent = λ q m e. elim (cases_eq q x.slot) [
        | inl i ↦ let z : None ≡ Some m = sym after ∙ ap (λ y. loan_of (process_at u y)) (sym i) ∙ e in cc
        | inr d ↦ let o = h.lent q m (sym (k.loans q d) ∙ e) in
            let differs : o.0 ≢ a = λ i. let z : Some x ≡ Some (let l : Lease = record { slot = q; budget = m } in l) = sym at ∙ ap (λ y. lease_at ls y) (sym i) ∙ o.1 in
            let w : x ≡ (let l : Lease = record { slot = q; budget = m } in l) = cc in d (sym (ap (λ (l : Lease). l.slot) w)) in
            (o.0, get_or-set_other ls a o.0 None None differs ∙ o.1)
      ];
      apart = λ b d y z e f i. h.apart b d y z (older b y e).1 (older d z f).1 i;
      served = h.served ∙ sym k.used;
      loaded = λ q v e m. elim (cases_eq q x.slot) [
        | inl i ↦ subst (λ y. IsLoadedFrom (process_at u y).image v.program) (sym i) (loaded v (ap (λ y. slice_get ss y) (sym i) ∙ e))
        | inr d ↦ ap (λ (f : FixedOfProcess). f.lasting) (k.fixed q d) ∙ h.loaded q v e (sym (k.loans q d) ∙ m)
      ];
    }
