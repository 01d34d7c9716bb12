-- What the loops of all seats leave.
use Rattle.std.proofs.Common.{◌≡◌, ◌∙◌, ◌&&◌, ℕ, zero, suc, Bool, true, false, ◌==◌, length, get_or, inl, inr, All, ◌<◌, ◌≤◌, List, [], ◌∷◌, ◌++◌, Option, Some, None, refl, sym, ap, subst, arith, rules, Result, Ok, Err, IfOk}
use Rattle.std.proofs.lemmas.Bool.{cases_lt}
use Rattle.std.proofs.lemmas.List.Elements.{All-push}
use Rattle.atomic_table.specs.Seated.{TableId}
use Rattle.mx_machine.specs.World.{World}
use Rattle.mx_cpus.specs.declared.outside.OutsideCall.{OutsideCall}
use Rattle.mx_cpus.specs.declared.outside.Role.{Role}
use Rattle.mx_cpus.specs.declared.outside.Role.TheVariants as roles
use Rattle.mx_cpus.specs.Seats.{SeatView}
use Rattle.mx_cpus.specs.Courses.{AreServed, IsServed}
use Rattle.mx_cpus.specs.Gates.{GateCall, ended_call}
use Rattle.mx_cpus.specs.Loops.{AreDriven, IsDriven}
use Rattle.mx_cpus.specs.Outsiders.{AreDrivenWith, AreEach, AreServedWith, AreWholeWith, IsDrivenAs, IsDrivenIf, IsEndTold, IsServedAs, IsServedIf, IsWholeAs, IsWholeIf, role_of}

-- ---- lists of seats

each_last : (Is : SeatView → SeatView → Type 0) (xs ys : List SeatView) (x y : SeatView) → AreEach Is xs ys → Is x y → AreEach Is (xs ++ x ∷ []) (ys ++ y ∷ [])
each_last Is [] [] x y p q = (q, tt)
each_last Is (a ∷ xs) (b ∷ ys) x y p q = (p.0, each_last Is xs ys x y p.1 q)
each_last Is [] (b ∷ ys) x y p q = absurd p
each_last Is (a ∷ xs) [] x y p q = absurd p

pub each_push : (Is : SeatView → SeatView → Type 0) (xs ys before after : List SeatView) (x y : SeatView) → before ≡ xs ++ x ∷ [] → after ≡ ys ++ y ∷ []
    → AreEach Is xs ys → Is x y → AreEach Is before after
each_push Is xs ys before after x y was is p q =
    subst (λ (l : List SeatView). AreEach Is l after) (sym was)
    (subst (λ (l : List SeatView). AreEach Is (xs ++ x ∷ []) l) (sym is) (each_last Is xs ys x y p q))

pub told_push : (P : SeatView → Type 0) (xs before : List SeatView) (x : SeatView) → before ≡ xs ++ x ∷ [] → All P xs → P x → All P before
told_push P xs before x was all last = subst (All P) (sym was) (All-push P xs x all last)

-- ---- what a thread promised, by other names

pub driven_by : (r q : Role) (n m : ℕ) (xs ys : List OutsideCall) (s u t : SeatView) → r ≡ q → n ≡ m → xs ≡ ys → s ≡ u → IsDrivenAs r n xs s t → IsDrivenAs q m ys u t
driven_by r q n m xs ys s u t role most calls is p =
    subst (λ (i : Role). IsDrivenAs i m ys u t) role (subst (λ k. IsDrivenAs r k ys u t) most
    (subst (λ (l : List OutsideCall). IsDrivenAs r n l u t) calls (subst (λ (x : SeatView). IsDrivenAs r n xs x t) is p)))

pub served_by : {G : Type 0} (boot : World) (W : G → GateCall → Type 0) (g h : G) (r q : Role) (n m : ℕ) (xs ys : List OutsideCall) (s u t : SeatView) → g ≡ h → r ≡ q → n ≡ m → xs ≡ ys → s ≡ u
    → IsServedAs r boot (W g) n xs s t → IsServedAs q boot (W h) m ys u t
served_by boot W g h r q n m xs ys s u t gate role most calls is p =
    subst (λ i. IsServedAs q boot (W i) m ys u t) gate
    (subst (λ (i : Role). IsServedAs i boot (W g) m ys u t) role (subst (λ k. IsServedAs r boot (W g) k ys u t) most
    (subst (λ (l : List OutsideCall). IsServedAs r boot (W g) n l u t) calls (subst (λ (x : SeatView). IsServedAs r boot (W g) n xs x t) is p))))

pub whole_by : {G : Type 0} (boot : World) (W : G → GateCall → Type 0) (g h : G) (r q : Role) (xs ys : List OutsideCall) (s u t : SeatView) (whole : Bool) → g ≡ h → r ≡ q → xs ≡ ys → s ≡ u
    → IsWholeAs r boot (W g) xs s t whole → IsWholeAs q boot (W h) ys u t whole
whole_by boot W g h r q xs ys s u t whole gate role calls is p =
    subst (λ i. IsWholeAs q boot (W i) ys u t whole) gate
    (subst (λ (i : Role). IsWholeAs i boot (W g) ys u t whole) role
    (subst (λ (l : List OutsideCall). IsWholeAs r boot (W g) l u t whole) calls (subst (λ (x : SeatView). IsWholeAs r boot (W g) xs x t whole) is p)))

pub told_by : {G : Type 0} (W : G → GateCall → Type 0) (g h : G) (s u : SeatView) → g ≡ h → s ≡ u → W g (ended_call s.actor) → W h (ended_call u.actor)
told_by W g h s u gate is p = subst (λ i. W i (ended_call u.actor)) gate (subst (λ (x : SeatView). W g (ended_call x.actor)) is p)

-- ---- whether all calls were made

both_true : (b : Bool) → (b && true) ≡ b
both_true true = refl
both_true false = refl

both_turn : (a b c : Bool) → (a && (b && c)) ≡ (b && (a && c))
both_turn true true c = refl
both_turn true false c = refl
both_turn false true c = refl
both_turn false false c = refl

module _ (boot : World) (WasCalled : GateCall → Type 0) (cpus : ℕ) (xs : List OutsideCall) where
  whole_last : (ss ts : List SeatView) (x y : SeatView) (own others : Bool) → AreWholeWith boot WasCalled cpus xs ss ts others → IsWholeIf (role_of x.actor cpus xs) boot WasCalled xs x y own
      → AreWholeWith boot WasCalled cpus xs (ss ++ x ∷ []) (ts ++ y ∷ []) (own && others)
  whole_last [] [] x y own others p q = (own, others, refl, q, p)
  whole_last (a ∷ ss) (b ∷ ts) x y own others p q = (p.0, own && p.1, ap (λ v. own && v) p.2 ∙ both_turn own p.0 p.1, p.3, whole_last ss ts x y own p.1 p.4 q)
  whole_last [] (b ∷ ts) x y own others p q = absurd p
  whole_last (a ∷ ss) [] x y own others p q = absurd p

  pub whole_push : (ss ts before after : List SeatView) (x y : SeatView) (own others whole : Bool) → before ≡ ss ++ x ∷ [] → after ≡ ts ++ y ∷ [] → whole ≡ (own && others)
      → AreWholeWith boot WasCalled cpus xs ss ts others → IsWholeIf (role_of x.actor cpus xs) boot WasCalled xs x y own → AreWholeWith boot WasCalled cpus xs before after whole
  whole_push ss ts before after x y own others whole was is both p q =
      subst (λ (l : List SeatView). AreWholeWith boot WasCalled cpus xs l after whole) (sym was)
      (subst (λ (l : List SeatView). AreWholeWith boot WasCalled cpus xs (ss ++ x ∷ []) l whole) (sym is)
      (subst (λ b. AreWholeWith boot WasCalled cpus xs (ss ++ x ∷ []) (ts ++ y ∷ []) b) (sym both) (whole_last ss ts x y own others p q)))

  pub whole_as : (o : Option Role) (r : Role) (s t : SeatView) (whole : Bool) → o ≡ Some r → IsWholeAs r boot WasCalled xs s t whole → IsWholeIf o boot WasCalled xs s t whole
  whole_as o r s t whole is p = subst (λ (i : Option Role). IsWholeIf i boot WasCalled xs s t whole) (sym is) p

  pub whole_idle : (o : Option Role) (s t : SeatView) → o ≡ None → IsWholeIf o boot WasCalled xs s t true
  whole_idle o s t is = subst (λ (i : Option Role). IsWholeIf i boot WasCalled xs s t true) (sym is) refl

-- ---- the role of an actor

module _ (ticks : ℕ) (xs : List OutsideCall) where
  pub driven_as : (o : Option Role) (r : Role) (s t : SeatView) → o ≡ Some r → IsDrivenAs r ticks xs s t → IsDrivenIf o ticks xs s t
  driven_as o r s t is p = subst (λ (i : Option Role). IsDrivenIf i ticks xs s t) (sym is) p

  pub driven_idle : (o : Option Role) (s : SeatView) → o ≡ None → IsDrivenIf o ticks xs s s
  driven_idle o s is = subst (λ (i : Option Role). IsDrivenIf i ticks xs s s) (sym is) refl

  pub served_as : (boot : World) (WasCalled : GateCall → Type 0) (o : Option Role) (r : Role) (s t : SeatView) → o ≡ Some r → IsServedAs r boot WasCalled ticks xs s t → IsServedIf o boot WasCalled ticks xs s t
  served_as boot WasCalled o r s t is p = subst (λ (i : Option Role). IsServedIf i boot WasCalled ticks xs s t) (sym is) p

  pub served_idle : (boot : World) (WasCalled : GateCall → Type 0) (o : Option Role) (s t : SeatView) → o ≡ None → IsServedIf o boot WasCalled ticks xs s t
  served_idle boot WasCalled o s t is = subst (λ (i : Option Role). IsServedIf i boot WasCalled ticks xs s t) (sym is) tt

  -- the seats are the table's as before
  role_table : (r : Role) (s t : SeatView) → IsDrivenAs r ticks xs s t → t.table ≡ s.table
  role_table roles.Processor s t p = p.follows.table
  role_table roles.Respawner s t p = p.follows.table
  role_table roles.Outsider s t p = p.follows.table

  driven_table : (o : Option Role) (s t : SeatView) → IsDrivenIf o ticks xs s t → t.table ≡ s.table
  driven_table None s t p = ap (λ (x : SeatView). x.table) p
  driven_table (Some r) s t p = role_table r s t p

  tables_from : (z : TableId) (cpus : ℕ) (ss ts : List SeatView) → All (λ (s : SeatView). s.table ≡ z) ss → AreDrivenWith cpus ticks xs ss ts
      → (k : ℕ) (d : SeatView) → k < length ts → (get_or ts k d).table ≡ z
  tables_from z cpus [] [] h p k d below = absurd (omega arith)
  tables_from z cpus (x ∷ ss) (y ∷ ts) h p zero d below = driven_table (role_of x.actor cpus xs) x y p.0 ∙ h 0 d (omega arith)
  tables_from z cpus (x ∷ ss) (y ∷ ts) h p (suc k) d below = tables_from z cpus ss ts (λ j e b. h (suc j) e (omega (arith, b))) p.1 k d (omega (arith, below))
  tables_from z cpus [] (y ∷ ts) h p k d below = absurd p
  tables_from z cpus (x ∷ ss) [] h p k d below = absurd p

  pub driven_tables : (z : TableId) (cpus : ℕ) (ss ts : List SeatView) → All (λ (s : SeatView). s.table ≡ z) ss → AreDrivenWith cpus ticks xs ss ts → All (λ (s : SeatView). s.table ≡ z) ts
  driven_tables z cpus ss ts h p = tables_from z cpus ss ts h p

-- the role of a seat, by the names that the loops' threads have for it
pub role_here : (a k b m : ℕ) (xs : List OutsideCall) (o p : Option Role) → o ≡ role_of a k xs → a ≡ b → k ≡ m → o ≡ p → role_of b m xs ≡ p
role_here a k b m xs o p made who many is = sym (ap (λ i. role_of i m xs) who) ∙ sym (ap (λ j. role_of a j xs) many) ∙ sym made ∙ is

pub told_as : (WasCalled : GateCall → Type 0) (o : Option Role) (s : SeatView) → WasCalled (ended_call s.actor) → IsEndTold o WasCalled s
told_as WasCalled None s h = tt
told_as WasCalled (Some r) s h = h

pub told_idle : (WasCalled : GateCall → Type 0) (o : Option Role) (s : SeatView) → o ≡ None → IsEndTold o WasCalled s
told_idle WasCalled o s is = subst (λ (i : Option Role). IsEndTold i WasCalled s) (sym is) tt

-- ---- without calls

eq_self : (n : ℕ) → (n == n) ≡ true
eq_self n = search rules

eq_apart : (n m : ℕ) → m < n → (n == m) ≡ false
eq_apart n m lt = search rules

role_processor : (a cpus : ℕ) (xs : List OutsideCall) → a < cpus → role_of a cpus xs ≡ Some roles.Processor
role_processor a cpus xs lt = search rules

role_respawner : (a cpus : ℕ) (xs : List OutsideCall) → a ≡ cpus → role_of a cpus xs ≡ Some roles.Respawner
role_respawner a cpus xs is = search rules

role_none : (a cpus : ℕ) → cpus < a → role_of a cpus [] ≡ None
role_none a cpus lt = search rules

module _ (cpus ticks : ℕ) where
  driven_alone : (s t : SeatView) → IsDrivenIf (role_of s.actor cpus []) ticks [] s t → IsDriven cpus ticks s t
  driven_alone s t p = record {
    processor = λ lt. subst (λ (o : Option Role). IsDrivenIf o ticks [] s t) (role_processor s.actor cpus [] lt) p;
    respawner = λ is. subst (λ (o : Option Role). IsDrivenIf o ticks [] s t) (role_respawner s.actor cpus [] is) p;
    other = λ lt. subst (λ (o : Option Role). IsDrivenIf o ticks [] s t) (role_none s.actor cpus lt) p;
  }

  pub all_driven : (ss ts : List SeatView) → AreDrivenWith cpus ticks [] ss ts → AreDriven cpus ticks ss ts
  all_driven [] [] p = tt
  all_driven (s ∷ ss) (t ∷ ts) p = (driven_alone s t p.0, all_driven ss ts p.1)
  all_driven [] (t ∷ ts) p = absurd p
  all_driven (s ∷ ss) [] p = absurd p

  module _ (boot : World) (WasCalled : GateCall → Type 0) where
    as_processor : (s t : SeatView) → s.actor < cpus → IsServedIf (role_of s.actor cpus []) boot WasCalled ticks [] s t → IsServedAs roles.Processor boot WasCalled ticks [] s t
    as_processor s t lt p = subst (λ (o : Option Role). IsServedIf o boot WasCalled ticks [] s t) (role_processor s.actor cpus [] lt) p

    as_respawner : (s t : SeatView) → s.actor ≡ cpus → IsServedIf (role_of s.actor cpus []) boot WasCalled ticks [] s t → IsServedAs roles.Respawner boot WasCalled ticks [] s t
    as_respawner s t is p = subst (λ (o : Option Role). IsServedIf o boot WasCalled ticks [] s t) (role_respawner s.actor cpus [] is) p

    told_alone : (s : SeatView) → IsEndTold (role_of s.actor cpus []) WasCalled s → s.actor ≤ cpus → WasCalled (ended_call s.actor)
    told_alone s h le = elim (cases_lt s.actor cpus) [
      | inl lt ↦ subst (λ (o : Option Role). IsEndTold o WasCalled s) (role_processor s.actor cpus [] lt) h
      | inr ge ↦ subst (λ (o : Option Role). IsEndTold o WasCalled s) (role_respawner s.actor cpus [] (omega (arith, le, ge))) h
    ]

    end_alone : (s t : SeatView) → s.actor ≤ cpus → IsServedIf (role_of s.actor cpus []) boot WasCalled ticks [] s t → WasCalled (ended_call s.actor)
    end_alone s t le p = elim (cases_lt s.actor cpus) [
      | inl lt ↦ (as_processor s t lt p).1
      | inr ge ↦ (as_respawner s t (omega (arith, le, ge)) p).1
    ]

    served_alone : (s t : SeatView) → IsServedIf (role_of s.actor cpus []) boot WasCalled ticks [] s t → s.actor ≤ cpus → IsServed boot WasCalled cpus ticks s t
    served_alone s t p le = record {
      processor = λ lt. (as_processor s t lt p).0;
      respawner = λ is. (as_respawner s t is p).0;
      told = end_alone s t le p;
    }

    pub all_served : (ss ts : List SeatView) → AreServedWith boot WasCalled cpus ticks [] ss ts → AreServed boot WasCalled cpus ticks ss ts
    all_served [] [] p = tt
    all_served (s ∷ ss) (t ∷ ts) p = (served_alone s t p.0, all_served ss ts p.1)
    all_served [] (t ∷ ts) p = absurd p
    all_served (s ∷ ss) [] p = absurd p

    pub all_told : (ss : List SeatView) → All (λ (s : SeatView). IsEndTold (role_of s.actor cpus []) WasCalled s) ss → All (λ (s : SeatView). s.actor ≤ cpus → WasCalled (ended_call s.actor)) ss
    all_told ss h = λ k d below. told_alone (get_or ss k d) (h k d below)

pub if_ok_map : {A B : Type 0} (P Q : A → Type 0) → ((x : A) → P x → Q x) → (r : Result A B) → IfOk r P → IfOk r Q
if_ok_map P Q f (Ok x) h = f x h
if_ok_map P Q f (Err e) h = tt
