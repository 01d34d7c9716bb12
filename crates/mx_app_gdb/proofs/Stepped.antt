-- Steps of a slot's process along a record: it stays on its processor.
use Rattle.std.proofs.Common.{◌≡◌, ◌∙◌, ◌<◌, ◌&&◌, ◌||◌, ℕ, zero, suc, Bool, true, false, not, List, [], ◌∷◌, get_or, get_or-set_same, length, map, nat_eq, Option, Some, None, refl, ap, sym, inl, inr, arith}
use Rattle.std.proofs.lemmas.Bool.{cases_lt, eq-eqb, ne_eqb}
use Rattle.std.proofs.lemmas.Bool.Decides.{eqb_tells}
use Rattle.mx_debug.specs.declared.points.Breakpoint.{Breakpoint}
use Rattle.mx_debug.specs.Points.{has_breakpoint, is_at}
use Rattle.mx_machine.specs.declared.events.Event.{Event}
use Rattle.mx_machine.specs.declared.events.Event.TheVariants as event
use Rattle.mx_machine.specs.declared.history.Record.{Record}
use Rattle.mx_machine.specs.Held.{out_after_step}
use Rattle.mx_machine.specs.Move.{at_stop, world_after_event, world_after_step}
use Rattle.mx_machine.specs.World.{HeldProcess, World, held_by}
use Rattle.mx_walk.specs.declared.positions.Position.{Position}
use Rattle.mx_walk.specs.Positions.{next_event, next_position, steps_in}
use Rattle.mx_walk.proofs.Along.{any_record}
use Rattle.mx_walk.specs.Stopping.{is_step, leaves_any, stands_at_any}
use Rattle.mx_app_look.specs.Marks.{code_place}
use Rattle.mx_app_gdb.specs.Marks.{is_of}
use Rattle.mx_app_gdb.proofs.RightAfter.{by_entry, entry, own_is, step_is}

there_is : {X : Type 0} (xs : List (Option X)) (a : ℕ) (x : X) → get_or xs a None ≡ Some x → a < length xs
there_is [] a x e = absurd cc
there_is (y ∷ ys) zero x e = omega arith
there_is (y ∷ ys) (suc a) x e = let h = there_is ys a x e in omega (arith, h)

-- whose process it is stays so
held_after : (s : ℕ) (w : World) (a : ℕ) (o : Option HeldProcess) → held_by w a ≡ o → is_of s (held_by (world_after_step w a o) a) ≡ is_of s o
held_after s w a None e = ap (λ (o : Option HeldProcess). is_of s o) e
held_after s w a (Some l) e =
    let after : HeldProcess = record l { out = out_after_step l.out } in
    ap (λ (o : Option HeldProcess). is_of s o) (get_or-set_same w.cpus a (Some (record l { out = out_after_step l.out })) None (there_is w.cpus a l e))

pub stays : (s : ℕ) (w : World) (a : ℕ) → is_of s (held_by (world_after_event w a event.Step) a) ≡ is_of s (held_by w a)
unfolding world_after_event
stays s w a = held_after s w a (held_by w a) refl

pub is_the_step : (e : Event) → is_step e ≡ true → e ≡ event.Step
is_the_step event.Step e = refl
is_the_step event.Take e = absurd cc
is_the_step event.Back e = absurd cc
is_the_step (event.Line l) e = absurd cc
is_the_step event.Tick e = absurd cc
is_the_step (event.Kill n) e = absurd cc
is_the_step (event.Respawn n) e = absurd cc

pub stays_after : (s : ℕ) (w : World) (x : ℕ × Event) → is_step x.1 ≡ true → is_of s (held_by (world_after_event w x.0 x.1) x.0) ≡ is_of s (held_by w x.0)
stays_after s w x is = ap (λ (e : Event). is_of s (held_by (world_after_event w x.0 e) x.0)) (is_the_step x.1 is) ∙ stays s w x.0

-- after a step comes an event of the same processor
pub same_actor : (records : List Record) (p : Position) (x y : ℕ × Event) → next_event records p ≡ Some x → is_step x.1 ≡ true → next_event records (next_position records p) ≡ Some y → y.0 ≡ x.0
same_actor records p x y e is next = elim (cases_lt p.steps (steps_in (entry records p x e).event)) [
  | inl lt ↦
      let q = next_position records p in
      let there : q.records ≡ p.records = ap (λ (r : Position). r.records) (step_is records p x e lt).1 in
      by_entry records q y next ∙ ap (λ i. (get_or records i any_record).actor) there ∙ sym (by_entry records p x e)
  | inr ge ↦ let no : true ≡ false = sym is ∙ (own_is records p x e ge).0 in absurd cc
]

-- ---- tests

pub and_false : (a b : Bool) → a ≡ true → a && b ≡ false → b ≡ false
and_false true b e h = h
and_false false b e h = let no : true ≡ false = sym e in absurd cc

pub and_left : (a b : Bool) → a && b ≡ true → a ≡ true
and_left true b e = refl
and_left false b e = absurd cc

pub and_right : (a b : Bool) → a && b ≡ true → b ≡ true
and_right true b e = e
and_right false b e = absurd cc

pub not_false : (b : Bool) → not b ≡ false → b ≡ true
not_false true e = refl
not_false false e = absurd cc

pub not_true : (b : Bool) → not b ≡ true → b ≡ false
not_true true e = absurd cc
not_true false e = refl

-- ---- a step that leaves a place is at a breakpoint

and_true : (b : Bool) → b && true ≡ b
and_true true = refl
and_true false = refl

flip : (a b : ℕ) → nat_eq a b ≡ nat_eq b a
flip a b = elim (eqb_tells a b) [
  | inl it ↦ it.0 ∙ sym (eq-eqb b a (sym it.1))
  | inr it ↦ it.0 ∙ sym (ne_eqb b a (λ e. it.1 (sym e)))
]

at_places : (l : HeldProcess) (bs : List Breakpoint) → at_stop l.out ≡ false → stands_at_any (Some l) (map code_place bs) ≡ has_breakpoint bs l.slot l.out.image.eip
at_places l [] goes = refl
at_places l (b ∷ bs) goes =
    let at = l.out.image.eip in
    let place = nat_eq l.slot b.slot && nat_eq at b.address in
    let rest = stands_at_any (Some l) (map code_place bs) in
    ap (λ c. (place && not c) || rest) goes ∙ ap (λ c. c || rest) (and_true place)
    ∙ ap (λ c. (c && nat_eq at b.address) || rest) (flip l.slot b.slot) ∙ ap (λ c. (nat_eq b.slot l.slot && c) || rest) (flip at b.address)
    ∙ ap (λ c. is_at l.slot at b || c) (at_places l bs goes)

or_and : (a b n : Bool) → (a && n) || (b && n) ≡ (a || b) && n
or_and true b true = refl
or_and true true false = refl
or_and true false false = refl
or_and false b n = refl

-- whether or not it can step
pub at_any : (l : HeldProcess) (bs : List Breakpoint) → stands_at_any (Some l) (map code_place bs) ≡ has_breakpoint bs l.slot l.out.image.eip && not (at_stop l.out)
at_any l [] = refl
at_any l (b ∷ bs) =
    let at = l.out.image.eip in
    let n = not (at_stop l.out) in
    ap (λ c. ((c && nat_eq at b.address) && n) || stands_at_any (Some l) (map code_place bs)) (flip l.slot b.slot)
    ∙ ap (λ c. ((nat_eq b.slot l.slot && c) && n) || stands_at_any (Some l) (map code_place bs)) (flip at b.address)
    ∙ ap (λ c. (is_at l.slot at b && n) || c) (at_any l bs) ∙ or_and (is_at l.slot at b) (has_breakpoint bs l.slot at) n

pub none_stands : (bs : List Breakpoint) → stands_at_any None (map code_place bs) ≡ false
none_stands [] = refl
none_stands (b ∷ bs) = none_stands bs

-- whether a step is at a breakpoint, by whom it is
pub at_breakpoint : (s : ℕ) (l : HeldProcess) (bs : List Breakpoint) (w u : World) (x : ℕ × Event) → is_step x.1 ≡ true → held_by w x.0 ≡ Some l → l.slot ≡ s → at_stop l.out ≡ false
    → leaves_any (map code_place bs) w x u ≡ has_breakpoint bs s l.out.image.eip
at_breakpoint s l bs w u x is held of goes =
    let places = map code_place bs in
    ap (λ b. b && stands_at_any (held_by w x.0) places) is ∙ ap (λ (o : Option HeldProcess). stands_at_any o places) held ∙ at_places l bs goes
    ∙ ap (λ t. has_breakpoint bs t l.out.image.eip) of
