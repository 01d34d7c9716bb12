use Rattle.std.proofs.Common.{ℕ, ◌≡◌, ◌≤◌, ◌∙◌, List, Option, Some, None, ap, sym, subst}
use Rattle.mx_proc.specs.declared.process.Source.{Source}
use Rattle.mx_proc.specs.declared.process.Source.TheVariants.{Slot}
use Rattle.mx_proc.specs.declared.process.Partner.TheVariants.{Only}
use Rattle.mx_proc.specs.Waits.{sends_of, next_of, caller_of}
use Rattle.mx_proc.proofs.CallerLemmas.{caller_hardware, caller_clock, caller_one, caller_other, sends_once}
use Rattle.mx_proc.proofs.waits.Waits.caller_from.Goals as goal

-- a slot that waits for another one is the caller
one : (to from : ℕ) (source : Source) (pairs : List (ℕ × ℕ)) (other : ℕ) → source ≡ Slot from → sends_of from pairs ≤ 1 → next_of from pairs ≡ Some other → other ≡ to → Some from ≡ caller_of to (Only source) pairs
one to from source pairs other is once next e = sym (ap (λ (s : Source). caller_of to (Only s) pairs) is ∙ caller_one to from pairs once (next ∙ ap Some e))

-- any other isn't
none : (to from : ℕ) (source : Source) (pairs : List (ℕ × ℕ)) → source ≡ Slot from → sends_of from pairs ≤ 1 → (next_of from pairs ≡ Some to → ⊥) → None ≡ caller_of to (Only source) pairs
none to from source pairs is once apart = sym (ap (λ (s : Source). caller_of to (Only s) pairs) is ∙ caller_other to from pairs once apart)

other_next : (next : Option ℕ) (other to : ℕ) → next ≡ Some other → (other ≡ to → ⊥) → next ≡ Some to → ⊥
other_next next other to is apart e = apart (let f : Some other ≡ Some to = sym is ∙ e in cc)

no_next : (next : Option ℕ) (to : ℕ) → next ≡ None → next ≡ Some to → ⊥
no_next next to is e = let f : None ≡ Some to = sym is ∙ e in cc

pub returns-in-Hardware : goal.returns-in-Hardware
returns-in-Hardware c = sym (ap (λ (s : Source). caller_of c.args.to (Only s) c.args.self.now) c.in-Hardware.is ∙ caller_hardware c.args.to c.args.self.now)

pub returns-in-Clock : goal.returns-in-Clock
returns-in-Clock c = sym (ap (λ (s : Source). caller_of c.args.to (Only s) c.args.self.now) c.in-Clock.is ∙ caller_clock c.args.to c.args.self.now)

pub returns-then-other-to : goal.returns-then-other-to
returns-then-other-to c = one c.args.to c.in-Slot.from c.args.source c.args.self.now c.in-Some.other c.in-Slot.is
    (subst (λ (l : List (ℕ × ℕ)). sends_of c.in-Slot.from l ≤ 1) c.self.view_is (sends_once c.in-Slot.from c.self.invariant)) (sym c.next.ensures ∙ c.in-Some.is) c.if-other-to.true

pub returns-else-other-to : goal.returns-else-other-to
returns-else-other-to c = none c.args.to c.in-Slot.from c.args.source c.args.self.now c.in-Slot.is
    (subst (λ (l : List (ℕ × ℕ)). sends_of c.in-Slot.from l ≤ 1) c.self.view_is (sends_once c.in-Slot.from c.self.invariant))
    (other_next (next_of c.in-Slot.from c.args.self.now) c.in-Some.other c.args.to (sym c.next.ensures ∙ c.in-Some.is) c.if-other-to.false)

pub returns-in-None : goal.returns-in-None
returns-in-None c = none c.args.to c.in-Slot.from c.args.source c.args.self.now c.in-Slot.is
    (subst (λ (l : List (ℕ × ℕ)). sends_of c.in-Slot.from l ≤ 1) c.self.view_is (sends_once c.in-Slot.from c.self.invariant))
    (no_next (next_of c.in-Slot.from c.args.self.now) c.args.to (sym c.next.ensures ∙ c.in-None.is))
