use Rattle.std.proofs.Common.{◌≡◌, ◌∙◌, ◌+◌, ◌++◌, ◌∷◌, [], ◌<◌, ◌≤◌, ℕ, Bool, true, false, Some, ap, drop, length, refl, subst, sym, arith}
use Rattle.std.specs.List.{range_with_len}
use Rattle.mx_machine.specs.declared.events.Event.TheVariants.{Line}
use Rattle.mx_machine.specs.Machine.{MachineState, world_of}
use Rattle.mx_machine.specs.World.{actors}
use Rattle.mx_turns.specs.Made.{HasOffered}
use Rattle.mx_turns.specs.Turns.{offered}
use Rattle.mx_turns.proofs.MadeLemmas.{full_done, next_done, none_offered}
use Rattle.mx_typist.specs.declared.typist.Raise.{Raise}
use Rattle.mx_word.specs.Bits.{has_bit}
use Rattle.mx_keyboard.specs.Keyboard.{raise_events}
use Rattle.mx_app_live.proofs.KeyboardLemmas.{events_of, first_events, first_more, first_same, lines_of, raised, raised_part}
use Rattle.mx_app_live.proofs.keyboard.raise.Goals as goal
use Rattle.mx_app_live.proofs.keyboard.raise.Goals.{else-has_bit-via-then-has_bit+else-offer, else-has_bit-via-else-has_bit}

abbrev cpus : MachineState → ℕ
cpus m = length (world_of m).cpus

-- the line of a bit more is raised
more : (m n p : MachineState) (r : Raise) (k : ℕ) (full : Bool) → has_bit r.byte k ≡ true → HasOffered m (offered (world_of m) (first_events (cpus m) r.byte k)) false n → cpus n ≡ cpus m
    → HasOffered n (offered (world_of n) ((cpus n, Line (8 + k)) ∷ [])) full p → HasOffered m (offered (world_of m) (first_events (cpus m) r.byte (k + 1))) full p
more m n p r k full is before same h =
    next_done m n p (first_events (cpus m) r.byte k) (cpus m, Line (8 + k)) (first_events (cpus m) r.byte (k + 1)) full full (first_more (cpus m) r.byte k true is) before
    (subst (λ a. HasOffered n (offered (world_of n) ((a, Line (8 + k)) ∷ [])) full p) same h) refl

-- the history is too full for it, so no more are
filled : (m p : MachineState) (r : Raise) (k : ℕ) → k < 8 → HasOffered m (offered (world_of m) (first_events (cpus m) r.byte (k + 1))) true p
    → HasOffered m (offered (world_of m) (raise_events (cpus m) (Some r))) true p
filled m p r k le h =
    let a = cpus m in
    let within : k + 1 ≤ 8 = omega (arith, le) in
    full_done m p (first_events a r.byte (k + 1)) (events_of a (lines_of r.byte (drop (k + 1) (range_with_len 0 8))) ++ (a, Line 7) ∷ []) (raise_events a (Some r)) (raised_part a r (k + 1) within) h

-- the strobe is raised after all bits
struck : (m n p : MachineState) (r : Raise) (k : ℕ) (full : Bool) → k ≡ 8 → HasOffered m (offered (world_of m) (first_events (cpus m) r.byte k)) false n → cpus n ≡ cpus m
    → HasOffered n (offered (world_of n) ((cpus n, Line 7) ∷ [])) full p → HasOffered m (offered (world_of m) (raise_events (cpus m) (Some r))) full p
struck m n p r k full last before same h =
    next_done m n p (first_events (cpus m) r.byte 8) (cpus m, Line 7) (raise_events (cpus m) (Some r)) full full (raised (cpus m) r)
    (subst (λ i. HasOffered m (offered (world_of m) (first_events (cpus m) r.byte i)) false n) last before)
    (subst (λ a. HasOffered n (offered (world_of n) ((a, Line 7) ∷ [])) full p) same h) refl

-- the invariant, at this machine
abbrev Goes : MachineState → Raise → ℕ → MachineState → Type 0
Goes m r k n = record {
  offered : HasOffered m (offered (world_of m) (first_events (cpus m) r.byte k)) false n;
  cpus : length (world_of n).cpus ≡ length (world_of m).cpus;
  other : length (world_of n).cpus < actors (world_of n);
}

pub loop-bit-init : goal.loop-bit-init
loop-bit-init c = record { offered = none_offered c.args.machine.now; cpus = refl; other = c.requires }

pub returns-then-offer-clause-offered : goal.returns-then-offer-clause-offered
returns-then-offer-clause-offered c =
    let is = ap (λ b. has_bit b c.loop-bit.bit) (sym c.from.ensures) ∙ sym c.has_bit.ensures ∙ c.if-has_bit.true in
    let m = c.args.machine.now in
    let inv = c.loop-bit.invariant in
    filled m c.offer.new.machine c.args.raise c.loop-bit.bit c.loop-bit-test.true
    (more m c.loop-bit.machine c.offer.new.machine c.args.raise c.loop-bit.bit true is inv.offered inv.cpus
    (subst (λ b. HasOffered c.loop-bit.machine (offered (world_of c.loop-bit.machine) ((cpus c.loop-bit.machine, Line (8 + c.loop-bit.bit)) ∷ [])) b c.offer.new.machine) c.if-offer.true c.offer.ensures.offered))

pub loop-bit-preserved : goal.loop-bit-preserved
loop-bit-preserved c =
    let m = c.args.machine.now in
    let n = c.loop-bit.machine in
    let k = c.loop-bit.bit in
    let inv = c.loop-bit.invariant in
    let bit : has_bit c.args.raise.byte k ≡ c.has_bit.result = ap (λ b. has_bit b k) (sym c.from.ensures) ∙ sym c.has_bit.ensures in
    elim c.else-has_bit.branch [
      | else-has_bit-via-then-has_bit+else-offer w ↦
          (let p = w.offer.new.machine in
          let h = subst (λ b. HasOffered n (offered (world_of n) ((cpus n, Line (8 + k)) ∷ [])) b p) w.if-offer.false w.offer.ensures.offered in
          subst (Goes m c.args.raise (k + 1)) (sym w.machine-is)
          (record { offered = more m n p c.args.raise k false (bit ∙ w.if-has_bit.true) inv.offered inv.cpus h; cpus = w.offer.ensures.cpus ∙ inv.cpus; other = w.offer.ensures.other }))
      | else-has_bit-via-else-has_bit w ↦
          subst (Goes m c.args.raise (k + 1)) (sym w.machine-is)
          (record {
            offered = subst (λ xs. HasOffered m (offered (world_of m) xs) false n) (sym (first_same (cpus m) c.args.raise.byte k (bit ∙ w.if-has_bit.false))) inv.offered;
            cpus = inv.cpus;
            other = inv.other;
          })
    ]

pub returns-clause-offered : goal.returns-clause-offered
returns-clause-offered c =
    let inv = c.loop-bit.invariant in
    let last : c.loop-bit.bit ≡ 8 = omega (arith, c.loop-bit-test.false, c.loop-bit.auto.bit-end) in
    struck c.args.machine.now c.loop-bit.machine c.offer-2.new.machine c.args.raise c.loop-bit.bit c.offer-2.result last inv.offered inv.cpus
    (subst (λ l. HasOffered c.loop-bit.machine (offered (world_of c.loop-bit.machine) ((cpus c.loop-bit.machine, Line l) ∷ [])) c.offer-2.result c.offer-2.new.machine) c.from-2.ensures c.offer-2.ensures.offered)
