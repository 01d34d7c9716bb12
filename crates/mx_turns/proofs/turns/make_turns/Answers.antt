use Rattle.std.proofs.Common.{◌≡◌, ◌∙◌, ◌≤◌, ◌&&◌, Bool, Option, true, false, is_none, slice_get, ap, arith, subst, sym}
use Rattle.mx_machine.specs.Rest.{at_rest}
use Rattle.mx_machine.specs.Machine.{MachineState, world_of}
use Rattle.mx_turns.specs.Made.{HasOffered, outside_events}
use Rattle.mx_turns.specs.declared.outside.OutsideLine.{OutsideLine}
use Rattle.mx_turns.specs.Turns.{turn}
use Rattle.mx_turns.proofs.ShownLemmas.{full_shown, none_shown, over_shown, turn_shown}
use Rattle.mx_turns.proofs.TurnLemmas.{other_stays, stands_first, stands_full, stands_last, stands_next, stands_over}
use Rattle.mx_turns.proofs.turns.make_turns.Goals as goal

over_by : (next known : Option OutsideLine) (n : MachineState) (r b : Bool) → next ≡ known → r ≡ (is_none next && at_rest (world_of n)) → r ≡ b → (is_none known && at_rest (world_of n)) ≡ b
over_by next known n r b e h is = ap (λ (x : Option OutsideLine). is_none x && at_rest (world_of n)) (sym e) ∙ sym h ∙ is

turned_by : (n p : MachineState) (next known : Option OutsideLine) (r b : Bool) → next ≡ known → HasOffered n (turn (world_of n) next) r p → r ≡ b → HasOffered n (turn (world_of n) known) b p
turned_by n p next known r b e h is = subst (λ (x : Option OutsideLine). HasOffered n (turn (world_of n) x) b p) e (subst (λ (y : Bool). HasOffered n (turn (world_of n) next) y p) is h)

pub loop-made-init : goal.loop-made-init
loop-made-init g c =
    let coming = outside_events c.args.outside in
    record {
      stands = stands_first c.args.machine.now coming;
      other = c.requires;
      shown = none_shown c.args.log (world_of c.args.machine.now) coming (g.P.Progress.shown c.args.progress.now);
    }

pub returns-then-is_over-clause-made : goal.returns-then-is_over-clause-made
returns-then-is_over-clause-made g c =
    let coming = outside_events c.args.outside in
    let made = c.loop-made.made in
    let n = c.loop-made.machine in
    let inv = c.loop-made.invariant in
    let over = over_by c.get-next.result (slice_get coming made) n c.is_over.result true c.get-next.ensures c.is_over.ensures c.if-is_over.true in
    let le : made ≤ c.args.bound = omega (arith, c.loop-made-test.true) in
    (stands_over c.args.machine.now coming made n inv.stands c.args.bound le over).made

pub returns-then-is_over-clause-ending : goal.returns-then-is_over-clause-ending
returns-then-is_over-clause-ending g c =
    let coming = outside_events c.args.outside in
    let made = c.loop-made.made in
    let n = c.loop-made.machine in
    let inv = c.loop-made.invariant in
    let over = over_by c.get-next.result (slice_get coming made) n c.is_over.result true c.get-next.ensures c.is_over.ensures c.if-is_over.true in
    let le : made ≤ c.args.bound = omega (arith, c.loop-made-test.true) in
    (stands_over c.args.machine.now coming made n inv.stands c.args.bound le over).ending

pub returns-then-is_over-clause-shown : goal.returns-then-is_over-clause-shown
returns-then-is_over-clause-shown g c =
    let coming = outside_events c.args.outside in
    let made = c.loop-made.made in
    let n = c.loop-made.machine in
    let inv = c.loop-made.invariant in
    let over = over_by c.get-next.result (slice_get coming made) n c.is_over.result true c.get-next.ensures c.is_over.ensures c.if-is_over.true in
    let le : made ≤ c.args.bound = omega (arith, c.loop-made-test.true) in
    over_shown c.args.log c.args.machine.now coming made n inv.stands c.args.bound (g.P.Progress.shown c.args.progress.now) (g.P.Progress.shown c.loop-made.progress) le over inv.shown

pub returns-then-is_filled-clause-made : goal.returns-then-is_filled-clause-made
returns-then-is_filled-clause-made g c =
    let coming = outside_events c.args.outside in
    let made = c.loop-made.made in
    let n = c.loop-made.machine in
    let p = c.make_turn-is_filled.new.machine in
    let inv = c.loop-made.invariant in
    let over = over_by c.get-next.result (slice_get coming made) n c.is_over.result false c.get-next.ensures c.is_over.ensures c.if-is_over.false in
    let turned = turned_by n p c.get-next.result (slice_get coming made) c.make_turn-is_filled.result true c.get-next.ensures c.make_turn-is_filled.ensures c.if-is_filled.true in
    (stands_full c.args.machine.now coming made n inv.stands c.args.bound p c.loop-made-test.true over turned).made

pub returns-then-is_filled-clause-ending : goal.returns-then-is_filled-clause-ending
returns-then-is_filled-clause-ending g c =
    let coming = outside_events c.args.outside in
    let made = c.loop-made.made in
    let n = c.loop-made.machine in
    let p = c.make_turn-is_filled.new.machine in
    let inv = c.loop-made.invariant in
    let over = over_by c.get-next.result (slice_get coming made) n c.is_over.result false c.get-next.ensures c.is_over.ensures c.if-is_over.false in
    let turned = turned_by n p c.get-next.result (slice_get coming made) c.make_turn-is_filled.result true c.get-next.ensures c.make_turn-is_filled.ensures c.if-is_filled.true in
    (stands_full c.args.machine.now coming made n inv.stands c.args.bound p c.loop-made-test.true over turned).ending

pub returns-then-is_filled-clause-shown : goal.returns-then-is_filled-clause-shown
returns-then-is_filled-clause-shown g c =
    let coming = outside_events c.args.outside in
    let made = c.loop-made.made in
    let n = c.loop-made.machine in
    let p = c.make_turn-is_filled.new.machine in
    let inv = c.loop-made.invariant in
    let over = over_by c.get-next.result (slice_get coming made) n c.is_over.result false c.get-next.ensures c.is_over.ensures c.if-is_over.false in
    let turned = turned_by n p c.get-next.result (slice_get coming made) c.make_turn-is_filled.result true c.get-next.ensures c.make_turn-is_filled.ensures c.if-is_filled.true in
    let before = g.P.Progress.shown c.args.progress.now in
    let now = g.P.Progress.shown c.loop-made.progress in
    let then = g.P.Progress.shown c.show.new.self in
    let shown = turn_shown c.args.log c.args.machine.now coming made n inv.stands p true before now then c.part_of.result over turned inv.shown c.part_of.ensures c.show.ensures in
    full_shown c.args.log c.args.machine.now coming made n inv.stands c.args.bound p before then c.loop-made-test.true over turned shown

pub loop-made-preserved : goal.loop-made-preserved
loop-made-preserved g c =
    let coming = outside_events c.args.outside in
    let made = c.loop-made.made in
    let n = c.loop-made.machine in
    let p = c.make_turn-is_filled.new.machine in
    let inv = c.loop-made.invariant in
    let over = over_by c.get-next.result (slice_get coming made) n c.is_over.result false c.get-next.ensures c.is_over.ensures c.if-is_over.false in
    let turned = turned_by n p c.get-next.result (slice_get coming made) c.make_turn-is_filled.result false c.get-next.ensures c.make_turn-is_filled.ensures c.if-is_filled.false in
    let before = g.P.Progress.shown c.args.progress.now in
    let now = g.P.Progress.shown c.loop-made.progress in
    let then = g.P.Progress.shown c.show.new.self in
    let shown = turn_shown c.args.log c.args.machine.now coming made n inv.stands p false before now then c.part_of.result over turned inv.shown c.part_of.ensures c.show.ensures in
    record {
      stands = stands_next c.args.machine.now coming made n inv.stands p over turned;
      other = other_stays n p (turn (world_of n) (slice_get coming made)).made turned.made inv.other;
      shown = shown;
    }

pub returns-then-is_over-2-clause-made : goal.returns-then-is_over-2-clause-made
returns-then-is_over-2-clause-made g c =
    let coming = outside_events c.args.outside in
    let made = c.loop-made.made in
    let n = c.loop-made.machine in
    let last : made ≡ c.args.bound = omega (arith, c.loop-made-test.false, c.loop-made.auto.made-end) in
    let over = over_by c.get.result (slice_get coming c.args.bound) n c.is_over-2.result true c.get.ensures c.is_over-2.ensures c.if-is_over-2.true in
    (stands_last c.args.machine.now coming made n c.loop-made.invariant.stands c.args.bound true last over).made

pub returns-then-is_over-2-clause-ending : goal.returns-then-is_over-2-clause-ending
returns-then-is_over-2-clause-ending g c =
    let coming = outside_events c.args.outside in
    let made = c.loop-made.made in
    let n = c.loop-made.machine in
    let last : made ≡ c.args.bound = omega (arith, c.loop-made-test.false, c.loop-made.auto.made-end) in
    let over = over_by c.get.result (slice_get coming c.args.bound) n c.is_over-2.result true c.get.ensures c.is_over-2.ensures c.if-is_over-2.true in
    (stands_last c.args.machine.now coming made n c.loop-made.invariant.stands c.args.bound true last over).ending

pub returns-else-is_over-2-clause-made : goal.returns-else-is_over-2-clause-made
returns-else-is_over-2-clause-made g c =
    let coming = outside_events c.args.outside in
    let made = c.loop-made.made in
    let n = c.loop-made.machine in
    let last : made ≡ c.args.bound = omega (arith, c.loop-made-test.false, c.loop-made.auto.made-end) in
    let over = over_by c.get.result (slice_get coming c.args.bound) n c.is_over-2.result false c.get.ensures c.is_over-2.ensures c.if-is_over-2.false in
    (stands_last c.args.machine.now coming made n c.loop-made.invariant.stands c.args.bound false last over).made

pub returns-else-is_over-2-clause-ending : goal.returns-else-is_over-2-clause-ending
returns-else-is_over-2-clause-ending g c =
    let coming = outside_events c.args.outside in
    let made = c.loop-made.made in
    let n = c.loop-made.machine in
    let last : made ≡ c.args.bound = omega (arith, c.loop-made-test.false, c.loop-made.auto.made-end) in
    let over = over_by c.get.result (slice_get coming c.args.bound) n c.is_over-2.result false c.get.ensures c.is_over-2.ensures c.if-is_over-2.false in
    (stands_last c.args.machine.now coming made n c.loop-made.invariant.stands c.args.bound false last over).ending
