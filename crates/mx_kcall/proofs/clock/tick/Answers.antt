use Rattle.std.proofs.Common.{◌≢◌, ◌∙◌, ◌<◌, ap, sym, subst, length, arith}
use Rattle.mx_respawn.specs.Proc.TableState.{TableState}
use Rattle.mx_kcall.specs.Clock.{table_after_rings, table_after_tick, due_slots}
use Rattle.mx_kcall.proofs.FrameLemmas.{same_used, same_uptime}
use Rattle.mx_kcall.proofs.AlarmLemmas.{rung_next, none_due}
use Rattle.mx_kcall.proofs.clock.tick.Goals as goal

pub ring-requires : goal.ring-requires
ring-requires c = subst (λ n. c.loop-slot.slot < n) (sym (same_used c.loop-slot.table c.advance.new.self c.loop-slot.invariant.frame)) (omega (arith, c.loop-slot-test.true, c.loop-slot.invariant.end))

pub loop-slot-preserved : goal.loop-slot-preserved
loop-slot-preserved c =
    let inv = c.loop-slot.invariant in
    let lt : c.loop-slot.slot < length c.advance.new.self.slots = omega (arith, c.loop-slot-test.true, inv.end) in
    record {
      told = rung_next c.loop-slot.table c.ring.new.table c.advance.new.self.uptime c.loop-slot.slot c.advance.new.self.slots lt (same_uptime c.loop-slot.table c.advance.new.self inv.frame) (inv.later c.loop-slot.slot (omega arith)) c.ring.ensures.value ∙ inv.told;
      later = λ s h. let n : s ≢ c.loop-slot.slot = omega arith in c.ring.ensures.others s n ∙ inv.later s (omega arith);
      frame = c.ring.ensures.frame ∙ inv.frame;
      settled = λ s h. c.ring.ensures.settled s (inv.settled s h);
      end = inv.end;
    }

pub returns-clause-value : goal.returns-clause-value
unfolding table_after_tick
returns-clause-value c =
    sym (ap (table_after_rings c.loop-slot.table) (none_due c.advance.new.self.uptime c.loop-slot.slot c.advance.new.self.slots (omega (arith, c.loop-slot-test.false, c.loop-slot.invariant.end)))) ∙ c.loop-slot.invariant.told
    ∙ ap (λ (w : TableState). table_after_rings w (due_slots w.uptime 0 w.slots)) c.advance.ensures.value

pub returns-clause-frame : goal.returns-clause-frame
returns-clause-frame c = c.loop-slot.invariant.frame ∙ c.advance.ensures.frame
