use Rattle.std.proofs.Common.{◌≢◌, ◌∙◌, ◌<◌, ap, sym, length, arith, inl, inr}
use Rattle.std.proofs.lemmas.Bool.{cases_eq}
use Rattle.mx_ipc.specs.Proc.TableState.{process_at}
use Rattle.mx_respawn.specs.Death.{table_after_freeing_all}
use Rattle.mx_respawn.proofs.DeathLemmas.{woken_next, none_left}
use Rattle.mx_respawn.proofs.death.wake_receivers.Goals as goal

pub loop-other-preserved : goal.loop-other-preserved
loop-other-preserved c =
    let inv = c.loop-other.invariant in
    let lt : c.loop-other.other < length c.args.table.now.slots = omega (arith, c.loop-other-test.true, inv.end) in
    record {
      told = woken_next c.loop-other.table c.wake.new.table c.args.slot c.loop-other.other c.args.table.now.slots lt (inv.later c.loop-other.other (omega arith)) c.wake.ensures.value ∙ inv.told;
      later = λ s h. let n : s ≢ c.loop-other.other = omega arith in c.wake.ensures.others s n ∙ inv.later s (omega arith);
      kept = λ s h. elim (cases_eq s c.loop-other.other) [
        | inl e ↦ ap (process_at c.wake.new.table) e ∙ c.wake.ensures.home (ap (λ x. (process_at c.loop-other.table x).state) (sym e) ∙ ap (λ p. p.state) (inv.kept s h) ∙ h) ∙ ap (process_at c.loop-other.table) (sym e) ∙ inv.kept s h
        | inr n ↦ c.wake.ensures.others s n ∙ inv.kept s h
      ];
      settled = λ s h. c.wake.ensures.settled s (inv.settled s h);
      frame = c.wake.ensures.frame ∙ inv.frame;
      own = c.wake.ensures.own ∙ inv.own;
      used = c.wake.ensures.used ∙ inv.used;
      end = inv.end;
    }

pub returns-clause-value : goal.returns-clause-value
returns-clause-value c = sym (ap (table_after_freeing_all c.loop-other.table) (none_left c.args.slot c.loop-other.other c.args.table.now.slots (omega (arith, c.loop-other-test.false, c.loop-other.invariant.end)))) ∙ c.loop-other.invariant.told
