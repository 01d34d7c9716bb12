use Rattle.std.proofs.Common.{◌≡◌, ◌≢◌, ◌∙◌, ℕ, true, false, ap, sym, subst, length, length-set, inl, inr}
use Rattle.std.proofs.lemmas.Bool.{cases_eq}
use Rattle.mx_ipc.specs.Proc.declared.process.Process.{Process}
use Rattle.mx_ipc.specs.Proc.declared.process.State.TheVariants.{Ready, Home}
use Rattle.mx_ipc.specs.Proc.declared.errors.Errno.TheVariants.{Dead}
use Rattle.mx_ipc.specs.Proc.Errors.{errno_bits}
use Rattle.mx_ipc.specs.Proc.TableState.{TableState, process_at}
use Rattle.mx_ipc.specs.Proc.States.{is_sending}
use Rattle.mx_ipc.specs.Calls.{goes_on}
use Rattle.mx_respawn.specs.Death.{receives_from_alone}
use Rattle.mx_respawn.proofs.DeathLemmas.{freed_next, fewer_wait, freed_all, sending_names, apart_at, receivers-same, home_sending}
use Rattle.mx_respawn.proofs.death.free_callers.Goals as goal

pub loop-from-smaller : goal.loop-from-smaller
loop-from-smaller c = fewer_wait c.loop-from.table c.unblock.new.self c.go_on.new.table c.in-Some.from c.sound.ensures c.in-Some.ensures.sending c.unblock.ensures.value c.go_on.ensures.waits

freed_is : (c : goal.After-go_on) → c.go_on.new.table ≡ goes_on c.unblock.new.self c.in-Some.from (errno_bits Dead)
freed_is c = c.go_on.ensures.value ∙ ap (goes_on c.unblock.new.self c.in-Some.from) c.bits.ensures

-- the others stay
stays : (c : goal.After-go_on) (t : ℕ) → t ≢ c.in-Some.from → process_at c.go_on.new.table t ≡ process_at c.loop-from.table t
stays c t n = c.go_on.ensures.others t n ∙ ap (λ (w : TableState). process_at w t) c.unblock.ensures.value ∙ apart_at c.loop-from.table.slots c.in-Some.from t _ n

other_than : (w : TableState) (p t : ℕ) → is_sending (process_at w p).state ≡ true → is_sending (process_at w t).state ≡ false → t ≢ p
other_than w p t y n e = let f : true ≡ false = sym y ∙ ap (λ x. is_sending (process_at w x).state) (sym e) ∙ n in cc

ready_now : (c : goal.After-go_on) → (process_at c.go_on.new.table c.in-Some.from).state ≡ Ready
ready_now c = c.go_on.ensures.ready

pub loop-from-preserved : goal.loop-from-preserved
loop-from-preserved c = record {
  told = freed_next c.loop-from.table c.unblock.new.self c.go_on.new.table c.args.slot c.in-Some.from c.sound.ensures (sym c.in-Some.ensures.value) c.in-Some.ensures.sending c.unblock.ensures.value (freed_is c) c.go_on.ensures.waits ∙ c.loop-from.invariant.told;
  frame = c.go_on.ensures.frame ∙ c.unblock.ensures.frame ∙ c.loop-from.invariant.frame;
  settled = λ t h. elim (cases_eq t c.in-Some.from) [
    | inl e ↦ subst (λ x. (process_at c.go_on.new.table x).state ≢ Home) (sym e) (λ k. let f : Ready ≡ Home = sym (ready_now c) ∙ k in cc)
    | inr n ↦ subst (λ (p : Process). p.state ≢ Home) (sym (stays c t n)) (c.loop-from.invariant.settled t h)
  ];
  used = c.go_on.ensures.used ∙ ap (λ (w : TableState). length w.slots) c.unblock.ensures.value ∙ length-set c.loop-from.table.slots _ _ ∙ c.loop-from.invariant.used;
  kept = λ t n. let same = c.loop-from.invariant.kept t n in
      stays c t (other_than c.loop-from.table c.in-Some.from t c.in-Some.ensures.sending (ap (λ p. is_sending p.state) same ∙ n)) ∙ same;
  named = λ t. elim (cases_eq t c.in-Some.from) [
    | inl e ↦ ap (λ x. receives_from_alone (process_at c.go_on.new.table x).state c.args.slot) e ∙ ap (λ st. receives_from_alone st c.args.slot) (ready_now c)
        ∙ sym (sending_names (process_at c.loop-from.table c.in-Some.from).state c.args.slot c.in-Some.ensures.sending)
        ∙ ap (λ x. receives_from_alone (process_at c.loop-from.table x).state c.args.slot) (sym e) ∙ c.loop-from.invariant.named t
    | inr n ↦ ap (λ p. receives_from_alone p.state c.args.slot) (stays c t n) ∙ c.loop-from.invariant.named t
  ];
}

pub returns-clause-value : goal.returns-clause-value
returns-clause-value c = sym (freed_all c.loop-from.table c.args.slot (sym c.caller.ensures.value ∙ c.in_default.is)) ∙ c.loop-from.invariant.told

pub returns-clause-own : goal.returns-clause-own
returns-clause-own c = c.loop-from.invariant.kept c.args.slot c.requires.alone.1

pub returns-clause-others : goal.returns-clause-others
returns-clause-others c s h = c.loop-from.invariant.kept s (home_sending _ h)

pub returns-clause-receivers : goal.returns-clause-receivers
returns-clause-receivers c = receivers-same c.args.slot 0 _ _ c.loop-from.invariant.used c.loop-from.invariant.named
