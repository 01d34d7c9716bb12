use Rattle.std.proofs.Common.{◌≡◌, ◌∙◌, ◌++◌, ℕ, Bool, Option, true, false, length, ap, subst, sym, arith}
use Rattle.mx_machine.specs.declared.events.Event.{Event}
use Rattle.mx_machine.specs.Proc.TableState.{TableState}
use Rattle.mx_machine.specs.History.{BootAndHistory, replay}
use Rattle.mx_machine.specs.Machine.{world_of}
use Rattle.mx_turns.specs.Made.{HasOffered}
use Rattle.mx_turns.specs.Turns.{next_now, offered, outside, respawns, runs, takes}
use Rattle.mx_turns.proofs.TurnLemmas.{cpus_now, slots_now, turn_done, turn_full}
use Rattle.mx_turns.proofs.turns.make_turn.Goals as goal

pub returns-then-is_full : goal.returns-then-is_full
returns-then-is_full c =
    let m = c.args.machine.now in
    let n = c.offer_takes-is_full.new.machine in
    let p = c.offer_runs.new.machine in
    let cpus : c.cpus-cpus.result ≡ length (world_of m).cpus = c.cpus-cpus.ensures ∙ ap (λ (k : BootAndHistory). length (replay k).cpus) c.kernel.ensures ∙ sym (cpus_now m) in
    let taken = subst (λ (b : Bool). HasOffered m (offered (world_of m) (takes c.cpus-cpus.result)) b n) c.if-is_full.true c.offer_takes-is_full.ensures.offered in
    turn_full m n p c.args.next (subst (λ (k : ℕ). HasOffered m (offered (world_of m) (takes k)) true n) cpus taken)
    (subst (λ (k : ℕ). HasOffered n (offered (world_of n) (runs k)) false p) cpus c.offer_runs.ensures.offered)

pub offer_others-requires : goal.offer_others-requires
offer_others-requires c =
    let m = c.args.machine.now in
    let cpus : c.cpus-cpus.result ≡ length (world_of m).cpus = c.cpus-cpus.ensures ∙ ap (λ (k : BootAndHistory). length (replay k).cpus) c.kernel.ensures ∙ sym (cpus_now m) in
    omega (arith, cpus, c.requires, c.offer_runs.ensures.actors, c.offer_takes-is_full.ensures.actors)

pub returns : goal.returns
returns c =
    let m = c.args.machine.now in
    let n = c.offer_takes-is_full.new.machine in
    let p = c.offer_runs.new.machine in
    let q = c.offer_others.new.machine in
    let full = c.offer_others.result in
    let cpus : c.cpus-cpus.result ≡ length (world_of m).cpus = c.cpus-cpus.ensures ∙ ap (λ (k : BootAndHistory). length (replay k).cpus) c.kernel.ensures ∙ sym (cpus_now m) in
    let slots : c.from-slots.result ≡ length (world_of m).services =
    c.from-slots.ensures ∙ c.slot_count.ensures.value ∙ ap (λ (t : TableState). length t.slots) (c.table.ensures ∙ ap (λ (k : BootAndHistory). (replay k).table) c.kernel-2.ensures)
    ∙ sym (slots_now m) ∙ sym c.sound.ensures.holds.served in
    let taken = subst (λ (b : Bool). HasOffered m (offered (world_of m) (takes c.cpus-cpus.result)) b n) c.if-is_full.false c.offer_takes-is_full.ensures.offered in
    turn_done m n p q c.args.next full (subst (λ (k : ℕ). HasOffered m (offered (world_of m) (takes k)) false n) cpus taken)
    (subst (λ (k : ℕ). HasOffered n (offered (world_of n) (runs k)) false p) cpus c.offer_runs.ensures.offered)
    (subst (λ (j : ℕ). HasOffered p (offered (world_of p) (outside (length (world_of m).cpus) (next_now (world_of m).table c.args.next) ++ respawns (length (world_of m).cpus) j)) full q) slots
    (subst (λ (k : ℕ). HasOffered p (offered (world_of p) (outside k (next_now (world_of m).table c.args.next) ++ respawns k c.from-slots.result)) full q) cpus
    (subst (λ (x : Option Event). HasOffered p (offered (world_of p) (outside c.cpus-cpus.result x ++ respawns c.cpus-cpus.result c.from-slots.result)) full q) c.next_now-event.ensures
    c.offer_others.ensures.offered)))
