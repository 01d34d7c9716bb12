use Rattle.std.proofs.Common.{ℕ, List, Option, refl, subst, sym}
use Rattle.std.specs.Io.KnownBytes.{Appends}
use Rattle.std.specs.Prelude.{option_map}
use Rattle.mx_app_step.specs.Machine.{world_of}
use Rattle.mx_machine.specs.declared.history.Record.{Record}
use Rattle.mx_app_turns.specs.Begun.{IsDone, IsReady}
use Rattle.mx_app_turns.specs.Sweeping.{SweepOf}
use Rattle.mx_app_turns.proofs.ReadyLemmas.{same_sweep}
use Rattle.mx_app_turns.proofs.sweeping.sweep_begun.Goals as goal

pub sweep_started-requires-clause-ready : goal.sweep_started-requires-clause-ready
sweep_started-requires-clause-ready g c κs within =
    let started = c.args.begun.started in
    subst (λ (rs : List Record). IsReady started.machine started.config started.other rs) (sym c.as_slice.ensures.value) c.requires

pub returns-clause-done : goal.returns-clause-done
returns-clause-done g c =
    let started = c.args.begun.started in
    let save : Option (List ℕ) = option_map (λ s. s.now) c.args.wanted.save in
    let w = world_of started.machine in
    let same = same_sweep w w started.other c.as_slice.result.now started.lines.items c.as_slice-2.result.now c.args.begun.fault.items c.args.wanted.bound refl c.as_slice.ensures.value c.as_slice-2.ensures.value in
    let h = c.sweep_started.ensures.done in (
      h.0,
      h.1,
      h.2,
      h.3,
      subst (λ (s : SweepOf). IsDone s c.args.wanted.from c.args.wanted.to save h.0 h.1
          (λ (text : List ℕ). Appends (g.W.Write.contents c.args.channels.now.out) (g.W.Write.contents c.sweep_started.new.channels.out) text) c.sweep_started.result) same h.4,
    )
