use Rattle.std.proofs.Common.{◌∙◌, ◌∷◌, ℕ, List, [], Option, ap, refl, subst, sym}
use Rattle.std.specs.Prelude.{option_map}
use Rattle.std.specs.Io.KnownBytes.{Appends}
use Rattle.std.proofs.lemmas.List.{append-nil}
use Rattle.mx_app_start.proofs.Appended.{appends_nothing}
use Rattle.mx_app_step.specs.Kept.{text_kept}
use Rattle.mx_app_step.specs.Written.{kept}
use Rattle.mx_machine.specs.Boot.{world_at_boot}
use Rattle.mx_machine.specs.declared.config.Config.{Config}
use Rattle.mx_machine.specs.History.{BootAndHistory}
use Rattle.mx_app_turns.specs.Turned.{IsBegun, IsTurnedTo, coming}
use Rattle.mx_app_turns.proofs.TurnedLemmas.{not_begun, spared, untold, written}
use Rattle.mx_app_turns.proofs.turning.turns.Goals as goal

pub returns-in_err-begun : goal.returns-in_err-begun
returns-in_err-begun g c =
    let config = c.args.names.config.now in
    let file : Option (List ℕ) = option_map (λ s. s.now) c.args.names.events in
    let log = c.args.names.log.now in
    let ticks = c.args.wanted.ticks in
    let bound = c.args.wanted.bound in
    let h = c.in_err-begun.ensures.fault in
    (h.0, [], [], h.1, sym (append-nil _), sym (append-nil _), not_begun (g.S.StopSign.can_stop c.args.sign.now) config file log ticks bound h.0 (λ (text : List ℕ). Appends (g.W.Write.contents c.args.channels.now.out) (g.W.Write.contents c.args.channels.now.out) text) c.in_err-begun.field-0.0 c.from_residual.result h.2 (appends_nothing _) c.from_residual.ensures.1)

pub returns-in_err-spare_programs : goal.returns-in_err-spare_programs
returns-in_err-spare_programs g c =
    let config = c.args.names.config.now in
    let file : Option (List ℕ) = option_map (λ s. s.now) c.args.names.events in
    let log = c.args.names.log.now in
    let s = c.in_ok-begun.ensures.begun in
    let b = c.in_ok-begun.begun in
    let begun = subst (λ (k : Config). IsBegun config file s.0 k s.2 b.events.items) (sym s.6) s.4 in
    let h = c.in_err-spare_programs.ensures.over in (
      s.0,
      [],
      [],
      s.3,
      sym (append-nil _),
      sym (append-nil _),
      spared (g.S.StopSign.can_stop c.args.sign.now) config file log c.args.wanted.ticks c.args.wanted.bound s.0 (λ (text : List ℕ). Appends (g.W.Write.contents c.args.channels.now.out) (g.W.Write.contents c.args.channels.now.out) text) b.config s.2 b.events.items
          c.in_err-spare_programs.field-0.0 c.from_residual-in_err-spare_programs.result begun (h.0, refl, appends_nothing _, h.1) c.from_residual-in_err-spare_programs.ensures.1,
    )

pub returns-in_err-save_and_report : goal.returns-in_err-save_and_report
returns-in_err-save_and_report g c =
    let config = c.args.names.config.now in
    let file : Option (List ℕ) = option_map (λ s. s.now) c.args.names.events in
    let log = c.args.names.log.now in
    let s = c.in_ok-begun.ensures.begun in
    let b = c.in_ok-begun.begun in
    let begun = subst (λ (k : Config). IsBegun config file s.0 k s.2 b.events.items) (sym s.6) s.4 in
    let booted = s.5 ∙ ap (λ (k : Config). world_at_boot k s.2) (sym s.6) in
    let unnamed = c.in_ok-spare_programs.ensures.spared in
    let done = c.drive-end.ensures s.2 booted in
    let stops = g.S.StopSign.can_stop c.args.sign.now in
    let k = c.kernel.result.now in
    let made = subst (λ (x : BootAndHistory). IsTurnedTo stops b.config s.2 c.args.wanted.bound (coming b.events.items c.args.wanted.ticks) x c.drive-end.result done.0) (sym c.kernel.ensures) done.2 in
    let h = c.in_err-save_and_report.ensures.unsaved in (
      s.0,
      h.0,
      done.0,
      ap g.R.Reader.asked c.in_err-save_and_report.ensures.reader ∙ s.3,
      h.1,
      done.1,
      untold stops config file log c.args.wanted.ticks c.args.wanted.bound s.0 (λ (text : List ℕ). Appends (g.W.Write.contents c.args.channels.now.out) (g.W.Write.contents c.save_and_report.new.channels.out) text) b.config s.2 b.events.items
          k c.drive-end.result done.0 begun unnamed made h.0 c.in_err-save_and_report.field-0.0 c.from_residual-in_err-save_and_report.result h.2 c.from_residual-in_err-save_and_report.ensures.1,
    )

pub returns : goal.returns
returns g c =
    let config = c.args.names.config.now in
    let file : Option (List ℕ) = option_map (λ s. s.now) c.args.names.events in
    let log = c.args.names.log.now in
    let s = c.in_ok-begun.ensures.begun in
    let b = c.in_ok-begun.begun in
    let begun = subst (λ (k : Config). IsBegun config file s.0 k s.2 b.events.items) (sym s.6) s.4 in
    let booted = s.5 ∙ ap (λ (k : Config). world_at_boot k s.2) (sym s.6) in
    let unnamed = c.in_ok-spare_programs.ensures.spared in
    let done = c.drive-end.ensures s.2 booted in
    let stops = g.S.StopSign.can_stop c.args.sign.now in
    let k = c.kernel.result.now in
    let made = subst (λ (x : BootAndHistory). IsTurnedTo stops b.config s.2 c.args.wanted.bound (coming b.events.items c.args.wanted.ticks) x c.drive-end.result done.0) (sym c.kernel.ensures) done.2 in
    let h = c.in_ok-save_and_report.ensures.saved in (
      s.0,
      kept log (text_kept k) ∷ [],
      done.0,
      ap g.R.Reader.asked c.in_ok-save_and_report.ensures.reader ∙ s.3,
      h.0,
      done.1,
      written stops config file log c.args.wanted.ticks c.args.wanted.bound s.0 (λ (text : List ℕ). Appends (g.W.Write.contents c.args.channels.now.out) (g.W.Write.contents c.save_and_report.new.channels.out) text) b.config s.2 b.events.items
          k c.drive-end.result done.0 begun unnamed made h.1,
    )
