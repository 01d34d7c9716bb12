use Rattle.std.proofs.Common.{◌≡◌, ◌∙◌, ℕ, List, [], Option, true, false, ap, sym}
use Rattle.std.proofs.lemmas.List.{append-nil}
use Rattle.std.specs.Io.KnownBytes.{Appends}
use Rattle.std.specs.Prelude.{option_map}
use Rattle.mx_app_start.proofs.Appended.{appends_nothing}
use Rattle.mx_app_step.specs.Config.{Config}
use Rattle.mx_app_step.specs.Machine.{world_of}
use Rattle.mx_app_turns.specs.Sweeping.{saves_program}
use Rattle.mx_app_turns.proofs.SweptLemmas.{done, not_begun, spared}
use Rattle.mx_app_turns.proofs.sweeping.sweep.Goals as goal

pub returns-in_err-begun : goal.returns-in_err-begun
returns-in_err-begun g c =
    let names = c.args.names in
    let save : Option (List ℕ) = option_map (λ s. s.now) c.args.wanted.save in
    let wanted = c.args.wanted in
    let h = c.in_err-begun.ensures.fault in (
      h.0,
      [],
      [],
      h.1,
      sym (append-nil _),
      sym (append-nil _),
      not_begun names.config.now names.log.now names.fault.now save wanted.from wanted.to wanted.bound h.0 (λ (text : List ℕ). Appends (g.W.Write.contents c.args.channels.now.out) (g.W.Write.contents c.args.channels.now.out) text)
          c.in_err-begun.field-0.0 c.from_residual.result h.2 (appends_nothing _) c.from_residual.ensures.1,
    )

pub returns-in_err-spare_if_saved : goal.returns-in_err-spare_if_saved
returns-in_err-spare_if_saved g c =
    let names = c.args.names in
    let save : Option (List ℕ) = option_map (λ s. s.now) c.args.wanted.save in
    let wanted = c.args.wanted in
    let b = c.in_ok-begun.ensures.begun in
    let begun = c.in_ok-begun.begun in
    let h = c.in_err-spare_if_saved.ensures.over in
    let named : saves_program b.1 save ≡ true = ap (λ (k : Config). saves_program k save) (sym b.7) ∙ h.0 in (
      b.0,
      [],
      [],
      b.3,
      sym (append-nil _),
      sym (append-nil _),
      spared names.config.now names.log.now names.fault.now save wanted.from wanted.to wanted.bound b.0 (λ (text : List ℕ). Appends (g.W.Write.contents c.args.channels.now.out) (g.W.Write.contents c.args.channels.now.out) text)
          b.1 b.2 begun.started.lines.items begun.fault.items c.in_err-spare_if_saved.field-0.0 c.from_residual-in_err-spare_if_saved.result b.4 named (appends_nothing _) h.1
          c.from_residual-in_err-spare_if_saved.ensures.1,
    )

pub returns : goal.returns
returns g c =
    let names = c.args.names in
    let save : Option (List ℕ) = option_map (λ s. s.now) c.args.wanted.save in
    let wanted = c.args.wanted in
    let b = c.in_ok-begun.ensures.begun in
    let begun = c.in_ok-begun.begun in
    let unnamed : saves_program b.1 save ≡ false = ap (λ (k : Config). saves_program k save) (sym b.7) ∙ c.in_ok-spare_if_saved.ensures.spared in
    let d = c.sweep_begun.ensures.done in (
      b.0,
      d.0,
      d.1,
      ap g.R.Reader.asked c.sweep_begun.ensures.reader ∙ b.3,
      d.2,
      d.3,
      done names.config.now names.log.now names.fault.now save wanted.from wanted.to wanted.bound b.0 (λ (text : List ℕ). Appends (g.W.Write.contents c.args.channels.now.out) (g.W.Write.contents c.sweep_begun.new.channels.out) text)
          b.1 b.2 begun.started.lines.items begun.fault.items b.4 unnamed d.0 d.1 (world_of begun.started.machine) begun.started.other c.sweep_begun.result b.5 b.6 d.4,
    )
