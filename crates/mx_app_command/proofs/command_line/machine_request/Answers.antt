use Rattle.std.proofs.Common.{◌≡◌, ◌∙◌, codes, false, sym, true≢false}
use Rattle.std.specs.Str.{bytes_eq}
use Rattle.clap.specs.Words.{found_of, rows_of}
use Rattle.mx_app_command.specs.Words.{is_alone}
use Rattle.mx_app_command.proofs.Asked.{alone_left, history_left}
use Rattle.mx_app_command.proofs.command_line.machine_request.Goals.{else-eq, then-eq}
use Rattle.mx_app_command.proofs.command_line.machine_request.Goals as goal

pub alone_request-requires-clause-asked : goal.alone_request-requires-clause-asked
alone_request-requires-clause-asked c =
    alone_left c.args.name.now (rows_of (found_of c.args.matches.now)) (sym c.is_alone.ensures ∙ c.if-is_alone.true) c.requires

pub history_request-requires-clause-asked : goal.history_request-requires-clause-asked
history_request-requires-clause-asked c =
    let alone : is_alone c.args.name.now ≡ false = sym c.is_alone.ensures ∙ c.if-is_alone.false in
    elim c.if-eq.branch [
      | then-eq w ↦ absurd (true≢false (sym w.if-eq.true ∙ sym w.value-is ∙ c.if-eq-2.false))
      | else-eq w ↦
          (let step : bytes_eq c.args.name.now (codes "step") ≡ false = sym c.eq.ensures ∙ w.if-eq.false in
          let db : bytes_eq c.args.name.now (codes "db") ≡ false = sym w.eq-else-eq.ensures ∙ sym w.value-is ∙ c.if-eq-2.false in
          history_left c.args.name.now (rows_of (found_of c.args.matches.now)) alone step db c.requires)
    ]
