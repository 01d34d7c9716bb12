use Rattle.std.proofs.Common.{◌∙◌, [], ap, refl, sym}
use Rattle.std.specs.Prelude.{option_map}
use Rattle.std.proofs.lemmas.List.{append-nil}
use Rattle.mx_app_command.specs.Files.{word_of}
use Rattle.mx_app.proofs.Spared.{spares_first, spares_forced, spares_none, spares_one}
use Rattle.mx_app.proofs.sparing.spare_for_request.Goals as goal

pub returns-then-force : goal.returns-then-force
returns-then-force g c = ([], sym (append-nil _), spares_forced c.args.request c.args.force c.if-force.true)

pub returns-in_default : goal.returns-in_default
returns-in_default g c = ([], sym (append-nil _), spares_none c.args.request c.args.force c.if-force.false [] _ (sym c.writes.ensures ∙ ap (option_map word_of) c.in_default.is) refl refl)

pub returns-then-writes_several : goal.returns-then-writes_several
returns-then-writes_several g c =
    let h = c.spare_numbered.ensures in (
      h.0,
      h.1,
      spares_first c.args.request c.args.force c.if-force.false h.0 c.spare_numbered.result c.written_kind-kind.result (word_of c.in-Some.word) (sym c.writes.ensures ∙ ap (option_map word_of) c.in-Some.is) c.written_kind-kind.ensures
          (sym c.writes_several.ensures ∙ c.if-writes_several.true) h.2,
    )

pub returns-else-writes_several : goal.returns-else-writes_several
returns-else-writes_several g c =
    let h = c.spare_name.ensures in (
      h.0,
      h.1,
      spares_one c.args.request c.args.force c.if-force.false h.0 c.spare_name.result c.written_kind-kind.result (word_of c.in-Some.word) (sym c.writes.ensures ∙ ap (option_map word_of) c.in-Some.is) c.written_kind-kind.ensures
          (sym c.writes_several.ensures ∙ c.if-writes_several.false) h.2,
    )
