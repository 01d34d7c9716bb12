use Rattle.std.proofs.Common.{[], ◌∷◌, ◌++◌, arith}
use Rattle.std.proofs.lemmas.Result.{err_from_is_err_and}
use Rattle.std.specs.Prelude.{string_bytes}
use Rattle.mx_app_start.proofs.SetupLemmas.{as_many_services, asked_on, first_faulty, first_no_text, first_setup, started}
use Rattle.mx_app_start.proofs.starting.read_all.Goals as goal

pub returns-in_err-config-clause-fault : goal.returns-in_err-config-clause-fault
returns-in_err-config-clause-fault g c =
    let p = err_from_is_err_and c.from_residual.result c.from_residual.ensures.1 in
    let h = c.in_err-config.ensures.fault in
    rw (p.1, p.2) (h.0, h.1, first_setup g.C.Course.Tells c.args.config.now c.args.text.now h.0 c.in_err-config.field-0.0 h.2)

pub returns-in_err-text-clause-fault : goal.returns-in_err-text-clause-fault
returns-in_err-text-clause-fault g c =
    let p = err_from_is_err_and c.from_residual-in_err-text.result c.from_residual-in_err-text.ensures.1 in
    let s = c.in_ok-config.ensures.read in
    let h = c.in_err-text.ensures.fault in
    rw (p.1, p.2) (
      s.0 ++ h.0 ∷ [],
      asked_on (g.R.Reader.asked c.args.reader.now) (g.R.Reader.asked c.setup_of.new.reader) (g.R.Reader.asked c.text_of.new.reader) s.0 (h.0 ∷ []) s.1 h.1,
      first_no_text g.C.Course.Tells c.args.config.now c.args.text.now s.0 h.0 c.in_ok-config.config c.in_ok-config.services.items c.in_err-text.field-0.0 s.2 h.2,
    )

pub returns-in-Err-clause-fault : goal.returns-in-Err-clause-fault
returns-in-Err-clause-fault g c =
    let s = c.in_ok-config.ensures.read in
    let t = c.in_ok-text.ensures.text in (
      s.0 ++ t.0 ∷ [],
      asked_on (g.R.Reader.asked c.args.reader.now) (g.R.Reader.asked c.setup_of.new.reader) (g.R.Reader.asked c.text_of.new.reader) s.0 (t.0 ∷ []) s.1 t.1,
      first_faulty g.C.Course.Tells c.args.config.now c.args.text.now (string_bytes c.in_ok-text.text) c.as_str.result.now s.0 t.0 c.in_ok-config.config c.in_ok-config.services.items c.in-Err.error c.misstated.result s.2 c.as_str.ensures.value t.2 c.in-Err.ensures.fault c.misstated.ensures,
    )

pub returns-in-Ok-clause-read : goal.returns-in-Ok-clause-read
returns-in-Ok-clause-read g c =
    let s = c.in_ok-config.ensures.read in
    let t = c.in_ok-text.ensures.text in (
      s.0 ++ t.0 ∷ [],
      asked_on (g.R.Reader.asked c.args.reader.now) (g.R.Reader.asked c.setup_of.new.reader) (g.R.Reader.asked c.text_of.new.reader) s.0 (t.0 ∷ []) s.1 t.1,
      started g.C.Course.IsSaid c.args.config.now c.args.text.now (string_bytes c.in_ok-text.text) c.as_str.result.now s.0 t.0 c.in_ok-config.config c.read.new.config c.in_ok-config.services.items c.in-Ok.lines.items s.2 c.as_str.ensures.value t.2 c.in-Ok.ensures.said,
    )

pub returns-in-Ok-clause-some : goal.returns-in-Ok-clause-some
returns-in-Ok-clause-some g c =
    let s = c.in_ok-config.ensures.read in
    omega (arith, as_many_services c.args.config.now s.0 c.in_ok-config.config c.in_ok-config.services.items s.2, c.in_ok-config.config.some_lines)

pub returns-in-Ok-clause-few : goal.returns-in-Ok-clause-few
returns-in-Ok-clause-few g c =
    let s = c.in_ok-config.ensures.read in
    omega (arith, as_many_services c.args.config.now s.0 c.in_ok-config.config c.in_ok-config.services.items s.2, c.in_ok-config.config.lines_fit)
