use Rattle.std.proofs.Common.{◌∙◌, [], ◌∷◌, ◌++◌}
use Rattle.mx_app_start.proofs.SetupLemmas.{asked_on, fewer, lost_there, read_there, refused_there}
use Rattle.mx_app_start.proofs.setup.services_of.Goals as goal

pub returns-in-Err-clause-refused : goal.returns-in-Err-clause-refused
returns-in-Err-clause-refused g c =
    let so_far = c.loop-line.invariant in
    let h = c.in-Err.ensures.refused in (
      so_far.0 ++ h.0 ∷ [],
      asked_on (g.R.Reader.asked c.args.reader.now) (g.R.Reader.asked c.loop-line.reader) (g.R.Reader.asked c.service_of.new.reader) so_far.0 (h.0 ∷ []) so_far.1 h.1,
      refused_there c.args.lines.now c.loop-line.line-index c.len-index.result c.line-item.result so_far.0 h.0 c.loop-line.services.items c.in-Err.problem c.loop-line-test.true c.line-item.is (c.len-index.ensures ∙ c.loop-line.services.ok.0) so_far.2 h.2,
    )

pub returns-in-Err-clause-index : goal.returns-in-Err-clause-index
returns-in-Err-clause-index g c =
    let so_far = c.loop-line.invariant in
    fewer c.args.lines.now c.loop-line.line-index c.len-index.result so_far.0 c.loop-line.services.items c.loop-line-test.true (c.len-index.ensures ∙ c.loop-line.services.ok.0) so_far.2

pub returns-in-Err-push-clause-refused : goal.returns-in-Err-push-clause-refused
returns-in-Err-push-clause-refused g c =
    let so_far = c.loop-line.invariant in
    let h = c.in-Ok.ensures.read in (
      so_far.0 ++ h.0 ∷ [],
      asked_on (g.R.Reader.asked c.args.reader.now) (g.R.Reader.asked c.loop-line.reader) (g.R.Reader.asked c.service_of.new.reader) so_far.0 (h.0 ∷ []) so_far.1 h.1,
      lost_there c.args.lines.now c.loop-line.line-index c.len-index.result c.line-item.result so_far.0 h.0 c.loop-line.services.items c.in-Ok.service c.loop-line-test.true c.line-item.is so_far.2 h.2,
    )

pub returns-in-Err-push-clause-index : goal.returns-in-Err-push-clause-index
returns-in-Err-push-clause-index g c =
    let so_far = c.loop-line.invariant in
    fewer c.args.lines.now c.loop-line.line-index c.len-index.result so_far.0 c.loop-line.services.items c.loop-line-test.true (c.len-index.ensures ∙ c.loop-line.services.ok.0) so_far.2

pub loop-line-preserved : goal.loop-line-preserved
loop-line-preserved g c =
    let so_far = c.loop-line.invariant in
    let h = c.in-Ok.ensures.read in (
      so_far.0 ++ h.0 ∷ [],
      asked_on (g.R.Reader.asked c.args.reader.now) (g.R.Reader.asked c.loop-line.reader) (g.R.Reader.asked c.service_of.new.reader) so_far.0 (h.0 ∷ []) so_far.1 h.1,
      read_there c.args.lines.now c.loop-line.line-index c.line-item.result so_far.0 h.0 c.loop-line.services.items c.push.new.self.items c.in-Ok.service c.loop-line-test.true c.line-item.is c.in-Ok-push.ensures.items so_far.2 h.2,
    )
