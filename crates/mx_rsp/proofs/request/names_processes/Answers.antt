use Rattle.std.proofs.Common.{◌∙◌, ℕ, ◌+◌, codes, ap, drop, sym, arith}
use Rattle.std.specs.Prelude.{slice_range}
use Rattle.mx_rsp.specs.Requests.{has_feature, names_processes}
use Rattle.mx_rsp.proofs.Features.{another, found, further, last}
use Rattle.mx_rsp.proofs.request.names_processes.Goals.{then-ends_feature+else-eq, else-ends_feature}
use Rattle.mx_rsp.proofs.request.names_processes.Goals as goal

pub returns-then-eq : goal.returns-then-eq
returns-then-eq c =
    let text = c.args.text.now in
    found (codes "multiprocess+") text c.loop-at.begin c.loop-at.at (names_processes text) c.loop-at.invariant.has c.loop-at.invariant.begun c.loop-at-test.true
    (sym c.ends_feature.ensures ∙ c.if-ends_feature.true) (sym c.eq.ensures ∙ c.if-eq.true)

pub loop-at-preserved : goal.loop-at-preserved
loop-at-preserved c =
    let text = c.args.text.now in
    let at = c.loop-at.at in
    elim c.if-ends_feature.branch [
      | then-ends_feature+else-eq w ↦ record {
        has = ap (λ (k : ℕ). has_feature (codes "multiprocess+") (slice_range text k (at + 1)) (drop (at + 1) text)) w.begin-is
            ∙ another (codes "multiprocess+") text c.loop-at.begin at (names_processes text) c.loop-at.invariant.has c.loop-at.invariant.begun c.loop-at-test.true
            (sym c.ends_feature.ensures ∙ w.if-ends_feature.true) (sym w.eq.ensures ∙ w.if-eq.false);
        begun = omega (arith, w.begin-is);
      }
      | else-ends_feature w ↦ record {
        has = ap (λ (k : ℕ). has_feature (codes "multiprocess+") (slice_range text k (at + 1)) (drop (at + 1) text)) w.begin-is
            ∙ further (codes "multiprocess+") text c.loop-at.begin at (names_processes text) c.loop-at.invariant.has c.loop-at.invariant.begun c.loop-at-test.true
            (sym c.ends_feature.ensures ∙ w.if-ends_feature.false);
        begun = omega (arith, w.begin-is, c.loop-at.invariant.begun);
      }
    ]

pub returns : goal.returns
returns c =
    let text = c.args.text.now in
    c.eq-2.ensures ∙ last (codes "multiprocess+") text c.loop-at.begin c.loop-at.at (names_processes text) c.loop-at.invariant.has c.loop-at-test.false
