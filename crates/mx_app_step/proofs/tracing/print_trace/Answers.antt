use Rattle.std.proofs.Common.{◌∙◌, ◌+◌, ℕ, Option, ap, inl, subst}
use Rattle.std.specs.Io.KnownBytes.{Appends}
use Rattle.mx_app_start.specs.Log.{lines_above}
use Rattle.mx_app_start.specs.Machine.{world_of}
use Rattle.mx_machine.specs.declared.events.Refusal.{Refusal}
use Rattle.mx_app_step.specs.Traces.{IsTraced}
use Rattle.mx_app_step.proofs.FrontLemmas.{err_always}
use Rattle.mx_app_step.proofs.TraceLemmas.{line_begun}
use Rattle.mx_app_step.proofs.tracing.print_trace.Goals as goal

pub returns-in_err-print_transitions-clause-begun : goal.returns-in_err-print_transitions-clause-begun
returns-in_err-print_transitions-clause-begun g c = err_always c.from_residual.result _ (inl c.in_err-print_transitions.ensures.front)

pub returns-in_err-print_refusal-in-Some-clause-begun : goal.returns-in_err-print_refusal-in-Some-clause-begun
returns-in_err-print_refusal-in-Some-clause-begun g c =
    let w = world_of c.args.machine.now in
    let x = g.W.Write.contents c.args.out.now in
    let y = g.W.Write.contents c.print_transitions.new.out in
    let z = g.W.Write.contents c.print_refusal.new.out in
    let n = c.in-Some.number in
    let above = c.lines_above-above.ensures.value ∙ ap lines_above c.rules.ensures in
    let h = subst (λ (o : Option (ℕ × Refusal)). IsTraced w c.args.records.now c.args.from o (λ t. Appends x y t)) c.in-Some.is c.in_ok-print_transitions.ensures.printed in
    err_always c.from_residual-in_err-print_refusal-in-Some.result _
    (line_begun w c.args.records.now c.args.from n c.in-Some.refusal x y z (c.lines_above-above.result + n) (ap (λ k. k + n) above) h.0 h.1 c.in_err-print_refusal-in-Some.ensures.front)
