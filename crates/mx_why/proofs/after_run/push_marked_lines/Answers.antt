use Rattle.std.proofs.Common.{◌≡◌, ◌++◌, List, ℕ, codes}
use Rattle.std.specs.Prelude.{true}
use Rattle.mx_why.specs.AfterRun.{careless_lines, fault_lines, idle_if_at_rest, marked_lines}
use Rattle.mx_why.specs.Busy.{busy, busy_lines}
use Rattle.mx_why.specs.Lines.{waits_text}
use Rattle.mx_why.specs.Outside.{outside_text}
use Rattle.mx_why.specs.Unfit.{unfit}
use Rattle.mx_why.specs.UnfitLines.{unfit_lines}
use Rattle.mx_why.specs.Unheard.{unheard, unheard_lines}
use Rattle.mx_why.specs.Verdicts.{verdicts}
use Rattle.mx_why.proofs.Pieces.{joined, last_joined}
use Rattle.mx_why.proofs.after_run.push_marked_lines.Goals as goal

pub returns : goal.returns
unfolding marked_lines
returns c =
    let a0 : List ℕ = waits_text c.args.end.now c.args.notes.now (verdicts c.args.end.now) true in
    let h0 : c.push_never.new.out.items ≡ c.args.out.now.items ++ a0 = c.in_ok-push_never.ensures in
    let a1 : List ℕ = a0 ++ (unheard_lines c.args.end.now c.args.notes.now (unheard c.args.end.now c.args.notes.now)) in
    let h1 : c.push_unheard_lines.new.out.items ≡ c.args.out.now.items ++ a1 = joined c.args.out.now.items a0 (unheard_lines c.args.end.now c.args.notes.now (unheard c.args.end.now c.args.notes.now)) h0 c.in_ok-push_unheard_lines.ensures in
    let a2 : List ℕ = a1 ++ (busy_lines c.args.end.now (busy c.args.end.now c.args.notes.now)) in
    let h2 : c.push_busy_lines.new.out.items ≡ c.args.out.now.items ++ a2 = joined c.args.out.now.items a1 (busy_lines c.args.end.now (busy c.args.end.now c.args.notes.now)) h1 c.in_ok-push_busy_lines.ensures in
    let a3 : List ℕ = a2 ++ (fault_lines c.args.end.now c.args.notes.now) in
    let h3 : c.push_faults.new.out.items ≡ c.args.out.now.items ++ a3 = joined c.args.out.now.items a2 (fault_lines c.args.end.now c.args.notes.now) h2 c.in_ok-push_faults.ensures in
    let a4 : List ℕ = a3 ++ (careless_lines c.args.config.now c.args.end.now c.args.calls.now) in
    let h4 : c.push_each_careless.new.out.items ≡ c.args.out.now.items ++ a4 = joined c.args.out.now.items a3 (careless_lines c.args.config.now c.args.end.now c.args.calls.now) h3 c.in_ok-push_each_careless.ensures in
    let a5 : List ℕ = a4 ++ (outside_text c.args.end.now c.args.lost.now) in
    let h5 : c.push_outside.new.out.items ≡ c.args.out.now.items ++ a5 = joined c.args.out.now.items a4 (outside_text c.args.end.now c.args.lost.now) h4 c.in_ok-push_outside.ensures in
    let a6 : List ℕ = a5 ++ (idle_if_at_rest c.args.end.now c.args.notes.now) in
    let h6 : c.push_idle_at_rest.new.out.items ≡ c.args.out.now.items ++ a6 = joined c.args.out.now.items a5 (idle_if_at_rest c.args.end.now c.args.notes.now) h5 c.in_ok-push_idle_at_rest.ensures in
    last_joined c.push_lacking_lines.result c.args.out.now.items a6 (unfit_lines c.args.config.now (unfit c.args.config.now c.args.end.now)) c.push_idle_at_rest.new.out.items c.push_lacking_lines.new.out.items h6 c.push_lacking_lines.ensures
