use Rattle.std.proofs.Common.{◌≡◌, ◌∙◌, ◌++◌, append_assoc, List, ap, subst}
use Rattle.mx_app_step.specs.Report.{report_text}
use Rattle.mx_app_step.specs.Service.{Service}
use Rattle.mx_machine.specs.History.{replay}
use Rattle.mx_machine.specs.Proc.TableState.{TableState}
use Rattle.mx_walk.specs.Walks.{world_here}
use Rattle.mx_app_look.specs.Answers.{line_end}
use Rattle.mx_app_look.proofs.Kernels.{same_services, same_table}
use Rattle.mx_app_look.proofs.world_texts.push_processes.Goals as goal

pub returns-clause-text : goal.returns-clause-text
returns-clause-text c =
    let w = world_here c.args.walker.now in
    let k = replay c.kernel.result.now in
    let table = same_table c.kernel.result.now c.machine.result.now w c.kernel.ensures c.machine.ensures.world in
    let services = same_services c.kernel.result.now c.machine.result.now w c.kernel.ensures c.machine.ensures.world in
    let same : report_text k.table k.services ≡ report_text w.table w.services = ap (λ (t : TableState). report_text t k.services) table ∙ ap (λ (s : List Service). report_text w.table s) services in
    let r = report_text k.table k.services in
    let out = c.args.out.now.items in
    let first : c.as_slice.result.now ≡ r = c.as_slice.ensures.value ∙ c.in_ok-text.ensures in
    let end : c.line_end.result.now ≡ line_end r = c.line_end.ensures ∙ ap line_end (c.as_slice-2.ensures.value ∙ c.in_ok-text.ensures) in
    let appended : c.extend_from_slice-2.new.self.items ≡ out ++ (r ++ line_end r) =
    c.in_ok-extend_from_slice-2.ensures.items ∙ ap (λ t. t ++ c.line_end.result.now) c.in_ok-extend_from_slice.ensures.items
    ∙ append_assoc out c.as_slice.result.now c.line_end.result.now
    ∙ ap (λ t. out ++ (t ++ c.line_end.result.now)) first ∙ ap (λ t. out ++ (r ++ t)) end in
    subst (λ t. c.extend_from_slice-2.new.self.items ≡ out ++ (t ++ line_end t)) same appended
