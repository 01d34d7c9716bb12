-- One line of a trial more, and what a trial tells.
use Rattle.std.proofs.Common.{◌≡◌, ◌∙◌, ◌<◌, ◌+◌, ℕ, suc, ◌++◌, Bool, Option, List, [], length, drop, get_or, sym, ap, arith}
use Rattle.std.proofs.Math.Seq.{drop-cons}
use Rattle.mx_machine.specs.declared.events.Refusal.{Refusal}
use Rattle.mx_machine.specs.Proc.TableState.{TableState}
use Rattle.mx_machine.specs.Service.{Service}
use Rattle.mx_app_step.specs.Machine.{MachineState, world_of}
use Rattle.mx_machine.specs.World.{World}
use Rattle.mx_print_report.specs.declared.doing.Naming.{Naming}
use Rattle.mx_print_report.specs.declared.doing.Naming.TheVariants.{Endpoints}
use Rattle.mx_print_report.specs.Report.{process_words}
use Rattle.mx_print_answers.specs.declared.said.Said.{Said}
use Rattle.mx_print_answers.specs.Said.{said_line}
use Rattle.mx_turns.specs.declared.trials.Findings.{Findings}
use Rattle.mx_turns.specs.Findings.{findings_of, is_full, refusal_of}
use Rattle.mx_turns.specs.Sweep.{Run, are_alike, end_text, indented, kept_text, process_lines, said_text, trial_text}
use Rattle.mx_turns.specs.Swept.{HasRun}
use Rattle.mx_turns.specs.declared.faulted_run.Course.{Course}
use Rattle.mx_turns.specs.declared.turns.Ending.{Ending}

pub process_lines_more : (by : Naming) (t : TableState) (services : List Service) (i : ℕ) (v : Service) → i < length services → v ≡ get_or services i v
    → process_lines by t i (drop i services) ≡ indented (process_words by t i v.name.bytes) ++ process_lines by t (i + 1) (drop (i + 1) services)
process_lines_more by t services i v h is =
    let next : suc i ≡ i + 1 = omega arith in
    ap (process_lines by t i) (drop-cons services i v h)
    ∙ ap (λ (u : Service). indented (process_words by t i u.name.bytes) ++ process_lines by t (i + 1) (drop (suc i) services)) (sym is)
    ∙ ap (λ (n : ℕ). indented (process_words by t i v.name.bytes) ++ process_lines by t (i + 1) (drop n services)) next

pub said_text_more : (said : List Said) (i : ℕ) (d : Said) → i < length said → said_text (drop i said) ≡ indented (said_line (get_or said i d)) ++ said_text (drop (i + 1) said)
said_text_more said i d h =
    let next : suc i ≡ i + 1 = omega arith in
    ap said_text (drop-cons said i d h) ∙ ap (λ n. indented (said_line (get_or said i d)) ++ said_text (drop n said)) next

-- the lines of a trial, by its machine and its course
pub trial_is : (r : Run) (m : MachineState) (c : Course) → HasRun r m c → (old new : List ℕ) → old ≡ [] → new ≡ old ++ said_text c.said.items ++ end_text Endpoints (world_of m) c.ending ++ kept_text (world_of m).table.devices.console.kept
    → new ≡ trial_text r
trial_is r m c is old new none h =
    let kept : World → List ℕ = λ w. kept_text w.table.devices.console.kept in
    h ∙ ap (λ (l : List ℕ). l ++ said_text c.said.items ++ end_text Endpoints (world_of m) c.ending ++ kept (world_of m)) none
    ∙ ap (λ (l : List Said). said_text l ++ end_text Endpoints (world_of m) c.ending ++ kept (world_of m)) is.said
    ∙ ap (λ (e : Ending). said_text r.said ++ end_text Endpoints (world_of m) e ++ kept (world_of m)) is.ending
    ∙ ap (λ (w : World). said_text r.said ++ end_text Endpoints w r.ending ++ kept w) is.world

-- what a position tells, by its parts
pub findings_are : (r w : Run) (a f : Bool) (q : Option Refusal) → a ≡ are_alike r w → q ≡ refusal_of r.said → f ≡ is_full r.ending
    → ◌≡◌ {A = Findings} (record { is_alike = a; refusal = q; is_full = f }) (findings_of r w)
findings_are r w a f q alike refused full =
    ap (λ b. let x : Findings = record { is_alike = b; refusal = q; is_full = f } in x) alike
    ∙ ap (λ o. let x : Findings = record { is_alike = are_alike r w; refusal = o; is_full = f } in x) refused
    ∙ ap (λ b. let x : Findings = record { is_alike = are_alike r w; refusal = refusal_of r.said; is_full = b } in x) full
