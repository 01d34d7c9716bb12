-- One line of states more.
use Rattle.std.proofs.Common.{◌≡◌, ◌∙◌, ◌<◌, ◌+◌, ℕ, suc, ◌++◌, List, length, drop, get_or, sym, ap, arith}
use Rattle.std.proofs.Math.Seq.{drop-cons}
use Rattle.mx_machine.specs.Proc.TableState.{TableState}
use Rattle.mx_machine.specs.Service.{Service}
use Rattle.mx_explore.specs.Outcomes.{state_line, state_lines}

pub state_lines_more : (t : TableState) (services : List Service) (i : ℕ) (v : Service) → i < length services → v ≡ get_or services i v
    → state_lines t i (drop i services) ≡ state_line t i v.name.bytes ++ state_lines t (i + 1) (drop (i + 1) services)
state_lines_more t services i v h is =
    let next : suc i ≡ i + 1 = omega arith in
    ap (state_lines t i) (drop-cons services i v h)
    ∙ ap (λ (u : Service). state_line t i u.name.bytes ++ state_lines t (i + 1) (drop (suc i) services)) (sym is)
    ∙ ap (λ (n : ℕ). state_line t i v.name.bytes ++ state_lines t (i + 1) (drop n services)) next
