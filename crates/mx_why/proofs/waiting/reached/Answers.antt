use Rattle.std.proofs.Common.{◌≡◌, ◌∙◌, ℕ, suc, ◌+◌, List, Bool, ap, arith}
use Rattle.mx_why.specs.Waiting.{next_reached, reached, reached_within}
use Rattle.mx_why.proofs.waiting.reached.Goals as goal

pub loop-round-preserved : goal.loop-round-preserved
loop-round-preserved c =
    let one : suc c.loop-round.round ≡ c.loop-round.round + 1 = omega arith in
    c.next_reached-reached.ensures ∙ ap (λ (rs : List Bool). next_reached c.args.end.now rs) c.loop-round.invariant
    ∙ ap (λ (n : ℕ). reached_within n c.args.end.now) one

pub returns : goal.returns
unfolding reached
returns c =
    let all : c.loop-round.round ≡ 32 = omega arith in
    c.loop-round.invariant ∙ ap (λ (n : ℕ). reached_within n c.args.end.now) all
