use Rattle.std.proofs.Common.{◌≡◌, ◌∙◌, ◌<◌, ◌-◌, ◌+◌, ◌||◌, ℕ, Bool, suc, ap, sym, arith}
use Rattle.std.specs.List.{list_any, range_with_len}
use Rattle.mx_look.specs.declared.transition.Transition.{Transition}
use Rattle.mx_app_look.specs.Happenings.{fails}
use Rattle.mx_app_look.proofs.happening.any_fails.Goals as goal

-- those from n on
abbrev from : Transition → ℕ → Bool
from x n = list_any (fails x) (range_with_len n (32 - n))

one_more : (x : Transition) (n : ℕ) → n < 32 → from x n ≡ fails x n || from x (n + 1)
one_more x n lt =
    let more : 32 - n ≡ suc (32 - (n + 1)) = omega (arith, lt) in
    ap (λ m. list_any (fails x) (range_with_len n m)) more

pub returns-then-fails : goal.returns-then-fails
returns-then-fails c =
    let x = c.args.transition.now in
    let n = c.loop-slot.slot in
    sym (c.loop-slot.invariant ∙ one_more x n c.loop-slot-test.true ∙ ap (λ b. b || from x (n + 1)) (sym c.fails.ensures ∙ c.if-fails.true))

pub loop-slot-preserved : goal.loop-slot-preserved
loop-slot-preserved c =
    let x = c.args.transition.now in
    let n = c.loop-slot.slot in
    c.loop-slot.invariant ∙ one_more x n c.loop-slot-test.true ∙ ap (λ b. b || from x (n + 1)) (sym c.fails.ensures ∙ c.if-fails.false)

pub returns : goal.returns
returns c =
    let x = c.args.transition.now in
    let n = c.loop-slot.slot in
    let none : 32 - n ≡ 0 = omega (arith, c.loop-slot-test.false) in
    sym (c.loop-slot.invariant ∙ ap (λ m. list_any (fails x) (range_with_len n m)) none)
