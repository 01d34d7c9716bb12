use Rattle.std.proofs.Common.{◌≡◌, ℕ, suc, ◌+◌, ◌-◌, ◌<◌, ◌∙◌, ap, arith, sym}
use Rattle.mx_exec.specs.declared.image.Image.{Image}
use Rattle.mx_exec.specs.Step.{one_step}
use Rattle.mx_why.specs.declared.readings.Cell.{Cell}
use Rattle.mx_why.specs.declared.uses.Use.{Use}
use Rattle.mx_why.specs.declared.uses.Use.TheVariants.{Reads, Overwrites, Neither}
use Rattle.mx_why.specs.Readings.{or_later, use_at, use_in}
use Rattle.mx_why.proofs.readings.use_in.Goals as goal

-- one of the steps that are left
one_more : (cell : Cell) (n k : ℕ) (first m : Image) (u : Use) → k < n → use_in cell (n - k) m ≡ use_in cell n first → u ≡ use_at cell m
    → or_later u (use_in cell (n - (k + 1)) (one_step m).1) ≡ use_in cell n first
one_more cell n k first m u below h is =
    let q : n - k ≡ suc (n - (k + 1)) = omega (arith, below) in
    ap (λ (v : Use). or_later v (use_in cell (n - (k + 1)) (one_step m).1)) is ∙ ap (λ (j : ℕ). use_in cell j m) (sym q) ∙ h

pub returns-in-Reads : goal.returns-in-Reads
returns-in-Reads c =
    one_more c.args.cell c.args.steps c.loop.counter c.args.image.now c.loop.image Reads c.loop-test.true c.loop.invariant (sym c.in-Reads.is ∙ c.use_at.ensures)

pub returns-in-Overwrites : goal.returns-in-Overwrites
returns-in-Overwrites c =
    one_more c.args.cell c.args.steps c.loop.counter c.args.image.now c.loop.image Overwrites c.loop-test.true c.loop.invariant (sym c.in-Overwrites.is ∙ c.use_at.ensures)

pub loop-preserved : goal.loop-preserved
loop-preserved c =
    ap (λ (m : Image). use_in c.args.cell (c.args.steps - (c.loop.counter + 1)) m) c.step.ensures.image
    ∙ one_more c.args.cell c.args.steps c.loop.counter c.args.image.now c.loop.image Neither c.loop-test.true c.loop.invariant (sym c.in-Neither.is ∙ c.use_at.ensures)

pub returns : goal.returns
returns c =
    let none : c.args.steps - c.loop.counter ≡ 0 = omega arith in
    ap (λ (j : ℕ). use_in c.args.cell j c.loop.image) (sym none) ∙ c.loop.invariant
