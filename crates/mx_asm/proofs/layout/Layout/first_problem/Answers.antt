use Rattle.std.proofs.Common.{◌≡◌, ◌∙◌, ◌+◌, refl, sym, None}
use Rattle.mx_asm.specs.View.{above_of}
use Rattle.mx_asm.specs.Layout.{statement_said, address_of_offset, section_offset_of}
use Rattle.mx_asm.specs.Faults.{problem_at}
use Rattle.mx_asm.proofs.Standing.{sizes_more}
use Rattle.mx_asm.proofs.Kept.{next_kept, problem_on}
use Rattle.mx_asm.proofs.layout.Layout.first_problem.Goals as goal

pub loop-kept-preserved : goal.loop-kept-preserved
loop-kept-preserved c =
    let i = c.loop-kept.kept-index in
    let a = above_of c.args.self.now in
    let s = c.loop-kept.sizes in
    let k = c.kept-item.result in
    let next = next_kept i c.args.lines.now k c.loop-kept-test.true c.kept-item.is in
    let none : problem_at a (address_of_offset a (section_offset_of s)) (statement_said k.line) ≡ None = rw (c.address_of-at.ensures, c.spot.ensures) at (sym c.problem_at.ensures ∙ c.in-None.is) in
    record {
      fault = c.loop-kept.invariant.fault ∙ problem_on a s c.after-sizes.result i c.args.lines.now k next none c.after-sizes.ensures.sizes;
      sizes = sizes_more s c.after-sizes.result i (i + 1) c.loop-kept.invariant.sizes c.after-sizes.ensures.small refl;
    }
