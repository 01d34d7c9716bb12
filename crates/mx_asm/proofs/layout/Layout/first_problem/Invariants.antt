use Rattle.std.proofs.Common.{◌≡◌, ◌*◌, ◌^◌, drop}
use Rattle.mx_asm.specs.Layout.{no_lines_above, SizesWithin}
use Rattle.mx_asm.specs.Kept.{first_problem_kept}
use Rattle.mx_asm.specs.View.{above_of}
use Rattle.mx_asm.proofs.layout.Layout.first_problem.Given as goal

abbrev pub invariant-loop-kept : goal.invariant-loop-kept
invariant-loop-kept l = record {
  fault : first_problem_kept (above_of l.self) no_lines_above.sizes l.lines ≡ first_problem_kept (above_of l.self) l.sizes (drop l.kept-index l.lines);
  sizes : SizesWithin l.sizes (l.kept-index * 2 ^ 64);
}
