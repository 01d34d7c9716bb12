use Rattle.std.proofs.Common.{◌≡◌, ◌*◌, ◌^◌, drop, map, None}
use Rattle.mx_asm.specs.Layout.{SizesWithin}
use Rattle.mx_asm.specs.Kept.{first_problem_kept}
use Rattle.mx_asm.specs.View.{above_of}
use Rattle.mx_asm.proofs.Emitting.{Completes}
use Rattle.mx_asm.proofs.Kept.{line_in}
use Rattle.mx_asm.proofs.emit.parts_of.Given as goal

-- any bytes of the lines that are left complete what is put out
abbrev pub invariant-loop-kept : goal.invariant-loop-kept
invariant-loop-kept l = record {
  clean : first_problem_kept (above_of l.layout) l.sizes (drop l.kept-index l.lines) ≡ None;
  sizes : SizesWithin l.sizes (l.kept-index * 2 ^ 64);
  completes : Completes (above_of l.layout) (map line_in l.lines) l.kept-index l.sizes l.parts.text.items l.parts.init.items;
}
