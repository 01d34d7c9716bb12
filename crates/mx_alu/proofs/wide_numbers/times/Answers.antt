use Rattle.std.proofs.Common.{arith, w64, ◌*ℤ◌, FitsSigned, ◌^◌, ◌≡◌, to_z, of_z}
use Rattle.std.proofs.lemmas.Int.{to_z-of_z, fits_signed_mul}
use Rattle.mx_alu.proofs.wide_numbers.times.Goals as goal

pub returns : goal.returns
returns c =
    let x : to_z w64 (of_z w64 c.args.x) ≡ c.args.x = to_z-of_z w64 c.args.x c.ranges.x in
    let y : to_z w64 (of_z w64 c.args.y) ≡ c.args.y = to_z-of_z w64 c.args.y c.ranges.y in
    let fits : FitsSigned w64 (c.args.x *ℤ c.args.y) = fits_signed_mul w64 c.args.x c.args.y (2 ^ 31) (2 ^ 31) c.requires.left c.requires.right (omega arith) in
    cc (to_z-of_z w64 (c.args.x *ℤ c.args.y) fits)
