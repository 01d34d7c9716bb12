use Rattle.std.proofs.Common.{◌≡◌, ◌^◌, ℤ, pos, ◌+ℤ◌, ◌*ℤ◌, FitsSigned, w64, to_z, of_z, subst, rules}
use Rattle.std.proofs.lemmas.Int.{to_z-of_z}
use Rattle.mx_word.specs.Word.{width, signed}
use Rattle.mx_alu.proofs.Joined.{raised_fits, joined_fits}
use Rattle.mx_alu.proofs.wide_numbers.join.Goals as goal

same : (z : ℤ) → FitsSigned w64 z → to_z w64 (of_z w64 z) ≡ z
same z fits = to_z-of_z w64 z fits

pub overflow_mul-result : goal.overflow_mul-result
overflow_mul-result c =
    let x : to_z w64 (of_z w64 c.signed.result) ≡ c.signed.result = same c.signed.result (search rules) in
    let y : to_z w64 (of_z w64 c.modulus.result) ≡ c.modulus.result = same c.modulus.result (search rules) in
    let e : signed (width c.args.size) c.args.high *ℤ pos (2 ^ width c.args.size) ≡ to_z w64 (of_z w64 c.signed.result) *ℤ to_z w64 (of_z w64 c.modulus.result) = cc in
    subst (λ (z : ℤ). FitsSigned w64 z) e (raised_fits c.args.size c.args.high c.requires.upper)

pub overflow_add-result : goal.overflow_add-result
overflow_add-result c =
    let x : to_z w64 (of_z w64 c.signed.result) ≡ c.signed.result = same c.signed.result (search rules) in
    let y : to_z w64 (of_z w64 c.modulus.result) ≡ c.modulus.result = same c.modulus.result (search rules) in
    let z : to_z w64 (of_z w64 c.from.result) ≡ c.from.result = same c.from.result (search rules) in
    let m : ℤ = signed (width c.args.size) c.args.high *ℤ pos (2 ^ width c.args.size) in
    let p : to_z w64 (of_z w64 m) ≡ m = same m (raised_fits c.args.size c.args.high c.requires.upper) in
    let e : m +ℤ pos c.args.low ≡ to_z w64 (of_z w64 (to_z w64 (of_z w64 c.signed.result) *ℤ to_z w64 (of_z w64 c.modulus.result))) +ℤ to_z w64 (of_z w64 c.from.result) = cc in
    subst (λ (z : ℤ). FitsSigned w64 z) e (joined_fits c.args.size c.args.high c.args.low c.requires.upper c.requires.lower)

pub returns : goal.returns
returns c =
    let x : to_z w64 (of_z w64 c.signed.result) ≡ c.signed.result = same c.signed.result (search rules) in
    let y : to_z w64 (of_z w64 c.modulus.result) ≡ c.modulus.result = same c.modulus.result (search rules) in
    let z : to_z w64 (of_z w64 c.from.result) ≡ c.from.result = same c.from.result (search rules) in
    let m : ℤ = signed (width c.args.size) c.args.high *ℤ pos (2 ^ width c.args.size) in
    let p : to_z w64 (of_z w64 m) ≡ m = same m (raised_fits c.args.size c.args.high c.requires.upper) in
    let q : to_z w64 (of_z w64 (m +ℤ pos c.args.low)) ≡ m +ℤ pos c.args.low = same _ (joined_fits c.args.size c.args.high c.args.low c.requires.upper c.requires.lower) in
    cc
