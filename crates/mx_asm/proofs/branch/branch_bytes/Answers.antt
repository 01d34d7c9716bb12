use Rattle.std.proofs.Common.{◌≡◌, ℕ, ◌+◌, length, sym, subst}
use Rattle.mx_encode.specs.Chosen.{Chosen}
use Rattle.mx_asm.specs.Branches.{branch_by, branch_marks, branch_length, distance}
use Rattle.mx_asm.proofs.Branching.{branch_bytes_length}
use Rattle.mx_asm.proofs.branch.branch_bytes.Goals as goal

pub returns-clause-length : goal.returns-clause-length
returns-clause-length c =
    let k = c.args.branch in
    let d = distance (c.args.at + branch_length k) c.args.target in
    branch_bytes_length k d c.in-Ok.bytes.items c.requires (rw (c.branch_by.ensures, c.distance-displacement.ensures, c.branch_length.ensures.length, c.is_near.ensures) at c.in-Ok.ensures.chosen)

pub returns-clause-bytes : goal.returns-clause-bytes
returns-clause-bytes c =
    let k = c.args.branch in
    let d = distance (c.args.at + branch_length k) c.args.target in
    let x : Chosen (branch_by k d) (branch_marks k) c.in-Ok.bytes.items = rw (c.branch_by.ensures, c.distance-displacement.ensures, c.branch_length.ensures.length, c.is_near.ensures) at c.in-Ok.ensures.chosen in
    let same : length c.in-Ok.bytes.items ≡ branch_length k = branch_bytes_length k d c.in-Ok.bytes.items c.requires x in
    subst (λ (n : ℕ). Chosen (branch_by k (distance (c.args.at + n) c.args.target)) (branch_marks k) c.in-Ok.bytes.items) (sym same) x
