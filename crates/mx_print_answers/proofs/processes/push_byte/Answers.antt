use Rattle.std.proofs.Common.{◌<◌, ◌∷◌, ℕ, false, List, ap, arith}
use Rattle.std.proofs.lemmas.Fmt.{hex_byte}
use Rattle.mx_print_answers.proofs.processes.push_byte.Goals as goal

pub returns : goal.returns
returns c =
    let small : c.args.byte < 256 = omega arith in
    rw (← ap (λ (t : List ℕ). 32 ∷ t) (hex_byte false c.args.byte small)) (rw (c.laid_out.ensures, c.in_radix.ensures) at c.write.ensures.bytes)
