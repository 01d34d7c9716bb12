-- What `{:08x}` writes.
use Rattle.std.specs.Prelude.{◌≡◌, ℕ, ◌-◌, false, List, [], ◌++◌, length, replicate}
use Rattle.std.specs.Fmt.{padded_integral, format_spec, char_count}
use Rattle.std.proofs.Common.{arith}
use Rattle.std.proofs.lemmas.List.{append-nil}

-- digits after zeros, eight in all
pub padded_to_eight : (ds : List ℕ) → padded_integral (format_spec 32 0 4 8 18446744073709551615) false [] ds ≡ replicate (8 - length ds) 48 ++ ds
unfolding padded_integral char_count
padded_to_eight ds = let e : 8 - length ds - 0 - 0 ≡ 8 - length ds = omega arith in rw (append-nil ds, e)
