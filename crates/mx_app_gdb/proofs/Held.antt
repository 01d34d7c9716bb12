-- What a processor holds after a step of its process.
use Rattle.std.proofs.Common.{◌≡◌, ℕ, zero, suc, List, [], ◌∷◌, Option, Some, None, refl}
use Rattle.std.specs.Prelude.{slice_index_or, slice_set}
use Rattle.mx_machine.specs.World.{HeldProcess}

pub held_now : (cs : List (Option HeldProcess)) (a : ℕ) (l m : HeldProcess) → slice_index_or cs a None ≡ Some l
    → slice_index_or (slice_set cs a (Some m)) a None ≡ Some m
held_now [] a l m e = cc
held_now (c ∷ cs) zero l m e = refl
held_now (c ∷ cs) (suc a) l m e = held_now cs a l m e
