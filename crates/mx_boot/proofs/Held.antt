-- What a writer holds after it appended, if its contents are known.
use Rattle.std.proofs.Common.{◌≡◌, ℕ, List, [], ◌++◌, Option, Some, None, IsSome, unwrap_or, refl}
use Rattle.std.specs.Io.KnownBytes.{Appends, Keeps}

pub holds_more : (old new : Option (List ℕ)) (bytes : List ℕ) → IsSome old → Appends old new bytes → unwrap_or new [] ≡ unwrap_or old [] ++ bytes
holds_more None new bytes known more = absurd cc
holds_more (Some xs) None bytes known more = absurd more
holds_more (Some xs) (Some ys) bytes known more = more

pub is_known : (old new : Option (List ℕ)) (bytes : List ℕ) → IsSome old → Appends old new bytes → IsSome new
is_known None new bytes known more = absurd cc
is_known (Some xs) None bytes known more = absurd more
is_known (Some xs) (Some ys) bytes known more = refl

pub holds_still : (old new : Option (List ℕ)) → IsSome old → Keeps old new → unwrap_or new [] ≡ unwrap_or old []
holds_still None new known same = absurd cc
holds_still (Some xs) None known same = absurd same
holds_still (Some xs) (Some ys) known same = same

pub stays_known : (old new : Option (List ℕ)) → IsSome old → Keeps old new → IsSome new
stays_known None new known same = absurd cc
stays_known (Some xs) None known same = absurd same
stays_known (Some xs) (Some ys) known same = refl
