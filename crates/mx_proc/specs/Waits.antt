-- Blocked sends as pairs of who sends and to whom, in order of blocking (proc.c: the caller queues).
use Rattle.std.specs.Prelude.{ℕ, zero, suc, ◌+◌, ◌≡◌, ◌⊎◌, ◌==◌, ◌&&◌, ◌||◌, Bool, false, List, [], ◌∷◌, filter, length}
use Rattle.std.specs.Prelude.{Option, Some, None, if◌then◌else◌}
use Rattle.std.proofs.Common.{not}
use Rattle.mx_proc.specs.declared.process.Partner.{Partner}
use Rattle.mx_proc.specs.Partners.{may_be}
use Rattle.mx_proc.specs.Queues.{tally}

-- the pairs but that from this slot, the others in order
abbrev pub without_from : ℕ → List (ℕ × ℕ) → List (ℕ × ℕ)
without_from slot pairs = filter (λ (p : ℕ × ℕ). not (p.0 == slot)) pairs

-- for whom a slot waits
abbrev pub next_of : ℕ → List (ℕ × ℕ) → Option ℕ
next_of slot [] = None
next_of slot (p ∷ pairs) = if p.0 == slot then Some p.1 else next_of slot pairs

-- of those that the partner may be, the first that waits for a slot
abbrev pub caller_of : ℕ → Partner → List (ℕ × ℕ) → Option ℕ
caller_of slot partner [] = None
caller_of slot partner (p ∷ pairs) =
    if (p.1 == slot) && may_be partner (2 + p.0) then Some p.0 else caller_of slot partner pairs

-- how many pairs are from a slot
abbrev pub sends_of : ℕ → List (ℕ × ℕ) → ℕ
sends_of slot [] = 0
sends_of slot (p ∷ pairs) = tally (p.0 == slot) + sends_of slot pairs

-- the pair from p to q is in the list
abbrev pub IsPair : List (ℕ × ℕ) → ℕ → ℕ → Type 0
IsPair [] p q = ⊥
IsPair (e ∷ es) p q = ((e.0 ≡ p) × (e.1 ≡ q)) ⊎ IsPair es p q

-- a chain of one or more pairs leads from p to q
pub data Reaches (pairs : List (ℕ × ℕ)) : ℕ → ℕ → Type 0 where
  one_pair : (p q : ℕ) → IsPair pairs p q → Reaches pairs p q
  and_then : (p q r : ℕ) → IsPair pairs p q → Reaches pairs q r → Reaches pairs p r

-- no chain leads back to its first slot
abbrev pub Acyclic : List (ℕ × ℕ) → Type 0
Acyclic pairs = (p : ℕ) → Reaches pairs p p → ⊥

-- f of the next, or false
abbrev pub if_some : Option ℕ → (ℕ → Bool) → Bool
if_some None f = false
if_some (Some x) f = f x

-- whether one meets q within n pairs from p: if no chain leads back, and n is the number of pairs, a public
-- function's contract promises that this is Reaches
abbrev pub walk : ℕ → List (ℕ × ℕ) → ℕ → ℕ → Bool
walk zero pairs p q = false
walk (suc n) pairs p q = if_some (next_of p pairs) (λ x. (x == q) || walk n pairs x q)

-- whether a chain leads from p to q
abbrev pub leads : List (ℕ × ℕ) → ℕ → ℕ → Bool
leads pairs p q = walk (length pairs) pairs p q
