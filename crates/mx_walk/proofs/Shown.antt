-- What is shown of a walk, some positions on.
use Rattle.std.proofs.Common.{◌≡◌, ◌≤◌, ◌+◌, ◌-◌, ℕ, List, ◌++◌, length, refl, arith}
use Rattle.mx_machine.specs.declared.history.Record.{Record}
use Rattle.mx_walk.specs.declared.positions.Position.{Position}
use Rattle.mx_walk.specs.declared.progress.Part.{Part}
use Rattle.mx_walk.specs.Parts.{parts_between, walk_between}
use Rattle.mx_walk.specs.Positions.{IsBefore, IsUpTo}
use Rattle.mx_walk.proofs.Along.{up_trans}
use Rattle.mx_walk.proofs.Next.{up_to_of}
use Rattle.mx_walk.proofs.PartsShown.{after_place, then_between}

pub later_on : (p q r : Position) → IsUpTo p q → IsBefore q r → IsUpTo p r
later_on p q r l a = up_trans p q r l (up_to_of q r a)

pub records_up : (p q : Position) → IsUpTo p q → p.records ≤ q.records
records_up p q l = after_place p q q.records l refl

pub shown_more : (records : List Record) (p q r : Position) (before now then : List Part) → IsUpTo p q → IsBefore q r
    → now ≡ before ++ walk_between records p q → then ≡ now ++ walk_between records q r → then ≡ before ++ walk_between records p r
shown_more records p q r before now then l a shown more =
    then_between (length records) p.records q.records r.records before now then (records_up p q l) (records_up q r (up_to_of q r a)) shown more

pub shown_on : (records : List Record) (p q r : Position) (before now then : List Part) → IsUpTo p q → IsUpTo q r
    → now ≡ before ++ walk_between records p q → then ≡ now ++ walk_between records q r → then ≡ before ++ walk_between records p r
shown_on records p q r before now then l a shown more =
    then_between (length records) p.records q.records r.records before now then (records_up p q l) (records_up q r a) shown more

-- the same, counted after so many parts
pub counted_more : (all shown : ℕ) (p q r : Position) (before now then : List Part) → IsUpTo p q → IsBefore q r
    → now ≡ before ++ parts_between all shown (shown + (q.records - p.records)) → then ≡ now ++ parts_between all (shown + (q.records - p.records)) (shown + (r.records - p.records))
    → then ≡ before ++ parts_between all shown (shown + (r.records - p.records))
counted_more all shown p q r before now then l a had more =
    let le = records_up q r (up_to_of q r a) in
    let few : shown + (q.records - p.records) ≤ shown + (r.records - p.records) = omega (arith, le) in
    then_between all shown (shown + (q.records - p.records)) (shown + (r.records - p.records)) before now then (omega arith) few had more

-- of a search that hasn't gone beyond where it is to end, no more are counted than there are
pub counted_few : (all shown : ℕ) (p r to : Position) → IsUpTo r to → shown + (to.records - p.records) ≤ all → shown + (r.records - p.records) ≤ all
counted_few all shown p r to up few = let le = records_up r to up in omega (arith, le, few)
