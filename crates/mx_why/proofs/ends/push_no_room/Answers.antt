use Rattle.std.proofs.Common.{◌≡◌, ◌++◌, ◌≤◌, List, ℕ, Bool, true, false, [], codes, refl, ap, subst, sym, OnOk, nat_lt, arith}
use Rattle.std.proofs.lemmas.Bool.{ltb-true}
use Rattle.std.specs.Prelude.{if◌then◌else◌}
use Rattle.std.specs.Fmt.{decimal}
use Rattle.mx_why.specs.Endings.{no_room_text}
use Rattle.mx_why.proofs.Pieces.{last_joined}
use Rattle.mx_why.proofs.ends.push_no_room.Goals as goal

no_room : (n log : ℕ) → log ≤ n → nat_lt n log ≡ false
no_room n log le = by_bool (nat_lt n log) refl
  where
    by_bool : (b : Bool) → nat_lt n log ≡ b → b ≡ false
    by_bool true e = absurd (omega (arith, ltb-true n log e, le))
    by_bool false e = refl

pub returns : goal.returns
unfolding no_room_text
returns c =
    let text : List ℕ = codes ", and full: CONFIG has log " in
    let is : no_room_text c.args.records c.args.log ≡ text ++ decimal c.args.log = ap (λ (b : Bool). if b then [] else text ++ decimal c.args.log) (no_room c.args.records c.args.log c.if-records-log.false) in
    subst (λ (t : List ℕ). OnOk c.push_decimal.result (c.push_decimal.new.out.items ≡ c.args.out.now.items ++ t)) (sym is)
    (last_joined c.push_decimal.result c.args.out.now.items text (decimal c.args.log) c.extend_from_slice.new.self.items c.push_decimal.new.out.items c.in_ok-extend_from_slice.ensures.items c.push_decimal.ensures)
