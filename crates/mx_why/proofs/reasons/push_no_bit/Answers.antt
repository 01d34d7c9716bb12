use Rattle.std.proofs.Common.{◌≡◌, ◌++◌, List, ℕ, codes}
use Rattle.mx_insn_words.specs.Numbers.{hexadecimal}
use Rattle.mx_why.specs.Reasons.{no_bit_text, bit_text, slot_text}
use Rattle.mx_why.proofs.Pieces.{joined, last_joined}
use Rattle.mx_why.proofs.reasons.push_no_bit.Goals as goal

pub returns : goal.returns
unfolding no_bit_text
returns c =
    let a0 : List ℕ = codes "'s send " in
    let h0 : c.extend_from_slice.new.self.items ≡ c.args.out.now.items ++ a0 = c.in_ok-extend_from_slice.ensures.items in
    let a1 : List ℕ = a0 ++ (hexadecimal c.args.seat.now.sends) in
    let h1 : c.push_mask.new.out.items ≡ c.args.out.now.items ++ a1 = joined c.args.out.now.items a0 (hexadecimal c.args.seat.now.sends) h0 c.in_ok-push_mask.ensures in
    let a2 : List ℕ = a1 ++ (codes " has no bit for ") in
    let h2 : c.extend_from_slice-2.new.self.items ≡ c.args.out.now.items ++ a2 = joined c.args.out.now.items a1 (codes " has no bit for ") h1 c.in_ok-extend_from_slice-2.ensures.items in
    let a3 : List ℕ = a2 ++ (slot_text c.args.end.now c.args.slot) in
    let h3 : c.push_slot.new.out.items ≡ c.args.out.now.items ++ a3 = joined c.args.out.now.items a2 (slot_text c.args.end.now c.args.slot) h2 c.in_ok-push_slot.ensures in
    last_joined c.push_bit.result c.args.out.now.items a3 (bit_text c.args.slot) c.push_slot.new.out.items c.push_bit.new.out.items h3 c.push_bit.ensures
