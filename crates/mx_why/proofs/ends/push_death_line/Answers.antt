use Rattle.std.proofs.Common.{◌≡◌, ◌++◌, List, ℕ, codes}
use Rattle.mx_why.specs.Reasons.{slot_text}
use Rattle.std.specs.Fmt.{decimal}
use Rattle.mx_why.specs.Endings.{death_line, then_text, times_text}
use Rattle.mx_why.proofs.Pieces.{extended, joined, joined_is, last_joined}
use Rattle.mx_why.proofs.ends.push_death_line.Goals as goal

pub returns : goal.returns
unfolding death_line
returns c =
    let a0 : List ℕ = codes "died: " in
    let h0 : c.extend_from_slice.new.self.items ≡ c.args.out.now.items ++ a0 = c.in_ok-extend_from_slice.ensures.items in
    let a1 : List ℕ = a0 ++ (slot_text c.args.end.now c.args.note.now.slot) in
    let h1 : c.push_slot.new.out.items ≡ c.args.out.now.items ++ a1 = joined c.args.out.now.items a0 (slot_text c.args.end.now c.args.note.now.slot) h0 c.in_ok-push_slot.ensures in
    let a2 : List ℕ = a1 ++ (times_text c.args.death.times) in
    let h2 : c.push_times.new.out.items ≡ c.args.out.now.items ++ a2 = joined c.args.out.now.items a1 (times_text c.args.death.times) h1 c.in_ok-push_times.ensures in
    let a3 : List ℕ = a2 ++ (codes " at record ") in
    let h3 : c.extend_from_slice-2.new.self.items ≡ c.args.out.now.items ++ a3 = joined c.args.out.now.items a2 (codes " at record ") h2 c.in_ok-extend_from_slice-2.ensures.items in
    let a4 : List ℕ = a3 ++ (decimal c.args.note.now.number) in
    let h4 : c.push_decimal.new.out.items ≡ c.args.out.now.items ++ a4 = joined c.args.out.now.items a3 (decimal c.args.note.now.number) h3 c.in_ok-push_decimal.ensures in
    let a5 : List ℕ = a4 ++ (codes ", ") in
    let h5 : c.extend_from_slice-3.new.self.items ≡ c.args.out.now.items ++ a5 = joined c.args.out.now.items a4 (codes ", ") h4 c.in_ok-extend_from_slice-3.ensures.items in
    let a6 : List ℕ = a5 ++ c.args.note.now.text in
    let h6 : c.extend_from_slice-4.new.self.items ≡ c.args.out.now.items ++ a6 = joined_is c.args.out.now.items a5 c.as_slice.result.now c.args.note.now.text h5 c.as_slice.ensures c.in_ok-extend_from_slice-4.ensures.items in
    let a7 : List ℕ = a6 ++ (then_text c.args.end.now c.args.note.now.slot c.args.death) in
    let h7 : c.push_then.new.out.items ≡ c.args.out.now.items ++ a7 = joined c.args.out.now.items a6 (then_text c.args.end.now c.args.note.now.slot c.args.death) h6 c.in_ok-push_then.ensures in
    last_joined c.extend_from_slice-5.result c.args.out.now.items a7 (codes "\n") c.push_then.new.out.items c.extend_from_slice-5.new.self.items h7 (extended c.extend_from_slice-5.result c.extend_from_slice-5.new.self.items (c.push_then.new.out.items ++ (codes "\n")) c.push_then.new.out.items c.extend_from_slice-5.ensures.items)
