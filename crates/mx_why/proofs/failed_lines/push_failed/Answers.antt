use Rattle.std.proofs.Common.{◌≡◌, ◌++◌, List, ℕ, codes}
use Rattle.std.specs.Fmt.{decimal}
use Rattle.mx_why.specs.Readings.{unread_text}
use Rattle.mx_why.specs.Reasons.{slot_text}
use Rattle.mx_why.specs.Endings.{times_text}
use Rattle.mx_why.specs.FailedLines.{failed_line}
use Rattle.mx_why.specs.WantLines.{details_text}
use Rattle.mx_why.proofs.Pieces.{extended, joined, joined_is, last_joined}
use Rattle.mx_why.proofs.failed_lines.push_failed.Goals as goal

pub returns : goal.returns
unfolding failed_line
returns c =
    let a0 : List ℕ = codes "refused: " in
    let h0 : c.extend_from_slice.new.self.items ≡ c.args.out.now.items ++ a0 = c.in_ok-extend_from_slice.ensures.items in
    let a1 : List ℕ = a0 ++ (slot_text c.args.end.now c.args.call.now.slot) in
    let h1 : c.push_slot.new.out.items ≡ c.args.out.now.items ++ a1 = joined c.args.out.now.items a0 (slot_text c.args.end.now c.args.call.now.slot) h0 c.in_ok-push_slot.ensures in
    let a2 : List ℕ = a1 ++ (codes ": ") in
    let h2 : c.extend_from_slice-2.new.self.items ≡ c.args.out.now.items ++ a2 = joined c.args.out.now.items a1 (codes ": ") h1 c.in_ok-extend_from_slice-2.ensures.items in
    let a3 : List ℕ = a2 ++ (c.args.call.now.text) in
    let h3 : c.extend_from_slice-3.new.self.items ≡ c.args.out.now.items ++ a3 = joined_is c.args.out.now.items a2 c.as_slice.result.now (c.args.call.now.text) h2 c.as_slice.ensures c.in_ok-extend_from_slice-3.ensures.items in
    let a4 : List ℕ = a3 ++ (times_text c.args.call.now.times) in
    let h4 : c.push_times.new.out.items ≡ c.args.out.now.items ++ a4 = joined c.args.out.now.items a3 (times_text c.args.call.now.times) h3 c.in_ok-push_times.ensures in
    let a5 : List ℕ = a4 ++ (codes " at record ") in
    let h5 : c.extend_from_slice-4.new.self.items ≡ c.args.out.now.items ++ a5 = joined c.args.out.now.items a4 (codes " at record ") h4 c.in_ok-extend_from_slice-4.ensures.items in
    let a6 : List ℕ = a5 ++ (decimal c.args.call.now.number) in
    let h6 : c.push_decimal.new.out.items ≡ c.args.out.now.items ++ a6 = joined c.args.out.now.items a5 (decimal c.args.call.now.number) h5 c.in_ok-push_decimal.ensures in
    let a7 : List ℕ = a6 ++ (c.args.call.now.place) in
    let h7 : c.extend_from_slice-5.new.self.items ≡ c.args.out.now.items ++ a7 = joined_is c.args.out.now.items a6 c.as_slice-2.result.now (c.args.call.now.place) h6 c.as_slice-2.ensures c.in_ok-extend_from_slice-5.ensures.items in
    let d : List ℕ = details_text c.args.config.now c.args.end.now c.args.call.now.slot c.args.call.now.want in
    let a8 : List ℕ = a7 ++ d in
    let h8 : c.push_details.new.out.items ≡ c.args.out.now.items ++ a8 = joined c.args.out.now.items a7 d h7 c.in_ok-push_details.ensures in
    let a9 : List ℕ = a8 ++ (unread_text c.args.call.now.reading) in
    let h9 : c.extend_from_slice-6.new.self.items ≡ c.args.out.now.items ++ a9 = joined_is c.args.out.now.items a8 c.text.result.now (unread_text c.args.call.now.reading) h8 c.text.ensures c.in_ok-extend_from_slice-6.ensures.items in
    last_joined c.extend_from_slice-7.result c.args.out.now.items a9 (codes "\n") c.extend_from_slice-6.new.self.items c.extend_from_slice-7.new.self.items h9 (extended c.extend_from_slice-7.result c.extend_from_slice-7.new.self.items (c.extend_from_slice-6.new.self.items ++ (codes "\n")) c.extend_from_slice-6.new.self.items c.extend_from_slice-7.ensures.items)
