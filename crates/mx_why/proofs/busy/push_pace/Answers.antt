use Rattle.std.proofs.Common.{◌≡◌, ◌++◌, List, ℕ, codes}
use Rattle.std.specs.Fmt.{decimal}
use Rattle.mx_why.specs.Busy.{computes_text, pace_line}
use Rattle.mx_why.specs.Reasons.{slot_text}
use Rattle.mx_why.proofs.Pieces.{extended, joined, last_joined}
use Rattle.mx_why.proofs.busy.push_pace.Goals as goal

pub returns : goal.returns
unfolding pace_line
returns c =
    let a0 : List ℕ = codes "busy: " in
    let h0 : c.extend_from_slice.new.self.items ≡ c.args.out.now.items ++ a0 = c.in_ok-extend_from_slice.ensures.items in
    let a1 : List ℕ = a0 ++ (slot_text c.args.end.now c.args.slot) in
    let h1 : c.push_slot.new.out.items ≡ c.args.out.now.items ++ a1 = joined c.args.out.now.items a0 (slot_text c.args.end.now c.args.slot) h0 c.in_ok-push_slot.ensures in
    let a2 : List ℕ = a1 ++ (computes_text c.args.pace.since) in
    let h2 : c.push_counted.new.out.items ≡ c.args.out.now.items ++ a2 = joined c.args.out.now.items a1 (computes_text c.args.pace.since) h1 c.in_ok-push_counted.ensures in
    let a3 : List ℕ = a2 ++ (codes ": ") in
    let h3 : c.extend_from_slice-2.new.self.items ≡ c.args.out.now.items ++ a3 = joined c.args.out.now.items a2 (codes ": ") h2 c.in_ok-extend_from_slice-2.ensures.items in
    let a4 : List ℕ = a3 ++ (decimal c.args.pace.spent) in
    let h4 : c.push_long.new.out.items ≡ c.args.out.now.items ++ a4 = joined c.args.out.now.items a3 (decimal c.args.pace.spent) h3 c.in_ok-push_long.ensures in
    last_joined c.extend_from_slice-3.result c.args.out.now.items a4 (codes " budgets are spent without a call\n") c.push_long.new.out.items c.extend_from_slice-3.new.self.items h4 (extended c.extend_from_slice-3.result c.extend_from_slice-3.new.self.items (c.push_long.new.out.items ++ (codes " budgets are spent without a call\n")) c.push_long.new.out.items c.extend_from_slice-3.ensures.items)
