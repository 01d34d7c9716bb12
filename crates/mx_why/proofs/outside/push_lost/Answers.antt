use Rattle.std.proofs.Common.{◌≡◌, ◌++◌, List, ℕ, codes}
use Rattle.std.specs.Fmt.{decimal}
use Rattle.mx_why.specs.Outside.{event_text, lost_text, more_lost_text}
use Rattle.mx_why.proofs.Pieces.{extended, joined, last_joined}
use Rattle.mx_why.proofs.outside.push_lost.Goals as goal

pub returns : goal.returns
unfolding lost_text
returns c =
    let a0 : List ℕ = codes "outside: EVENTS line " in
    let h0 : c.extend_from_slice.new.self.items ≡ c.args.out.now.items ++ a0 = c.in_ok-extend_from_slice.ensures.items in
    let a1 : List ℕ = a0 ++ (decimal c.args.lost.number) in
    let h1 : c.push_long.new.out.items ≡ c.args.out.now.items ++ a1 = joined c.args.out.now.items a0 (decimal c.args.lost.number) h0 c.in_ok-push_long.ensures in
    let a2 : List ℕ = a1 ++ (codes " (") in
    let h2 : c.extend_from_slice-2.new.self.items ≡ c.args.out.now.items ++ a2 = joined c.args.out.now.items a1 (codes " (") h1 c.in_ok-extend_from_slice-2.ensures.items in
    let a3 : List ℕ = a2 ++ (event_text c.args.end.now c.args.lost.line) in
    let h3 : c.push_event.new.out.items ≡ c.args.out.now.items ++ a3 = joined c.args.out.now.items a2 (event_text c.args.end.now c.args.lost.line) h2 c.in_ok-push_event.ensures in
    let a4 : List ℕ = a3 ++ (codes ") has no record, so it was refused") in
    let h4 : c.extend_from_slice-3.new.self.items ≡ c.args.out.now.items ++ a4 = joined c.args.out.now.items a3 (codes ") has no record, so it was refused") h3 c.in_ok-extend_from_slice-3.ensures.items in
    let a5 : List ℕ = a4 ++ (more_lost_text c.args.more) in
    let h5 : c.push_more_lost.new.out.items ≡ c.args.out.now.items ++ a5 = joined c.args.out.now.items a4 (more_lost_text c.args.more) h4 c.in_ok-push_more_lost.ensures in
    last_joined c.extend_from_slice-4.result c.args.out.now.items a5 (codes "\n") c.push_more_lost.new.out.items c.extend_from_slice-4.new.self.items h5 (extended c.extend_from_slice-4.result c.extend_from_slice-4.new.self.items (c.push_more_lost.new.out.items ++ (codes "\n")) c.push_more_lost.new.out.items c.extend_from_slice-4.ensures.items)
