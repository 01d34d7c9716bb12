use Rattle.std.proofs.Common.{◌≡◌, ◌++◌, List, ℕ, ap, arith, codes, length}
use Rattle.std.specs.Fmt.{decimal}
use Rattle.mx_app_explore.proofs.Pieces.{extended, joined, joined_is, last_joined}
use Rattle.mx_app_explore.proofs.found_text.push_head.Goals as goal

pub returns : goal.returns
returns c =
    let o = c.args.text.now.items in
    let a0 : List ℕ = codes "outcome " in
    let h0 : c.extend_from_slice.new.self.items ≡ o ++ a0 = c.in_ok-extend_from_slice.ensures.items in
    let a1 : List ℕ = a0 ++ decimal c.args.number in
    let h1 : c.push_long.new.out.items ≡ o ++ a1 = joined o a0 (decimal c.args.number) h0 c.in_ok-push_long.ensures in
    let a2 : List ℕ = a1 ++ codes ": " in
    let h2 : c.extend_from_slice-2.new.self.items ≡ o ++ a2 = joined o a1 (codes ": ") h1 c.in_ok-extend_from_slice-2.ensures.items in
    let a3 : List ℕ = a2 ++ decimal c.args.outcome.now.count in
    let h3 : c.push_long-2.new.out.items ≡ o ++ a3 = joined o a2 (decimal c.args.outcome.now.count) h2 c.in_ok-push_long-2.ensures in
    let a4 : List ℕ = a3 ++ codes " schedules, the first with " in
    let h4 : c.extend_from_slice-3.new.self.items ≡ o ++ a4 = joined o a3 (codes " schedules, the first with ") h3 c.in_ok-extend_from_slice-3.ensures.items in
    let n = length c.args.outcome.now.departures.items in
    let count : c.len.result ≡ n = omega (arith, c.len.ensures, c.args.outcome.now.departures.ok.0) in
    let a5 : List ℕ = a4 ++ decimal n in
    let h5 : c.push_long-3.new.out.items ≡ o ++ a5 = joined_is o a4 (decimal c.len.result) (decimal n) h4 (ap decimal count) c.in_ok-push_long-3.ensures in
    let a6 : List ℕ = a5 ++ codes " departures and " in
    let h6 : c.extend_from_slice-4.new.self.items ≡ o ++ a6 = joined o a5 (codes " departures and ") h5 c.in_ok-extend_from_slice-4.ensures.items in
    let a7 : List ℕ = a6 ++ decimal c.args.outcome.now.records in
    let h7 : c.push_long-4.new.out.items ≡ o ++ a7 = joined o a6 (decimal c.args.outcome.now.records) h6 c.in_ok-push_long-4.ensures in
    let last : List ℕ = codes " records\n" in
    last_joined c.extend_from_slice-5.result o a7 last c.push_long-4.new.out.items c.extend_from_slice-5.new.self.items h7
    (extended c.extend_from_slice-5.result c.extend_from_slice-5.new.self.items (c.push_long-4.new.out.items ++ last) c.push_long-4.new.out.items c.extend_from_slice-5.ensures.items)
