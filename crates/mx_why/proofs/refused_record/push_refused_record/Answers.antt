use Rattle.std.proofs.Common.{◌≡◌, ◌++◌, List, ℕ, ap, codes}
use Rattle.std.specs.Fmt.{decimal}
use Rattle.mx_look.specs.Trace.{event_text}
use Rattle.mx_why.specs.RefusedRecords.{cause_text, refused_record}
use Rattle.mx_why.proofs.Pieces.{joined, joined_is, last_joined}
use Rattle.mx_why.proofs.refused_record.push_refused_record.Goals as goal

pub returns : goal.returns
unfolding refused_record
returns c =
    let a0 : List ℕ = codes "ends: record " in
    let h0 : c.extend_from_slice.new.self.items ≡ c.args.out.now.items ++ a0 = c.in_ok-extend_from_slice.ensures.items in
    let a1 : List ℕ = a0 ++ (decimal c.args.number) in
    let h1 : c.push_long.new.out.items ≡ c.args.out.now.items ++ a1 = joined c.args.out.now.items a0 (decimal c.args.number) h0 c.in_ok-push_long.ensures in
    let a2 : List ℕ = a1 ++ (codes " (") in
    let h2 : c.extend_from_slice-2.new.self.items ≡ c.args.out.now.items ++ a2 = joined c.args.out.now.items a1 (codes " (") h1 c.in_ok-extend_from_slice-2.ensures.items in
    let a3 : List ℕ = a2 ++ (decimal c.args.entry.actor) in
    let h3 : c.push_decimal.new.out.items ≡ c.args.out.now.items ++ a3 = joined_is c.args.out.now.items a2 (decimal c.from.result) (decimal c.args.entry.actor) h2 (ap decimal c.from.ensures) c.in_ok-push_decimal.ensures in
    let a4 : List ℕ = a3 ++ (codes " ") in
    let h4 : c.extend_from_slice-3.new.self.items ≡ c.args.out.now.items ++ a4 = joined c.args.out.now.items a3 (codes " ") h3 c.in_ok-extend_from_slice-3.ensures.items in
    let a5 : List ℕ = a4 ++ (event_text c.args.entry.event) in
    let h5 : c.push_event.new.out.items ≡ c.args.out.now.items ++ a5 = joined c.args.out.now.items a4 (event_text c.args.entry.event) h4 c.in_ok-push_event.ensures in
    last_joined c.push_cause.result c.args.out.now.items a5 (cause_text c.args.refusal) c.push_event.new.out.items c.push_cause.new.out.items h5 c.push_cause.ensures
